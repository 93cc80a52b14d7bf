use Rattle.std.proofs.Common.{ℕ, ap}
use Rattle.std.proofs.lemmas.Iterator.{YieldsList-from_chars}
use Rattle.std.proofs.lemmas.Iterator.Consumers.{count_from_yields_List}
use Rattle.std.specs.Prelude.{nat_lt}
use Rattle.asl_graph.specs.Names.{most}
use Rattle.asl_graph.proofs.naming.has_more.Goals as goal

pub returns : goal.returns
returns c = ap (λ (n : ℕ). nat_lt most n) (count_from_yields_List _ c.count.result c.count.ensures.ran (YieldsList-from_chars c.args.text.now c.utf8.text cc))
