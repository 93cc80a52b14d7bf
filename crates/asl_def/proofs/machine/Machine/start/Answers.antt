use Rattle.std.proofs.Common.{◌∙◌, ap, List, ℕ}
use Rattle.std.specs.Prelude.{Some}
use Rattle.asl_json_data.specs.Data.{text}
use Rattle.asl_def_shared.proofs.Names.{start_named}
use Rattle.asl_def.proofs.machine.Machine.start.Goals as goal

pub returns : goal.returns
returns c = rw (← c.parts.ensures.shown) (ap (λ (n : List ℕ). Some (text n)) c.as_str.ensures ∙ start_named c.parts.result.now.table c.parts.result.now.heading c.parts.result.now.root)
