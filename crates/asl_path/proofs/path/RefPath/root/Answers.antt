use Rattle.std.proofs.Common.{subst}
use Rattle.asl_path.specs.Grammar.{StartsFrom}
use Rattle.asl_path.proofs.Judging.{read_spells}
use Rattle.asl_path.proofs.path.RefPath.root.Goals as goal

pub returns : goal.returns
returns c = subst (StartsFrom c.self.inside.root) c.self.view_is (record { steps = c.self.inside.steps.items; spelled = read_spells c.self.inside.spelled c.self.inside.root c.self.inside.steps.items c.self.invariant })
