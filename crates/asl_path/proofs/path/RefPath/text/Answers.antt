use Rattle.std.proofs.Common.{subst}
use Rattle.asl_path.specs.Grammar.{IsPath}
use Rattle.asl_path.proofs.Judging.{read_spells}
use Rattle.asl_path.proofs.path.RefPath.text.Goals as goal

pub returns-clause-path : goal.returns-clause-path
returns-clause-path c = subst IsPath c.self.view_is (record { root = c.self.inside.root; steps = c.self.inside.steps.items; spelled = read_spells c.self.inside.spelled c.self.inside.root c.self.inside.steps.items c.self.invariant })
