use Rattle.std.proofs.Common.{refl, ◌∙◌, ap}
use Rattle.std.specs.Prelude.{codes}
use Rattle.asl_def_shared.proofs.Names.{named}
use Rattle.asl_def_shared.proofs.Owning.{copied}
use Rattle.asl_def_states.specs.Show.{told, fail_members, told_at}
use Rattle.asl_def_states.proofs.fail.Fail.cause.Goals as goal

pub returns-clause-told : goal.returns-clause-told
returns-clause-told c = ap told (copied c.as_ref.result _ c.as_ref.ensures.value) ∙ named (codes "Cause") (told c.args.self.now.cause) (fail_members c.args.self.now) refl

pub returns-clause-at : goal.returns-clause-at
returns-clause-at c = ap told_at (copied c.as_ref.result _ c.as_ref.ensures.value) ∙ named (codes "CausePath") (told_at c.args.self.now.cause) (fail_members c.args.self.now) refl
