use Rattle.std.proofs.Common.{refl}
use Rattle.asl_def_judge.proofs.Roots.{one_root}
use Rattle.asl_def_judge.proofs.value.is_in_input.Goals as goal

pub returns-in-Input : goal.returns-in-Input
returns-in-Input c = (λ h. rw c.in-Input.is at c.root.ensures, λ h. refl)

pub returns-in-Context : goal.returns-in-Context
returns-in-Context c = (λ h. cc, λ h. absurd (one_root c.args.path.now (rw c.in-Context.is at c.root.ensures) h))
