use Rattle.std.proofs.Common.{refl}
use Rattle.asl_intrinsic.proofs.Starting.{from_context, from_input}
use Rattle.asl_choice.proofs.lookup.root.Goals as goal

pub returns-in-Input : goal.returns-in-Input
returns-in-Input c = rw (from_input c.args.path.now c.in-Input.ensures) refl

pub returns-in-Context : goal.returns-in-Context
returns-in-Context c = rw (from_context c.args.path.now c.in-Context.ensures) refl
