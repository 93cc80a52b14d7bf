use Rattle.std.proofs.Common.{refl}
use Rattle.asl_def_schema.specs.Demands.{call}
use Rattle.asl_def_judge.proofs.Answering.{judges_broken}
use Rattle.asl_def_judge.proofs.value.call_fault.Goals as goal

pub returns : goal.returns
returns c = judges_broken (call c.args.text.now) _ (λ h. c.in_default.not-OutOfMemory (c.in-Err.ensures.only h)) refl
