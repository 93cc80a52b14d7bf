use Rattle.std.proofs.Common.{refl, sym, ◌∙◌}
use Rattle.asl_def_schema.specs.Demands.{timestamp}
use Rattle.asl_def_judge.proofs.Answering.{judges_broken}
use Rattle.asl_def_judge.proofs.value.stamp_fault.Goals as goal

pub returns-in-None : goal.returns-in-None
returns-in-None c = judges_broken (timestamp c.args.text.now) _ (λ h. absurd (let e = sym c.in-None.is ∙ c.read_stamp.ensures.only h.moment h.is_timestamp in cc)) refl
