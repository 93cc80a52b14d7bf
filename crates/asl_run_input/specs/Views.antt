-- What callers see of the texts of a run, and of the steps that they spell.
use Rattle.std.specs.Prelude.{List, Option, option_map}
use Rattle.std.specs.declared.vec.Vec.{Vec}
use Rattle.asl_run_input.specs.declared.run_texts.RunTexts.{RunTexts}
use Rattle.asl_run_input.specs.declared.step_at.StepAt.{StepAt}
use Rattle.asl_run_input.specs.Emulations.{Texts, run_texts}

abbrev pub texts_of : RunTexts → Texts
texts_of t =
    run_texts t.definition.now t.mocks.now t.chosen.now t.input.now
    (option_map (λ b. b.now) t.steps)

abbrev pub steps_in : {Y : Type 0} → Option (Vec StepAt Y) → Option (List StepAt)
steps_in ss = option_map (λ v. v.items) ss
