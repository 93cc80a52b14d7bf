use Rattle.std.proofs.Common.{◌∙◌, ap, sym, Some}
use Rattle.asl_json.specs.View.{data_of}
use Rattle.asl_json.specs.declared.value.Json.{Json}
use Rattle.asl_step_io.specs.Paths.{no_value}
use Rattle.asl_step_io.proofs.Giving.{given_some}
use Rattle.asl_step_io.proofs.paths.part.Goals as goal

pub returns-in_ok-copied-in-Some : goal.returns-in_ok-copied-in-Some
returns-in_ok-copied-in-Some c = given_some (no_value c.args.field.now) _ c.in_ok-copied-in-Some.field-0 (sym c.in-Some.ensures.value ∙ ap (λ (v : Json). Some (data_of v)) (sym c.in_ok-copied-in-Some.ensures))
