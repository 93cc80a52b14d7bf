use Rattle.std.specs.Prelude.{option_map}
use Rattle.asl_json.specs.View.{data_of}
use Rattle.asl_lint_files.proofs.Telling.{all_fit, one_misfits}
use Rattle.asl_lint_files.proofs.judging.found_in_tests.Goals as goal

pub returns-in-Ok : goal.returns-in-Ok
returns-in-Ok c = rw (all_fit c.args.text.now c.in-Ok._drafts.list.items (option_map (λ v. data_of v.now) c.args.mocks) (data_of c.args.value.now) c.requires c.in-Ok.ensures.found) c.lost_cases.ensures

pub returns-in-Err-Shape : goal.returns-in-Err-Shape
returns-in-Err-Shape c =
    let fault = rw c.in-Err-Shape.field-0-is at c.in-Err-Shape.ensures.fault in
    rw (one_misfits c.args.text.now c.in-Err-Shape.place (option_map (λ v. data_of v.now) c.args.mocks) (data_of c.args.value.now) c.requires fault) (rw c.as_str.ensures at c.misfit_at.ensures)
