-- What is told of an expectation file: its text has one value.
use Rattle.std.proofs.Common.{◌≡◌, ℕ, List, [], ◌∷◌, ap, subst}
use Rattle.std.specs.Prelude.{Option, Some}
use Rattle.asl_json_data.specs.Data.{Data}
use Rattle.asl_json_data.specs.Reads.{ReadsAs}
use Rattle.asl_run_input.proofs.OneRun.{one_value}
use Rattle.asl_suite_file.specs.Form.{Place, first_of, misfits}
use Rattle.asl_suite_file.specs.Told.{IsExpectationsFile, IsFault}
use Rattle.asl_suite_file.specs.declared.expectation.Draft.{Draft}
use Rattle.asl_suite_file.specs.declared.fault.ExpectFault.TheVariants.{Shape}
use Rattle.asl_lint.specs.declared.rule.Rule.TheVariants as rule
use Rattle.asl_lint.specs.declared.rule.FileRule.TheVariants as file
use Rattle.asl_lint_files.specs.Judged.{lost_cases, tests_told, tests_told_of}
use Rattle.asl_lint_files.specs.Pointing.{way_in}

-- all fits
pub all_fit : (b : List ℕ) (xs : List Draft) (mocks : Option Data) (d : Data) → ReadsAs b d → IsExpectationsFile b xs → tests_told mocks d ≡ lost_cases mocks d
all_fit b xs mocks d reads h =
    let fits : misfits d ≡ [] = subst (λ (z : Data). misfits z ≡ []) (one_value b h.value d h.reads reads) h.spelled.fits in
    ap (λ (ps : List Place). tests_told_of (first_of ps) mocks d) fits

-- this doesn't
pub one_misfits : (b : List ℕ) (p : Place) (mocks : Option Data) (d : Data) → ReadsAs b d → IsFault b (Shape p) → tests_told mocks d ≡ (rule.File file.ExpectShape, way_in d p) ∷ []
one_misfits b p mocks d reads h =
    let first : first_of (misfits d) ≡ Some p = subst (λ (z : Data). first_of (misfits z) ≡ Some p) (one_value b h.value d h.reads reads) h.fault in
    ap (λ (o : Option Place). tests_told_of o mocks d) first
