-- A report for each test, in order, is the list of reports.
use Rattle.std.proofs.Common.{◌≡◌, ℕ, ◌<◌, List, [], ◌∷◌, length, map, slice_index_or, sym, arith, Result, Ok, Err, refl, suc}
use Rattle.std.specs.Prelude.{IfOk, MatchResult, Some, slice_get}
use Rattle.std.specs.Option.{option_map}
use Rattle.std.specs.Global.{Vec}
use Rattle.asl_suite_file.specs.declared.expectation.Expectation.{Expectation}
use Rattle.asl_suite.specs.Cases.{report_on, reports_of}
use Rattle.asl_suite.specs.declared.suite.Suite.{Suite}
use Rattle.asl_suite.specs.declared.case_report.CaseReport.{CaseReport}
use Rattle.asl_suite_workers.specs.declared.cases.SuiteFault.{SuiteFault}
use Rattle.asl_suite_workers.specs.Cases.{IsRun, IsEach, IsFault}
use Rattle.asl_suite_workers.specs.Suites.{test_count, Gives}

some_is : {A : Type 0} (x y : A) → Some x ≡ Some y → x ≡ y
some_is x y e = cc

listed : (f : Expectation → CaseReport) (xs : List Expectation) (reports : List CaseReport) → length reports ≡ length xs
    → ((i : ℕ) (d : CaseReport) → i < length xs → option_map f (slice_get xs i) ≡ Some (slice_index_or reports i d))
    → reports ≡ map f xs
listed f [] [] len each = refl
listed f [] (r ∷ rs) len each = absurd (omega arith)
listed f (x ∷ xs) [] len each = absurd (omega arith)
listed f (x ∷ xs) (r ∷ rs) len each =
    let here : f x ≡ r = some_is (f x) r (each 0 r (omega arith)) in
    let rest : rs ≡ map f xs = listed f xs rs (omega arith) (λ i d lt. each (suc i) d (omega arith)) in
    λ i. sym here i ∷ rest i

pub each_report : (began ended : ℕ → ℕ → Type 0) (s : Suite) (reports : List CaseReport) → IsEach (test_count s) (IsRun began ended (Gives s)) reports → reports ≡ reports_of s
each_report began ended s reports h = listed (report_on s) s.tests.list.items reports h.len (λ i d lt. (h.each i d lt).outcome)

pub all_reports : (began ended : ℕ → ℕ → Type 0) (s : Suite) (r : Result (Vec CaseReport) SuiteFault)
    → MatchResult r (λ v. IsEach (test_count s) (IsRun began ended (Gives s)) v.items) (IsFault (test_count s) (IsRun began ended (Gives s)))
    → IfOk r (λ v. v.items ≡ reports_of s)
all_reports began ended s (Ok v) h = each_report began ended s v.items h
all_reports began ended s (Err e) h = tt
