-- One outcome after another, until one isn't as expected.
use Rattle.std.specs.Prelude.{suc, Some, None, slice_get}
use Rattle.std.proofs.Common.{ℕ, ◌+◌, ◌≡◌, ◌∙◌, ap, sym, refl, arith, true, false, List, ◌∷◌}
use Rattle.asl_explore.specs.declared.calls.Calls.{Calls}
use Rattle.asl_explore.specs.declared.found.Found.{Found}
use Rattle.asl_suite_file.specs.declared.expectation.Expectation.{Expectation}
use Rattle.asl_suite.specs.Orders.{order_report}
use Rattle.asl_suite.specs.Reports.{is_passed}
use Rattle.asl_suite.specs.declared.suite.Suite.{Suite}
use Rattle.asl_suite_orders.specs.Counting.{are_always}
use Rattle.asl_suite_orders.specs.Judging.{with_other_counts, unmet_from}

module _ (s : Suite) (x : Expectation) (cs : List Calls) (n : ℕ) (f : Found) (left next all : List Found) (is : left ≡ f ∷ next) (good : is_passed (order_report s x f.steps.items) ≡ true) (before : unmet_from s x cs n left ≡ unmet_from s x cs 0 all) where
  here : unmet_from s x cs n (f ∷ next) ≡ unmet_from s x cs 0 all
  here = ap (unmet_from s x cs n) (sym is) ∙ before

  -- it is as expected
  pub passed-over : are_always s.machine (slice_get cs n) x ≡ true → unmet_from s x cs (n + 1) next ≡ unmet_from s x cs 0 all
  passed-over counted =
      let step : unmet_from s x cs n (f ∷ next) ≡ unmet_from s x cs (suc n) next = rw (good, counted) refl in
      ap (λ (k : ℕ). unmet_from s x cs k next) (omega arith) ∙ sym step ∙ here

  -- orders that end alike aren't
  pub other-counts : are_always s.machine (slice_get cs n) x ≡ false → Some (None, with_other_counts (order_report s x f.steps.items)) ≡ unmet_from s x cs 0 all
  other-counts counted =
      let step : unmet_from s x cs n (f ∷ next) ≡ Some (None, with_other_counts (order_report s x f.steps.items)) = rw (good, counted) refl in
      sym step ∙ here
