use Rattle.std.proofs.Common.{◌≡◌, ◌≤◌, ℕ, List, take}
use Rattle.asl_mock.specs.Answers.{answer_to}
use Rattle.asl_error_plans.specs.Injected.{under_plan}
use Rattle.asl_error_plans.proofs.under.case_under.Given as goal

abbrev pub invariant-loop-error : goal.invariant-loop-error
invariant-loop-error l = (state : List ℕ) (k : ℕ) → k ≤ 4294967295 → answer_to l.under state k ≡ under_plan (take l.error-index l.plan) (answer_to l.case) state k
