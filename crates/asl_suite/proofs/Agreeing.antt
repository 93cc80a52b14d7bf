-- A reason goes with the verdict that is reported.
use Rattle.std.proofs.Common.{◌≡◌, ℕ, List, [], ◌∷◌, true, false, if◌then◌else◌, refl, sym, ap, ◌∙◌}
use Rattle.std.specs.Prelude.{Bool, not, ◌&&◌, Option, Some, None, Result, Ok, Err, IfOk}
use Rattle.std.specs.Option.{option_map}
use Rattle.std.specs.List.{list_all}
use Rattle.std.specs.declared.alloc.AllocError.{AllocError}
use Rattle.asl_json_data.specs.Data.{Data}
use Rattle.asl_json.specs.View.{data_of}
use Rattle.asl_json.specs.declared.value.Json.{Json}
use Rattle.asl_mock.specs.Answers.{Case}
use Rattle.asl_mock.specs.declared.fault.CaseFault.{CaseFault}
use Rattle.asl_run_state.specs.World.{World, is_over}
use Rattle.asl_run_state.specs.declared.outcome.Outcome.{Outcome}
use Rattle.asl_run_state.specs.declared.outcome.Outcome.TheVariants.{Running, Succeeded, Failed, TimedOut}
use Rattle.asl_run_input.specs.Chosen.{case_or_empty}
use Rattle.asl_suite_file.specs.Differences.{difference}
use Rattle.asl_suite_file.specs.declared.difference.Difference.{Difference}
use Rattle.asl_suite_file.specs.declared.expectation.Expectation.{Expectation}
use Rattle.asl_suite_file.specs.Holding.{is_like}
use Rattle.asl_suite_file.specs.declared.holding.Likeness.{Likeness}
use Rattle.asl_suite_file.specs.declared.holding.Likeness.TheVariants.{Same, Holding}
use Rattle.asl_suite_file.specs.declared.expectation.StateCount.{StateCount}
use Rattle.asl_suite_file.specs.declared.expectation.StateCalls.{StateCalls}
use Rattle.asl_exec.specs.Driving.{most_steps}
use Rattle.asl_suite.specs.Cases.{is_wanted, is_output, has_error, has_cause, is_visited, is_invoked, is_called, verdict_by_states, verdict_by_end, verdict_on, test_world, report_by, report_on}
use Rattle.asl_suite.specs.Reasons.{no_output, output_difference, first_not, by_visits, by_invocations, by_calls, by_part, by_output, by_status, reason_by_states, reason_by_error, reason_by_end, reason_in, reason_by, reason_for, verdict_by}
use Rattle.asl_suite.specs.declared.suite.Suite.{Suite}
use Rattle.asl_suite.specs.declared.case_report.Verdict.{Verdict}
use Rattle.asl_suite.specs.declared.case_report.Verdict.TheVariants as verdict
use Rattle.asl_suite.specs.declared.reason.Reason.{Reason}
use Rattle.asl_suite.specs.declared.reason.Reason.TheVariants as reason

-- of the same choice
by_choice : (b : Bool) (p q : Reason) (u v : Verdict) → verdict_by p ≡ u → verdict_by q ≡ v → verdict_by (if b then p else q) ≡ (if b then u else v)
by_choice true p q u v e f = e
by_choice false p q u v e f = f

-- of what is the first of a list for which something doesn't hold
first_agrees : {A : Type 0} (f : A → Bool) (by_first : Option A → Reason) (v w : Verdict) → verdict_by (by_first None) ≡ w → ((x : A) → verdict_by (by_first (Some x)) ≡ v) → (xs : List A) → verdict_by (by_first (first_not f xs)) ≡ (if not (list_all f xs) then v else w)
first_agrees f by_first v w none some [] = none
first_agrees f by_first v w none some (x ∷ xs) = step (f x) (first_agrees f by_first v w none some xs)
  where
    step : (b : Bool) → verdict_by (by_first (first_not f xs)) ≡ (if not (list_all f xs) then v else w) → verdict_by (by_first (if b then first_not f xs else Some x)) ≡ (if not (b && list_all f xs) then v else w)
    step true e = e
    step false e = some x

states_agree : (d : Data) (x : Expectation) (w : World) → verdict_by (reason_by_states d x w) ≡ verdict_by_states d x w
states_agree d x w =
    let calls = first_not (is_called w.events) x.states.calls in
    let invocations = first_not (is_invoked d w.counts) x.states.invocations in
    let called = if not (list_all (is_called w.events) x.states.calls) then verdict.Calls else verdict.Passed in
    let invoked = if not (list_all (is_invoked d w.counts) x.states.invocations) then verdict.Invocations else called in
    first_agrees (is_visited w.events) (λ (o : Option StateCount). by_visits w o (by_invocations d w invocations (by_calls w.events calls))) verdict.Visits invoked
    (first_agrees (is_invoked d w.counts) (λ (o : Option StateCount). by_invocations d w o (by_calls w.events calls)) verdict.Invocations called
    (first_agrees (is_called w.events) (by_calls w.events) verdict.Calls verdict.Passed refl (λ (c : StateCalls). refl) x.states.calls)
    (λ (v : StateCount). refl) x.states.invocations)
    (λ (v : StateCount). refl) x.states.visits

-- of a difference, where there is one
difference_agrees : (by_difference : Option Difference → Reason) (v w : Verdict) → verdict_by (by_difference None) ≡ w → ((d : Difference) → verdict_by (by_difference (Some d)) ≡ v) → (b : Bool) (d : Difference) → verdict_by (by_difference (if b then None else Some d)) ≡ (if not b then v else w)
difference_agrees by_difference v w none some true d = none
difference_agrees by_difference v w none some false d = some d

output_agrees : (l : Likeness) (by_difference : Option Difference → Reason) (v w : Verdict) → verdict_by (by_difference None) ≡ w → ((d : Difference) → verdict_by (by_difference (Some d)) ≡ v) → (y : Option Json) (o : Outcome) → verdict_by (by_difference (output_difference l y o)) ≡ (if not (is_output l y o) then v else w)
output_agrees l by_difference v w none some None o = none
output_agrees l by_difference v w none some (Some y) (Succeeded x) = difference_agrees by_difference v w none some (is_like l (data_of y) (data_of x)) (difference l [] (data_of y) (data_of x))
output_agrees l by_difference v w none some (Some y) Running = some (no_output y)
output_agrees l by_difference v w none some (Some y) (Failed x) = some (no_output y)
output_agrees l by_difference v w none some (Some y) TimedOut = some (no_output y)

error_agrees : (d : Data) (x : Expectation) (w : World) → verdict_by (reason_by_error d x w) ≡ (if not (has_error x.end.error w.outcome) then verdict.Error else (if not (has_cause x.end.cause w.outcome) then verdict.Cause else verdict_by_states d x w))
error_agrees d x w =
    let states = reason_by_states d x w in
    let cause = if not (has_cause x.end.cause w.outcome) then reason.Cause x.end.cause w.outcome else states in
    let good = if not (has_cause x.end.cause w.outcome) then verdict.Cause else verdict_by_states d x w in
    by_choice (not (has_error x.end.error w.outcome)) (reason.Error x.end.error w.outcome) cause verdict.Error good refl
    (by_choice (not (has_cause x.end.cause w.outcome)) (reason.Cause x.end.cause w.outcome) states verdict.Cause (verdict_by_states d x w) refl (states_agree d x w))

end_agrees : (d : Data) (x : Expectation) (w : World) → verdict_by (reason_by_end d x w) ≡ verdict_by_end d x w
end_agrees d x w =
    let error = if not (has_error x.end.error w.outcome) then verdict.Error else (if not (has_cause x.end.cause w.outcome) then verdict.Cause else verdict_by_states d x w) in
    let part = if not (is_output Holding x.end.part w.outcome) then verdict.Match else error in
    output_agrees Same (λ (o : Option Difference). by_output o (by_part (output_difference Holding x.end.part w.outcome) (reason_by_error d x w))) verdict.Output part
    (output_agrees Holding (λ (o : Option Difference). by_part o (reason_by_error d x w)) verdict.Match error (error_agrees d x w) (λ (e : Difference). refl) x.end.part w.outcome)
    (λ (e : Difference). refl) x.end.output w.outcome

reason_agrees : (d : Data) (x : Expectation) (c : Case) (w : World) → verdict_by (reason_in d x c w) ≡ verdict_on d x w
reason_agrees d x c w =
    let rest = reason_by_end d x w in
    let good = verdict_by_end d x w in
    by_choice (not (is_over w.outcome)) reason.Limit (if not (is_wanted x.end.status w.outcome) then by_status x c w else rest) verdict.Limit (if not (is_wanted x.end.status w.outcome) then verdict.Status else good) refl
    (by_choice (not (is_wanted x.end.status w.outcome)) (by_status x c w) rest verdict.Status good refl (end_agrees d x w))

case_agrees : (n : ℕ) (s : Suite) (x : Expectation) (r : Result Case CaseFault) → (report_by n s x r).verdict ≡ verdict_by (reason_by n s x r)
case_agrees n s x (Err e) = refl
case_agrees n s x (Ok c) = sym (reason_agrees s.machine x c (test_world n s x c))

test_agrees : (s : Suite) (x : Expectation) → (report_on s x).verdict ≡ verdict_by (reason_for s x)
test_agrees s x = case_agrees most_steps s x (case_or_empty s.mocks x.machine x.case)

found_agrees : (s : Suite) (o : Option Expectation) (r : Reason) → option_map (reason_for s) o ≡ Some r → option_map (λ (x : Expectation). (report_on s x).verdict) o ≡ Some (verdict_by r)
found_agrees s None r e = absurd (cc e)
found_agrees s (Some x) r e = ap Some (test_agrees s x) ∙ ap (option_map verdict_by) e

pub agrees : (s : Suite) (o : Option Expectation) (r : Result Reason AllocError) → IfOk r (λ q. option_map (reason_for s) o ≡ Some q) → IfOk r (λ q. option_map (λ (x : Expectation). (report_on s x).verdict) o ≡ Some (verdict_by q))
agrees s o (Ok q) h = found_agrees s o q h
agrees s o (Err e) h = tt
