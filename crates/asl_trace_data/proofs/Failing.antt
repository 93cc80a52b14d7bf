-- The error with which a step fails is the one that its last stage raises.
use Rattle.std.proofs.Common.{ℕ, ◌≡◌, Bool, true, false, List, ◌++◌, refl, sym, ap, ◌∙◌, append_assoc, codes}
use Rattle.std.specs.Prelude.{Option, Some, None, Result, Ok, Err}
use Rattle.std.specs.Result.{result_ok, result_err}
use Rattle.asl_history.specs.declared.kind.EventKind.TheVariants.{WaitStateEntered, ChoiceStateEntered}
use Rattle.asl_json_data.specs.Data.{Data, list, chain}
use Rattle.asl_intrinsic_functions.proofs.Converting.{list_back}
use Rattle.asl_choice.specs.Truth.{Fault}
use Rattle.asl_def_states.specs.Choosing.{chosen_next}
use Rattle.asl_json.specs.View.{data_of}
use Rattle.asl_json.specs.Meaning.{value_in}
use Rattle.asl_json.specs.declared.value.Json.{Json}
use Rattle.asl_step.specs.declared.effect.Progress.{Progress}
use Rattle.asl_step.specs.declared.facts.Facts.{Facts}
use Rattle.asl_step.specs.Context.{context_of}
use Rattle.asl_step.specs.Records.{entering_with}
use Rattle.asl_step.specs.Seen.{Seen}
use Rattle.asl_step.specs.Rows.{entering}
use Rattle.asl_step_io.specs.Paths.{Given, taken}
use Rattle.asl_step_io.specs.Reason.{GivenText}
use Rattle.asl_kinds.specs.Members.{target_by, chosen_target, target_with, choice_by, choice_output, GivenMoment, until_in}
use Rattle.asl_kinds.specs.Forks.{error_in}
use Rattle.asl_kinds.specs.Table.{decided, choice_effect, waits, wait_effect}
use Rattle.asl_trace_data.specs.declared.part.Part.TheVariants.{Input, InputPath, Choices, Delay}
use Rattle.asl_trace_data.specs.declared.stage.Stage.{Stage}
use Rattle.asl_trace_data.specs.Stages.{one, failing_stage, output_stages}
use Rattle.asl_trace_data.specs.Kinds.{waiting_stages, target_stages, is_found, chosen_in}
use Rattle.asl_trace_data.proofs.Giving.{given_ok}

-- what InputPath takes
abbrev pub input_of : Data → Facts → Seen → Json → Given
input_of d f v x = taken (codes "InputPath") (value_in (codes "InputPath") d) x (context_of f v)

-- ---- Wait

waits_raises : (v : Seen) (done : Progress) (x : Json) (g : GivenMoment) → error_in (waits v done x g).after ≡ result_err g
waits_raises v done x (Ok m) = refl
waits_raises v done x (Err e) = refl

pub wait_fails : (d : Data) (f : Facts) (v : Seen) (x y : Json) → Some x ≡ entering_with v.current → Some y ≡ result_ok (input_of d f v x) → error_in (wait_effect d f v).after ≡ result_err (until_in d v.moment (data_of y) (context_of f v))
wait_fails d f v x y e t = rw (sym e, given_ok (input_of d f v x) y t) (waits_raises v (entering v WaitStateEntered x) x (until_in d v.moment (data_of y) (context_of f v)))

-- the stages of a Wait that is entered, behind others
pub waited : (d : Data) (f : Facts) (v : Seen) (x y : Json) (before : List Stage) → Some x ≡ entering_with v.current → Some y ≡ result_ok (input_of d f v x) → ((before ++ one Input (Ok x)) ++ one InputPath (input_of d f v x)) ++ failing_stage Delay (error_in (wait_effect d f v).after) ≡ before ++ waiting_stages d v.moment x (context_of f v)
waited d f v x y before e t =
    let raised = wait_fails d f v x y e t in
    rw (raised, given_ok (input_of d f v x) y t) (append_assoc (before ++ one Input (Ok x)) (one InputPath (Ok y)) (failing_stage Delay (result_err (until_in d v.moment (data_of y) (context_of f v)))) ∙ append_assoc before (one Input (Ok x)) (one InputPath (Ok y) ++ failing_stage Delay (result_err (until_in d v.moment (data_of y) (context_of f v)))))

-- ---- Choice

-- where it goes on, by what its rules say
pub decided_by : (d y c : Data) (rules : List Data) (r : Result (Option Data) Fault) → Some (list (chain rules)) ≡ value_in (codes "Choices") d → r ≡ chosen_next rules y c → chosen_target d y c ≡ target_by (value_in (codes "Default") d) r
decided_by d y c rules r choices next = rw (sym choices, list_back rules, sym next) refl

unfound_fails : (d : Data) (y : Json) (c : Data) (v : Seen) (done : Progress) (t : GivenText) (g : Given) → is_found t ≡ false → failing_stage Choices (error_in (decided v done (target_with t g)).after) ≡ target_stages d y c t
unfound_fails d y c v done (Ok t) g is = absurd (cc)
unfound_fails d y c v done (Err e) g is = refl

pub choice_fails : (d : Data) (f : Facts) (v : Seen) (x y : Json) → Some x ≡ entering_with v.current → Some y ≡ result_ok (input_of d f v x) → is_found (chosen_target d (data_of y) (context_of f v)) ≡ false → failing_stage Choices (error_in (choice_effect d f v).after) ≡ target_stages d y (context_of f v) (chosen_target d (data_of y) (context_of f v))
choice_fails d f v x y e t is = rw (sym e, given_ok (input_of d f v x) y t) (unfound_fails d y (context_of f v) v (entering v ChoiceStateEntered x) (chosen_target d (data_of y) (context_of f v)) (taken (codes "OutputPath") (value_in (codes "OutputPath") d) y (context_of f v)) is)

-- ---- the output of a Choice

found_stages : (d : Data) (y : Json) (c : Data) (t : GivenText) → is_found t ≡ true → target_stages d y c t ≡ output_stages (value_in (codes "OutputPath") d) y c
found_stages d y c (Ok t) is = refl
found_stages d y c (Err e) is = absurd (cc)

pub choice_found : (d y : Data) (z : Json) (c : Data) → is_found (chosen_target d y c) ≡ true → target_stages d z c (chosen_target d y c) ≡ output_stages (value_in (codes "OutputPath") d) z c
choice_found d y z c is = found_stages d z c (chosen_target d y c) is

found_gives : (t : GivenText) (g : Given) → is_found t ≡ true → chosen_in (target_with t g) ≡ result_ok g
found_gives (Ok t) (Ok z) is = refl
found_gives (Ok t) (Err e) is = refl
found_gives (Err e) g is = absurd (cc)

unfound_gives : (t : GivenText) (g : Given) → is_found t ≡ false → chosen_in (target_with t g) ≡ None
unfound_gives (Ok t) g is = absurd (cc)
unfound_gives (Err e) g is = refl

abbrev pub output_at : Data → Data → Json → Given
output_at d c y = taken (codes "OutputPath") (value_in (codes "OutputPath") d) y c

pub choice_gives : (d : Data) (x y : Json) (c : Data) → Some y ≡ result_ok (taken (codes "InputPath") (value_in (codes "InputPath") d) x c) → is_found (chosen_target d (data_of y) c) ≡ true → chosen_in (choice_output d x c) ≡ result_ok (output_at d c y)
choice_gives d x y c t is = rw (given_ok _ y t) (found_gives (chosen_target d (data_of y) c) (output_at d c y) is)

pub choice_none : (d : Data) (x y : Json) (c : Data) → Some y ≡ result_ok (taken (codes "InputPath") (value_in (codes "InputPath") d) x c) → is_found (chosen_target d (data_of y) c) ≡ false → chosen_in (choice_output d x c) ≡ None
choice_none d x y c t is = rw (given_ok _ y t) (unfound_gives (chosen_target d (data_of y) c) (output_at d c y) is)

untaken : (d c : Data) (g : Given) → None ≡ result_ok g → chosen_in (choice_by d c g) ≡ None
untaken d c (Ok y) e = absurd (cc)
untaken d c (Err e') e = refl

pub choice_untaken : (d : Data) (x : Json) (c : Data) → None ≡ result_ok (taken (codes "InputPath") (value_in (codes "InputPath") d) x c) → chosen_in (choice_output d x c) ≡ None
choice_untaken d x c e = untaken d c _ e
