-- An outcome of a search as an expectation file of one test.
use Rattle.std.specs.Prelude.{ℕ, List, [], ◌∷◌, ◌++◌, Option, Some, None, codes}
use Rattle.std.specs.List.{flat_map}
use Rattle.asl_json_data.specs.Data.{Data}
use Rattle.asl_json_data.specs.Compact.{compact, quoted}
use Rattle.asl_json.specs.View.{data_of}
use Rattle.asl_history.specs.Places.{place_text}
use Rattle.asl_time.specs.StampText.{stamp_of}
use Rattle.asl_run_state.specs.declared.outcome.Outcome.{Outcome}
use Rattle.asl_run_state.specs.declared.outcome.Outcome.TheVariants.{Running, Succeeded, Failed, TimedOut}
use Rattle.asl_run_input.specs.declared.setup.Setup.{Setup}
use Rattle.asl_run_input.specs.declared.step_at.StepAt.{StepAt}
use Rattle.asl_explore.specs.declared.found.Found.{Found}

-- the name of a member behind a comma
abbrev pub head : List ℕ → List ℕ
head k = 44 ∷ (quoted k ++ 58 ∷ [])

unfoldable pub text_member : List ℕ → List ℕ → List ℕ
text_member k t = head k ++ quoted t

unfoldable pub value_member : List ℕ → Data → List ℕ
value_member k d = head k ++ compact d

-- null where there is no text
unfoldable pub maybe_member : List ℕ → Option (List ℕ) → List ℕ
maybe_member k None = head k ++ codes "null"
maybe_member k (Some t) = head k ++ quoted t

-- how the execution is to end
unfoldable pub end_text : Outcome → List ℕ
end_text Running = []
end_text (Succeeded x) = text_member (codes "status") (codes "SUCCEEDED") ++ value_member (codes "output") (data_of x)
end_text (Failed e) =
    text_member (codes "status") (codes "FAILED") ++ (maybe_member (codes "error") e.error ++ maybe_member (codes "cause") e.cause)
end_text TimedOut = text_member (codes "status") (codes "TIMED_OUT")

-- a step as a line of a steps file
abbrev pub step_text : StepAt → List ℕ
step_text a = 34 ∷ (place_text a.place ++ 32 ∷ (stamp_of a.moment ++ 34 ∷ []))

abbrev pub more_text : StepAt → List ℕ
more_text a = 44 ∷ step_text a

abbrev pub steps_text : List StepAt → List ℕ
steps_text [] = []
steps_text (a ∷ l) = step_text a ++ flat_map more_text l

unfoldable pub machine_text : List ℕ → List ℕ
machine_text name = 123 ∷ (quoted (codes "machine") ++ 58 ∷ quoted name)

-- which case is run, and on which input
unfoldable pub begin_text : List ℕ → Setup → List ℕ
begin_text case s =
    machine_text s.name_of_machine ++ (text_member (codes "case") case ++ value_member (codes "input") (data_of s.input))

-- a list of one test
abbrev pub kept_text : List ℕ → Setup → Found → List ℕ
kept_text case s f =
    91 ∷ (begin_text case s ++ (end_text f.outcome ++ (head (codes "steps") ++ 91 ∷ (steps_text f.steps.items ++ codes "]}]\n"))))
