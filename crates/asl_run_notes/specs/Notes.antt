-- Which answers of its test case a run lacked, or the outcomes of a search.
use Rattle.std.specs.Prelude.{ℕ, List, [], ◌∷◌, ◌++◌, ◌≡◌, Bool, true, false, if◌then◌else◌, Option, Some, None, codes, map}
use Rattle.std.specs.Fmt.{decimal}
use Rattle.std.specs.List.{flat_map}
use Rattle.asl_json_data.specs.Compact.{quoted}
use Rattle.asl_def_schema.specs.Members.{is_among}
use Rattle.asl_text.specs.Shown.{shown}
use Rattle.asl_run_input.specs.declared.setup.Setup.{Setup}
use Rattle.asl_run_input.specs.Chosen.{case_name}
use Rattle.asl_run_input.specs.Emulations.{Texts}
use Rattle.asl_run_state.specs.World.{World}
use Rattle.asl_run_state.specs.declared.outcome.Outcome.{Outcome}
use Rattle.asl_run_state.specs.declared.outcome.Outcome.TheVariants.{Failed}
use Rattle.asl_exec.specs.Lacking.{unanswered_in}
use Rattle.asl_exec.specs.declared.lacking.Invocation.{Invocation}
use Rattle.asl_exec.specs.Steps.{opening, world_after}
use Rattle.asl_explore.specs.declared.found.Found.{Found}

-- ---- a line: `note: case "shipped" has no answer 2 of the Task "Charge card"`

abbrev pub case_words : List ℕ → List ℕ
case_words [] = codes "no case is chosen, so there is"
case_words (b ∷ name) = codes "case " ++ (quoted (b ∷ name) ++ codes " has")

abbrev pub answer_words : Invocation → List ℕ
answer_words v =
    codes " no answer " ++ (decimal v.number ++ (codes " of the Task " ++ quoted v.state))

abbrev pub note_words : List ℕ → Invocation → List ℕ
note_words chosen v = case_words (case_name chosen) ++ answer_words v

abbrev pub note_line : List ℕ → Invocation → List ℕ
note_line chosen v = codes "note: " ++ (shown (note_words chosen v) ++ 10 ∷ [])

abbrev pub note_text : List ℕ → Option Invocation → List ℕ
note_text chosen None = []
note_text chosen (Some v) = note_line chosen v

-- in a world: the invocation that the execution failed for, if its case, which was chosen by these
-- words, doesn't answer it
abbrev pub note_in : List ℕ → Setup → World → List ℕ
note_in chosen s w = note_text chosen (unanswered_in s.case w)

-- ---- of a search

abbrev pub if_failed : Outcome → List ℕ → List ℕ
if_failed (Failed e) t = t
if_failed o t = []

-- of an outcome, by the steps that end in it
abbrev pub note_of_found : List ℕ → Setup → Found → List ℕ
note_of_found chosen s f =
    if_failed f.outcome (note_in chosen s (world_after s (opening s) f.steps.items))

-- a line behind others, if it isn't among them
abbrev pub with_line : List (List ℕ) → List ℕ → List (List ℕ)
with_line ls [] = ls
with_line ls (b ∷ bs) = if is_among (b ∷ bs) ls then ls else ls ++ (b ∷ bs) ∷ []

abbrev pub with_lines : List (List ℕ) → List (List ℕ) → List (List ℕ)
with_lines ls [] = ls
with_lines ls (n ∷ ns) = with_lines (with_line ls n) ns

-- of the outcomes in turn, each line once
abbrev pub search_notes : List ℕ → Setup → List Found → List (List ℕ)
search_notes chosen s fs = with_lines [] (map (note_of_found chosen s) fs)

abbrev pub notes_text : List (List ℕ) → List ℕ
notes_text ls = flat_map (λ (l : List ℕ). l) ls
