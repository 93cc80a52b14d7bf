-- What is told on standard error of a run: of an answer that it lacked, of why it isn't over, and of why it failed; and of
-- the answers that the outcomes of a search lacked.
use Rattle.std.specs.Prelude.{ℕ, Bool, true, List, [], ◌∷◌, ◌≡◌, ◌++◌, Option, Some, None, codes}
use Rattle.std.specs.Fmt.{decimal}
use Rattle.asl_run_input.specs.declared.setup.Setup.{Setup}
use Rattle.asl_run_input.specs.Emulations.{Texts}
use Rattle.asl_exec.specs.declared.driving.Ended.{Ended}
use Rattle.asl_exec.specs.declared.driving.Ended.TheVariants.{Over, Full, Limit}
use Rattle.asl_exec.specs.declared.lacking.Invocation.{Invocation}
use Rattle.asl_exec.specs.Emulations.{IsEndIn}
use Rattle.asl_exec.specs.Lacking.{IsLackingIn}
use Rattle.asl_explore.specs.declared.found.Found.{Found}
use Rattle.asl_run_notes.specs.Notes.{note_text, search_notes, notes_text}
use Rattle.asl_host.specs.Outcomes.{SinkUse, IsUntouched, IsTold}

-- ---- of a run

unfoldable pub full_note : List ℕ
full_note = codes "note: the execution still runs, and takes no more steps: its history is full\n"

unfoldable pub limit_lead : List ℕ
limit_lead = codes "note: the execution still runs: "

unfoldable pub limit_end : List ℕ
limit_end = codes " steps were taken, and --max-steps takes more\n"

-- of a run of which no steps are named, which took so many
abbrev pub limit_note : Option (List ℕ) → ℕ → List ℕ
limit_note (Some steps) limit = []
limit_note None limit = limit_lead ++ (decimal limit ++ limit_end)

-- why an execution isn't over; where its steps are named, only that its history is full
abbrev pub end_note : Option (List ℕ) → ℕ → Ended → List ℕ
end_note steps limit Over = []
end_note steps limit Full = full_note
end_note steps limit Limit = limit_note steps limit

-- what is told of the run that the texts spell, of at most so many steps where they name none, and which ends in success
-- or doesn't: words on why it failed stand last
pub record IsNoteOf (t : Texts) (limit : ℕ) (good : Bool) (note : List ℕ) : Type 0 where
  pub lacking : Option Invocation
  pub end : Ended
  pub is_lacking : IsLackingIn t limit lacking
  pub is_end : IsEndIn t limit end
  pub why : List ℕ
  pub failed : good ≡ true → why ≡ []
  pub note_is : note ≡ note_text t.chosen lacking ++ (end_note t.steps limit end ++ why)

-- ---- of a search

-- where the steps of one outcome are printed alone, nothing is told
abbrev pub notes_for : Option ℕ → List ℕ → Setup → List Found → List ℕ
notes_for None chosen s fs = notes_text (search_notes chosen s fs)
notes_for (Some n) chosen s fs = []

-- ---- of both

-- a text was told, as far as the sink didn't fail; where it is empty, nothing was
abbrev pub IsNoted : {S : Type 0} → SinkUse S → List ℕ → Type 0
IsNoted sink [] = IsUntouched sink
IsNoted sink (b ∷ bs) = IsTold sink (b ∷ bs)
