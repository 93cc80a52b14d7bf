-- What the command `explore` finds, prints and tells.
use Rattle.std.specs.Prelude.{ℕ, zero, suc, Bool, true, false, List, Option, Some, None, ◌≡◌, ◌⊎◌, ⊤, slice_get, codes}
use Rattle.asl_run_input.specs.Chosen.{case_name}
use Rattle.asl_run_input.specs.declared.setup.Setup.{Setup}
use Rattle.asl_exec.specs.Steps.{opening, world_after}
use Rattle.asl_run_formats.specs.declared.format.Format.{Format}
use Rattle.asl_run_formats.specs.declared.format.Format.TheVariants.{Steps, Tree, Data}
use Rattle.asl_run_formats.specs.Told.{told}
use Rattle.asl_explore.specs.declared.found.Found.{Found}
use Rattle.asl_explore.specs.declared.found.Explored.{Explored}
use Rattle.asl_explore.specs.declared.orders.Orders.{Orders}
use Rattle.asl_explore.specs.declared.orders.Orders.TheVariants.{Every, Prompt}
use Rattle.asl_explore.specs.Finding.{IsFound}
use Rattle.asl_explore.specs.Reports.{explored_text, is_good}
use Rattle.asl_suite_orders.specs.Keeping.{kept_text}
use Rattle.asl_words.specs.declared.words.ExploreWords.{ExploreWords}
use Rattle.asl_words.specs.declared.words.WitnessFormat.{WitnessFormat}
use Rattle.asl_words.specs.declared.words.WitnessFormat.TheVariants as format
use Rattle.asl_host.specs.Outcomes.{status_of, fault_line, IsUntouched, IsTold}
use Rattle.asl_cli.specs.Beginnings.{IsBegun, IsSetupReason}
use Rattle.asl_cli.specs.Formats.{IsShown as IsShownIn}
use Rattle.asl_cli.specs.Streams.{FileSystem, Io, Prints, unless_quiet}
use Rattle.asl_cli.specs.Noting.{notes_for, IsNoted}
use Rattle.asl_cli.specs.Answers.{IsRefusedFor}

-- ---- what is found

abbrev pub orders_for : Bool → Orders
orders_for true = Prompt
orders_for false = Every

-- the outcome of a number, from 1
abbrev pub numbered : List Found → ℕ → Option Found
numbered fs zero = None
numbered fs (suc n) = slice_get fs n

-- the format of a run in which the steps are printed; none where they are a test's
abbrev pub format_for : WitnessFormat → Option Format
format_for format.Steps = Some Steps
format_for format.Tree = Some Tree
format_for format.Data = Some Data
format_for format.Test = None

-- what happened at each state may have colours
abbrev pub has_colours : WitnessFormat → Bool → Bool
has_colours format.Steps coloured = false
has_colours format.Test coloured = false
has_colours f coloured = coloured

-- the steps of an outcome in a format, or the outcome as a test of the case that is chosen
abbrev pub text_in : Option Format → List ℕ → Setup → Found → List ℕ
text_in None chosen s x = kept_text (case_name chosen) s x
text_in (Some f) chosen s x =
    told f s (opening s) x.steps.items (world_after s (opening s) x.steps.items)

abbrev pub witness_text : WitnessFormat → List ℕ → Setup → Found → List ℕ
witness_text f chosen s x = text_in (format_for f) chosen s x

-- this is shown of an outcome, where it is there
abbrev pub IsWitnessOf : ExploreWords → List ℕ → Setup → Option Found → Option (List ℕ) → Type 0
IsWitnessOf w chosen s None None = ⊤
IsWitnessOf w chosen s (Some x) (Some t) =
    IsShownIn (has_colours w.format w.coloured) (witness_text w.format chosen s x) t
IsWitnessOf w chosen s x t = ⊥

-- the same of the outcome of a number, where one is wanted alone
abbrev pub IsWitness : ExploreWords → List ℕ → Setup → List Found → Option ℕ → Option (List ℕ) → Type 0
IsWitness w chosen s fs None t = t ≡ None
IsWitness w chosen s fs (Some n) t = IsWitnessOf w chosen s (numbered fs n) t

-- what a search may find for the setup that the files may give, what is told of the answers that its
-- outcomes lacked, and what is shown of the outcome that is wanted alone
pub record IsFoundFor (gives : List ℕ → List ℕ → Type 0) (w : ExploreWords) (x : Explored)
    (notes : List ℕ) (witness : Option (List ℕ)) : Type 0 where
  pub setup : Setup
  pub begins : IsBegun gives w.begin setup
  pub found : IsFound (orders_for w.prompt) w.calls w.limit setup x
  pub notes_are : notes ≡ notes_for w.witness begins.texts.chosen setup x.found.items
  pub is_witness : IsWitness w begins.texts.chosen setup x.found.items w.witness witness

-- ---- what is printed

-- want of memory was told, nothing was printed, and the status is 2
abbrev pub IsWanting : {O E : Type 0} → Io O E → Type 0
IsWanting io = IsUntouched io.out × (io.status ≡ 2) × IsTold io.err (fault_line (codes "OutOfMemory"))

-- a text was printed, and these notes were told where they are wanted; the status says whether all is good
abbrev pub AreTextsShown : {O E : Type 0} → Io O E → Bool → List ℕ → Bool → List ℕ → Type 0
AreTextsShown io quiet text good notes =
    (IsNoted io.err (unless_quiet quiet notes) × Prints io text (status_of good)) ⊎ IsWanting io

-- all outcomes were printed
abbrev pub AreAllShown : {O E : Type 0} → Io O E → Bool → Explored → List ℕ → Type 0
AreAllShown io quiet x notes = AreTextsShown io quiet (explored_text x) (is_good x) notes

-- the outcome that is wanted was printed; or there is none, which was told
abbrev pub IsOneShown : {O E : Type 0} → Io O E → Option (List ℕ) → Type 0
IsOneShown io (Some t) = IsUntouched io.err × Prints io t 0
IsOneShown io None = (t : List ℕ) × IsUntouched io.out × (io.status ≡ 2) × IsTold io.err t

abbrev pub IsShown : {O E : Type 0} → Io O E → Bool → Explored → List ℕ → Option (List ℕ) → Option ℕ
    → Type 0
IsShown io quiet x notes witness None = AreAllShown io quiet x notes
IsShown io quiet x notes witness (Some n) = IsOneShown io witness

-- the exploration for these words: what was found was printed; or nothing was tried, which was told
abbrev pub IsExplored : {O E : Type 0} → FileSystem → Io O E → Bool → ExploreWords → Type 0
IsExplored files io quiet w =
    ((x : Explored) × (notes : List ℕ) × (witness : Option (List ℕ)) × IsFoundFor files.gives w x notes witness
    × IsShown io quiet x notes witness w.witness)
    ⊎ IsRefusedFor io quiet (IsSetupReason files.gives files.lacks w.begin)
