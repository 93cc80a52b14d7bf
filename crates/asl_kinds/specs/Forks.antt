-- Branches under a state: those that it forks, and what they have come to (ASL, "Parallel State",
-- "Map State").
use Rattle.std.specs.Prelude.{ℕ, ◌+◌, false, List, [], ◌∷◌, map, length, nat_le, if◌then◌else◌, Option, Some, None, Result, Ok, Err, codes, unwrap_or}
use Rattle.std.specs.Option.{option_or}
use Rattle.asl_json_data.specs.Data.{Data}
use Rattle.asl_json.specs.View.{data_of, json_of}
use Rattle.asl_json.specs.Meaning.{value_in}
use Rattle.asl_json.specs.declared.value.Json.{Json}
use Rattle.asl_json.specs.declared.value.Json.TheVariants.{List as ListOf}
use Rattle.asl_def_shared.specs.Texts.{text_in}
use Rattle.asl_step.specs.declared.facts.Facts.{Facts}
use Rattle.asl_step.specs.Context.{context_of}
use Rattle.asl_step.specs.declared.effect.Progress.{Progress}
use Rattle.asl_step.specs.declared.effect.Children.TheVariants.{Removed}
use Rattle.asl_step.specs.declared.record.ErrorOut.{ErrorOut}
use Rattle.asl_step.specs.declared.record.Record.{Record}
use Rattle.asl_step.specs.declared.record.Record.TheVariants.{New, Ready, Forked, Done, Failed}
use Rattle.asl_step_io.specs.Paths.{Given, no_value}
use Rattle.asl_step_io.specs.Payload.{filled}
use Rattle.asl_step.specs.Seen.{Seen}
use Rattle.asl_kinds.specs.Members.{values_in}

-- ---- a fork

-- the states that these machines start at
abbrev pub start_in : Data → List ℕ
start_in m = unwrap_or (text_in (value_in (codes "StartAt") m)) []

abbrev pub starts_in : Option Data → List (List ℕ)
starts_in machines = map start_in (values_in machines)

-- branches about to enter these states, all with the same input
abbrev pub ready_at : List (List ℕ) → Json → List Record
ready_at starts y = map (λ (s : List ℕ). Ready s y) starts

-- ---- the iterations of a Map

-- the items that a Map goes over: a list of at most 999,999,999
abbrev pub listed : Json → Result (List Data) ErrorOut
listed (ListOf ds) =
    if nat_le (length ds) 999_999_999 then Ok ds else Err (no_value (codes "ItemsPath"))
listed _ = Err (no_value (codes "ItemsPath"))

abbrev pub items_by : Given → Result (List Data) ErrorOut
items_by (Ok y) = listed y
items_by (Err e) = Err e

-- what the Map reads for the iteration of this number over this item
abbrev pub in_iteration : Seen → ℕ → Data → Seen
in_iteration v i d = record v { iteration = Some (i, d) }

-- the input of an iteration: what the template makes of the Map's effective input; the item, where
-- there is no template
abbrev pub item_input : Option Data → Json → Facts → Seen → ℕ → Data → Given
item_input None y f v i d = Ok (json_of d)
item_input (Some t) y f v i d = filled (Some t) y (context_of f (in_iteration v i d))

-- iterations that haven't begun, or the error of the first input that can't be made
abbrev pub GivenRecords : Type 0
GivenRecords = Result (List Record) ErrorOut

abbrev pub new_before : List ℕ → Given → GivenRecords → GivenRecords
new_before start (Err e) others = Err e
new_before start (Ok x) (Err e) = Err e
new_before start (Ok x) (Ok rs) = Ok (New start x ∷ rs)

-- the iterations over these items, numbered from i, that begin at this state
abbrev pub iterations : List ℕ → Option Data → Json → Facts → Seen → ℕ → List Data → GivenRecords
iterations start t y f v i [] = Ok []
iterations start t y f v i (d ∷ ds) =
    new_before start (item_input t y f v i d) (iterations start t y f v (i + 1) ds)

-- what a Map forks: its items, and an iteration for each; or the error that it raises
abbrev pub GivenFork : Type 0
GivenFork = Result (List Data × List Record) ErrorOut

abbrev pub with_items : List Data → GivenRecords → GivenFork
with_items ds (Ok rs) = Ok (ds, rs)
with_items ds (Err e) = Err e

-- ---- what branches have come to

-- the raw input of a state that waits for its branches
abbrev pub forked_with : Record → Option Json
forked_with (Forked n x since uses items) = Some x
forked_with _ = None

-- the error of a branch that has failed
abbrev pub error_in : Record → Option ErrorOut
error_in (Failed e) = Some e
error_in _ = None

-- the error of the first that has failed
abbrev pub first_error : List Record → Option ErrorOut
first_error [] = None
first_error (r ∷ rs) = option_or (error_in r) (first_error rs)

-- the output of a branch that has ended well
abbrev pub output_in : Record → Option Json
output_in (Done x) = Some x
output_in _ = None

-- one output before others
abbrev pub output_before : Option Json → Option (List Data) → Option (List Data)
output_before None others = None
output_before (Some x) None = None
output_before (Some x) (Some ds) = Some (data_of x ∷ ds)

-- the outputs in the order of the branches; none where one of them hasn't ended well
abbrev pub outputs : List Record → Option (List Data)
outputs [] = Some []
outputs (r ∷ rs) = output_before (output_in r) (outputs rs)

-- the branches are taken away
abbrev pub gathered : Progress
gathered = record { children = Removed; raises = false; events = [] }
