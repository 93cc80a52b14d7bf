-- What is told of a search.
use Rattle.std.specs.Prelude.{ℕ, ◌+◌, ◌&&◌, ◌||◌, Bool, true, false, Option, Some, None, List, [], ◌∷◌, ◌++◌, length, codes, is_none, is_some, nat_eq, if◌then◌else◌}
use Rattle.std.specs.Fmt.{decimal}
use Rattle.std.specs.List.{flat_map, list_all, list_any}
use Rattle.asl_json.specs.View.{data_of}
use Rattle.asl_json_data.specs.Compact.{compact, quoted}
use Rattle.asl_history.specs.Places.{place_text}
use Rattle.asl_step.specs.Rows.{error_output}
use Rattle.asl_run_state.specs.Lines.{is_success}
use Rattle.asl_run_state.specs.declared.outcome.Outcome.{Outcome}
use Rattle.asl_run_state.specs.declared.outcome.Outcome.TheVariants.{Running, Succeeded, Failed, TimedOut}
use Rattle.asl_run_input.specs.declared.step_at.StepAt.{StepAt}
use Rattle.asl_explore.specs.declared.orders.Orders.{Orders}
use Rattle.asl_explore.specs.declared.orders.Orders.TheVariants.{Every, Prompt}
use Rattle.asl_explore.specs.declared.found.Found.{Found}
use Rattle.asl_explore.specs.declared.found.Explored.{Explored}
use Rattle.asl_explore.specs.declared.endless.Lasso.{Lasso}
use Rattle.asl_explore.specs.Telling.{calls_text, are_remarks, remarks_text}

-- a status, with its output or its error
abbrev pub ended_text : Outcome → List ℕ
ended_text Running = codes "RUNNING"
ended_text (Succeeded x) = codes "SUCCEEDED " ++ compact (data_of x)
ended_text (Failed e) = codes "FAILED " ++ compact (data_of (error_output e))
ended_text TimedOut = codes "TIMED_OUT {\"Error\":\"States.Timeout\"}"

abbrev pub place_word : StepAt → List ℕ
place_word a = 32 ∷ place_text a.place

-- the places of steps
abbrev pub order_line : List StepAt → List ℕ
order_line l = codes "order" ++ (flat_map place_word l ++ 10 ∷ [])

-- an outcome of this number
abbrev pub outcome_line : ℕ → Outcome → List ℕ
outcome_line n o = codes "\noutcome " ++ (decimal n ++ 32 ∷ (ended_text o ++ 10 ∷ []))

-- an outcome, and an order that ends in it
abbrev pub found_text : ℕ → Found → List ℕ
found_text n f = outcome_line n f.outcome ++ order_line f.steps.items

-- where the outcome of this number comes only where a branch is late
abbrev pub late_line : List ℕ → ℕ → List ℕ
late_line late n = if list_any (λ k. nat_eq k n) late then codes "late\n" else []

-- the lines of outcomes, numbered from n
abbrev pub founds_text : Explored → ℕ → List Found → List ℕ
founds_text x n [] = []
founds_text x n (f ∷ fs) =
    found_text n f
    ++ (late_line x.late.items n
    ++ (calls_text x.states.items x.calls.items n ++ founds_text x (n + 1) fs))

-- the places of steps that are taken again and again
abbrev pub loop_line : List StepAt → List ℕ
loop_line l = codes "loop" ++ (flat_map place_word l ++ 10 ∷ [])

-- an order that never ends: the places of its steps, and of those that are taken again and again
abbrev pub lasso_text : Lasso → List ℕ
lasso_text l =
    codes "\nendless\n"
    ++ (order_line l.stem.items ++ loop_line l.round.items)

abbrev pub endless_text : Option Lasso → List ℕ
endless_text None = []
endless_text (Some l) = lasso_text l

abbrev pub number_line : List ℕ → ℕ → List ℕ
number_line word n = word ++ (decimal n ++ 10 ∷ [])

-- how many steps were tried in every order
abbrev pub tried_text : Option ℕ → List ℕ
tried_text None = codes "search cut\n"
tried_text (Some depth) = codes "search cut after " ++ (decimal depth ++ codes " steps\n")

-- something else than its limit ended the search
unfoldable pub stuck_text : List ℕ
stuck_text = codes "search cut: an order has more steps than a history has room for\n"

abbrev pub cut_text : Bool → Option ℕ → List ℕ
cut_text stuck depth = if stuck then stuck_text else tried_text depth

-- of which orders nothing was left out: of steps at every moment, where the definition reads no clock
unfoldable pub scope_text : Orders → Option (List ℕ) → List ℕ
scope_text Every None = codes "every order, every moment\n"
scope_text Every (Some place) = codes "every order, each step at its earliest moment\n"
scope_text Prompt place = codes "every order in which no branch is late\n"

abbrev pub complete_text : Orders → Option (List ℕ) → List ℕ
complete_text orders clock = codes "search complete: " ++ scope_text orders clock

-- whether nothing was left out, and of what; else how far the search came
abbrev pub searched_text : Explored → List ℕ
searched_text x =
    if x.complete then complete_text x.orders x.clock else cut_text x.stuck x.depth

abbrev pub note_text : Bool → List ℕ → List ℕ
note_text wanted line = if wanted then line else []

-- an empty line
abbrev pub gap : List ℕ
gap = 10 ∷ []

-- steps at later moments end the execution
unfoldable pub time_limit_note : List ℕ
time_limit_note =
    codes "note time limit: a late step ends the execution at any time, as TIMED_OUT {\"Error\":\"States.Timeout\"}\n"

unfoldable pub clock_words : List ℕ
clock_words = codes " may read the clock: at other moments there may be other outcomes\n"

-- steps at other moments may give other outcomes, since the text at this place may read the clock
abbrev pub clock_note : Option (List ℕ) → List ℕ
clock_note None = []
clock_note (Some place) = codes "note the text at " ++ (quoted place ++ clock_words)

-- only these orders were tried
unfoldable pub prompt_note : List ℕ
prompt_note =
    codes "note only orders in which no branch is late: one steps only where none may step earlier\n"

abbrev pub is_prompt : Orders → Bool
is_prompt Every = false
is_prompt Prompt = true

-- what is remarkable, which orders were tried, and what else may come where steps are taken at other
-- moments
abbrev pub notes_text : Explored → List ℕ
notes_text x =
    note_text (is_prompt x.orders || (x.limited || (is_some x.clock || are_remarks x.remarks))) gap
    ++ (remarks_text x.remarks ++ (note_text (is_prompt x.orders) prompt_note
    ++ (note_text x.limited time_limit_note ++ clock_note x.clock)))

-- what a search found
abbrev pub explored_text : Explored → List ℕ
explored_text x =
    searched_text x
    ++ (number_line (codes "worlds ") x.worlds
    ++ (number_line (codes "outcomes ") (length x.found.items)
    ++ (founds_text x 1 x.found.items ++ (endless_text x.endless ++ notes_text x))))

-- each outcome is a success
abbrev pub are_good : List Found → Bool
are_good fs = list_all (λ (f : Found). is_success f.outcome) fs

-- nothing was left out, each outcome is a success, and an end is always reached
abbrev pub is_good : Explored → Bool
is_good x = x.complete && (are_good x.found.items && is_none x.endless)
