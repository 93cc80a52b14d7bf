-- What is told of a search beyond its outcomes.
use Rattle.std.specs.Prelude.{ℕ, zero, suc, Bool, ◌||◌, List, [], ◌∷◌, ◌++◌, Option, Some, None, codes, length, nat_eq, nat_lt, slice_get, if◌then◌else◌}
use Rattle.std.specs.Fmt.{decimal}
use Rattle.std.specs.List.{flat_map}
use Rattle.asl_json_data.specs.Compact.{quoted}
use Rattle.asl_explore.specs.declared.calls.Bounds.{Bounds}
use Rattle.asl_explore.specs.declared.calls.Calls.{Calls}
use Rattle.asl_explore.specs.declared.states.Stated.{Stated}
use Rattle.asl_explore.specs.declared.remarks.Answers.{Answers}
use Rattle.asl_explore.specs.declared.remarks.Remarks.{Remarks}

-- the numbers from the low one to the high one: `4-6`, or `4` alone
abbrev pub span_text : ℕ → ℕ → List ℕ
span_text low high =
    if nat_eq low high then decimal low else decimal low ++ 45 ∷ decimal high

-- ---- how often Tasks are invoked

abbrev pub call_line : List ℕ → Bounds → List ℕ
call_line name b = codes "calls " ++ (quoted name ++ 32 ∷ (span_text b.least b.most ++ 10 ∷ []))

-- of a state that is never invoked nothing is told
abbrev pub call_text : List ℕ → Option Bounds → List ℕ
call_text name None = []
call_text name (Some b) = if nat_lt 0 b.most then call_line name b else []

abbrev pub state_calls : Calls → Stated → List ℕ
state_calls c t = call_text t.name (slice_get c.bounds.items t.number)

abbrev pub states_calls : List Stated → Option Calls → List ℕ
states_calls ts None = []
states_calls ts (Some c) = flat_map (state_calls c) ts

-- how often each state is invoked in the orders that end in the outcome of this number, from 1
abbrev pub calls_text : List Stated → List Calls → ℕ → List ℕ
calls_text ts cs zero = []
calls_text ts cs (suc i) = states_calls ts (slice_get cs i)

-- ---- what is remarkable

abbrev pub name_line : List ℕ → List ℕ → List ℕ
name_line word name = word ++ (quoted name ++ 10 ∷ [])

abbrev pub names_text : List ℕ → List (List ℕ) → List ℕ
names_text word names = flat_map (name_line word) names

abbrev pub unanswered_line : Answers → List ℕ
unanswered_line a =
    codes "never answered " ++ (quoted a.task ++ 32 ∷ (span_text a.low a.high ++ 10 ∷ []))

abbrev pub unanswered_text : List Answers → List ℕ
unanswered_text rs = flat_map unanswered_line rs

abbrev pub remarks_text : Remarks → List ℕ
remarks_text r =
    names_text (codes "shared ") r.shared.items
    ++ (names_text (codes "never entered ") r.unentered.items
    ++ (unanswered_text r.unanswered.items ++ names_text (codes "cut off ") r.cut_off.items))

-- whether anything is remarkable
abbrev pub are_remarks : Remarks → Bool
are_remarks r =
    nat_lt 0 (length r.shared.items) || (nat_lt 0 (length r.unentered.items)
    || (nat_lt 0 (length r.unanswered.items) || nat_lt 0 (length r.cut_off.items)))
