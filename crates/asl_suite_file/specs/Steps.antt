-- The steps of a test: each is a text, a line of a steps file. What a line spells is said here by a function; it is the step of `IsStepLine`
-- (`lines_spell_their_steps`).
use Rattle.std.specs.Prelude.{ℕ, ◌+◌, ◌-◌, ◌*◌, ◌^◌, Bool, ◌&&◌, ◌==◌, nat_lt, List, [], ◌∷◌, ◌++◌, Option, Some, None, if◌then◌else◌}
use Rattle.std.specs.List.{list_all}
use Rattle.asl_json_data.specs.Data.{Data, text, Chain, no_items, item}
use Rattle.asl_json.specs.Access.{items_in}
use Rattle.asl_json.specs.Same.{bytes_eq}
use Rattle.asl_history.specs.Places.{place_text}
use Rattle.asl_time.specs.Fields.{moment_in}
use Rattle.asl_run_input.specs.declared.step_at.StepAt.{StepAt}

-- what stands before the first space, and behind it
abbrev pub before_space : List ℕ → List ℕ
before_space [] = []
before_space (c ∷ cs) = if c == 32 then [] else c ∷ before_space cs

abbrev pub behind_space : List ℕ → List ℕ
behind_space [] = []
behind_space (c ∷ cs) = if c == 32 then cs else behind_space cs

-- numbers with slashes between; the digits before the first byte spell n
abbrev pub numbers_on : ℕ → List ℕ → List ℕ
numbers_on n [] = n ∷ []
numbers_on n (c ∷ cs) =
    if c == 47 then n ∷ numbers_on 0 cs else numbers_on (10 * n + (c - 48)) cs

-- none where nothing is left
abbrev pub numbers_in : List ℕ → List ℕ
numbers_in [] = []
numbers_in (c ∷ cs) = numbers_on 0 (c ∷ cs)

-- the one place that a text can spell: the numbers behind the first slash
abbrev pub place_numbers : List ℕ → List ℕ
place_numbers [] = []
place_numbers (c ∷ cs) = numbers_in cs

abbrev pub is_small : ℕ → Bool
is_small n = nat_lt n (10 ^ 9)

-- it spells it, and the stamp stands behind it
abbrev pub is_line : List ℕ → List ℕ → List ℕ → Bool
is_line t p stamp = list_all is_small p && bytes_eq t (place_text p ++ 32 ∷ stamp)

abbrev pub step_at : List ℕ → Option ℕ → Option StepAt
step_at p None = None
step_at p (Some m) = Some (record { place = p; moment = m })

abbrev pub step_with : List ℕ → List ℕ → List ℕ → Option StepAt
step_with t p stamp = if is_line t p stamp then step_at p (moment_in stamp) else None

-- the step that a line spells; none, where it spells none
unfoldable pub step_in : List ℕ → Option StepAt
step_in t = step_with t (place_numbers (before_space t)) (behind_space t)

-- ---- the steps of a test

abbrev pub step_of : Data → Option StepAt
step_of (text t) = step_in t
step_of _ = None

abbrev pub with_step : Option StepAt → List StepAt → List StepAt
with_step None ss = ss
with_step (Some s) ss = s ∷ ss

abbrev pub steps_in : Chain → List StepAt
steps_in no_items = []
steps_in (item d ds) = with_step (step_of d) (steps_in ds)

-- of the value of `steps`, where there is one
abbrev pub steps_of : Option Data → Option (List StepAt)
steps_of None = None
steps_of (Some d) = Some (steps_in (items_in d))
