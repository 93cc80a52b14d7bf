-- Errors that retriers and catchers tell apart. (Amazon States Language, "Retrying after error", "Fallback states".)
use Rattle.std.specs.Prelude.{ℕ, List, [], ◌∷◌, ◌++◌, Bool, Option, option_map, if◌then◌else◌, nat_eq, codes}
use Rattle.std.specs.List.{flat_map, list_all, list_any}
use Rattle.std.specs.Option.{option_eq}
use Rattle.asl_json_data.specs.Data.{Data, Chain}
use Rattle.asl_json.specs.Meaning.{value_in}
use Rattle.asl_handle.specs.Decisions.{first_for, handlers_in}
use Rattle.asl_task_errors.specs.Candidates.{candidates, timeout}

-- the number of the first of these that is for the error
abbrev pub number_for : List ℕ → Chain → Option ℕ
number_for error handlers = option_map (λ x. x.0) (first_for error 0 handlers)

-- the same of them is for both errors, or none for either
abbrev pub is_alike : List ℕ → List ℕ → Chain → Bool
is_alike one other handlers = option_eq nat_eq (number_for one handlers) (number_for other handlers)

-- handled alike: in each list
abbrev pub are_alike : List Chain → List ℕ → List ℕ → Bool
are_alike handlers one other = list_all (is_alike one other) handlers

-- of these errors, in order, each that is handled like none before it, where these were told already. (What is handled like an error
-- that isn't told is handled like one that is.)
abbrev pub apart : List Chain → List (List ℕ) → List (List ℕ) → List (List ℕ)
apart handlers told [] = []
apart handlers told (e ∷ es) =
    if list_any (are_alike handlers e) told
    then apart handlers told es
    else e ∷ apart handlers (told ++ e ∷ []) es

-- the errors that these lists of handlers tell apart, and that of a Task that takes too long
abbrev pub told_apart : List Chain → List (List ℕ)
told_apart handlers = apart handlers [] (candidates handlers) ++ timeout ∷ []

-- a state's retriers, and its catchers
abbrev pub handlers_of : Data → List Chain
handlers_of state =
    handlers_in (value_in (codes "Retry") state) ∷ handlers_in (value_in (codes "Catch") state) ∷ []

-- the errors that a state is worth failing with, by the state and those around it, the innermost first
abbrev pub errors_of : List Data → List (List ℕ)
errors_of levels = told_apart (flat_map handlers_of levels)
