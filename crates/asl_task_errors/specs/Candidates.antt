-- The errors that retriers and catchers name. (Amazon States Language, "Errors".)
use Rattle.std.specs.Prelude.{ℕ, List, [], ◌∷◌, ◌++◌, Bool, ◌||◌, if◌then◌else◌, codes}
use Rattle.std.specs.List.{flat_map}
use Rattle.asl_json_data.specs.Data.{Data, text, Chain, no_items, item}
use Rattle.asl_json.specs.Meaning.{value_in}
use Rattle.asl_json.specs.Same.{bytes_eq}
use Rattle.asl_handle.specs.Decisions.{handlers_in}

-- An error that no list has to name. Should a list name it, it is simply a name that is listed.
abbrev pub unnamed : List ℕ
unnamed = codes "Unnamed"

-- the error of a Task that takes too long
abbrev pub timeout : List ℕ
timeout = codes "States.Timeout"

-- the names that stand for other errors
abbrev pub is_general : List ℕ → Bool
is_general name = bytes_eq name (codes "States.ALL") || bytes_eq name (codes "States.TaskFailed")

-- the error that a name in ErrorEquals is a candidate for: a name that stands for others stands here for the one that isn't named
abbrev pub candidate : List ℕ → List (List ℕ)
candidate name =
    if is_general name then unnamed ∷ []
    else if bytes_eq name timeout then [] else name ∷ []

-- what is no text names nothing
abbrev pub candidate_of : Data → List (List ℕ)
candidate_of (text name) = candidate name
candidate_of d = []

-- those of the names in a list
abbrev pub named_in : Chain → List (List ℕ)
named_in no_items = []
named_in (item d ds) = candidate_of d ++ named_in ds

-- those of a retrier or a catcher
abbrev pub named_by : Data → List (List ℕ)
named_by handler = named_in (handlers_in (value_in (codes "ErrorEquals") handler))

-- those of retriers, or of catchers
abbrev pub named_by_all : Chain → List (List ℕ)
named_by_all no_items = []
named_by_all (item d ds) = named_by d ++ named_by_all ds

-- those of lists of retriers and catchers, one list behind the other, and the one that isn't named
abbrev pub candidates : List Chain → List (List ℕ)
candidates handlers = flat_map named_by_all handlers ++ unnamed ∷ []
