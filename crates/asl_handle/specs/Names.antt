-- Which errors a retrier or a catcher is for. (Amazon States Language, "Errors".)
use Rattle.std.specs.Prelude.{ℕ, List, Bool, false, not, ◌&&◌, ◌||◌, Option, Some, codes}
use Rattle.asl_json_data.specs.Data.{Data, text, list, Chain, no_items, item}
use Rattle.asl_json.specs.Same.{bytes_eq}
use Rattle.asl_json.specs.Meaning.{value_in}

-- nothing names these, not even a list that has the name itself (this project's profile)
abbrev pub is_beyond : List ℕ → Bool
is_beyond error =
    bytes_eq error (codes "States.Runtime") || bytes_eq error (codes "States.DataLimitExceeded")

-- a name stands for itself, States.ALL for any error, and States.TaskFailed for any but
-- States.Timeout
abbrev pub stands_for : List ℕ → List ℕ → Bool
stands_for name error =
    bytes_eq name error || bytes_eq name (codes "States.ALL")
    || (bytes_eq name (codes "States.TaskFailed")
    && not (bytes_eq error (codes "States.Timeout")))

abbrev pub is_name_for : List ℕ → Data → Bool
is_name_for error (text name) = stands_for name error
is_name_for error d = false

abbrev pub has_name_for : List ℕ → Chain → Bool
has_name_for error no_items = false
has_name_for error (item d ds) = is_name_for error d || has_name_for error ds

-- a list of names, as it stands in ErrorEquals
abbrev pub names : Option Data → List ℕ → Bool
names (Some (list ds)) error = not (is_beyond error) && has_name_for error ds
names o error = false

-- a retrier or a catcher, by its canonical object
abbrev pub is_for : Data → List ℕ → Bool
is_for d error = names (value_in (codes "ErrorEquals") d) error
