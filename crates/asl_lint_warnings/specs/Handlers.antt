-- What the items of a list are warned of: errors that there aren't or that are named twice, retriers
-- and catchers that no error reaches.
use Rattle.std.specs.Prelude.{ℕ, List, Bool, true, false, ◌||◌, ◌&&◌, not, Option, Some, None, codes, if◌then◌else◌}
use Rattle.asl_json_data.specs.Data.{Data, text, list, Chain, no_items, item}
use Rattle.asl_json.specs.Same.{bytes_eq}
use Rattle.asl_json.specs.Meaning.{value_in}
use Rattle.asl_def_schema.specs.declared.sort.Sort.{Sort}
use Rattle.asl_def_schema.specs.declared.sort.Sort.TheVariants as sort
use Rattle.asl_def_schema.specs.Claims.{is_nonempty}
use Rattle.asl_handle.specs.Names.{is_beyond}
use Rattle.asl_lint_warnings.specs.declared.warning.WarningKind.{WarningKind}
use Rattle.asl_lint_warnings.specs.declared.warning.WarningKind.TheVariants as kind
use Rattle.asl_lint_warnings.specs.Kinds.{kind_if}
use Rattle.asl_lint_warnings.specs.Texts.{is_unknown_error}

abbrev pub items_in : Option Data → Chain
items_in (Some (list ds)) = ds
items_in _ = no_items

-- what a retrier or a catcher lists
abbrev pub names_in : Data → Chain
names_in d = items_in (value_in (codes "ErrorEquals") d)

abbrev pub is_text : List ℕ → Data → Bool
is_text n (text t) = bytes_eq n t
is_text n d = false

abbrev pub has_text : List ℕ → Chain → Bool
has_text n no_items = false
has_text n (item d ds) = is_text n d || has_text n ds

-- an item of a list of this sort brings in a name
abbrev pub brings : Sort → Data → List ℕ → Bool
brings sort.ErrorNames d n = is_text n d
brings s d n = has_text n (names_in d)

-- each error that a name stands for, some of the listed names stand for
abbrev pub is_taken : (List ℕ → Bool) → List ℕ → Bool
is_taken listed n =
    is_beyond n || listed n || listed (codes "States.ALL")
    || (listed (codes "States.TaskFailed")
    && not (bytes_eq n (codes "States.Timeout"))
    && (not (bytes_eq n (codes "States.ALL")) || listed (codes "States.Timeout")))

abbrev pub is_taken_name : (List ℕ → Bool) → Data → Bool
is_taken_name listed (text n) = is_taken listed n
is_taken_name listed d = false

abbrev pub are_taken : (List ℕ → Bool) → Chain → Bool
are_taken listed no_items = true
are_taken listed (item d ds) = is_taken_name listed d && are_taken listed ds

-- there are names, and each is taken
abbrev pub are_all_taken : (List ℕ → Bool) → Chain → Bool
are_all_taken listed ds = is_nonempty ds && are_taken listed ds

-- no error reaches a handler behind those that list these names
abbrev pub is_unasked : (List ℕ → Bool) → Data → Bool
is_unasked listed d = are_all_taken listed (names_in d)

abbrev pub is_unknown_name : Data → Bool
is_unknown_name (text t) = is_unknown_error t
is_unknown_name d = false

abbrev pub is_listed : (List ℕ → Bool) → Data → Bool
is_listed listed (text t) = listed t
is_listed listed d = false

-- of a name behind those of its list
abbrev pub name_kind : (List ℕ → Bool) → Data → Option WarningKind
name_kind listed d =
    if is_unknown_name d then Some kind.UnknownError
    else kind_if (is_listed listed d) kind.RepeatedError

-- of an item of a list of this sort, behind those that bring in these names
abbrev pub item_kind : Sort → (List ℕ → Bool) → Data → Option WarningKind
item_kind sort.ErrorNames listed d = name_kind listed d
item_kind sort.Retriers listed d = kind_if (is_unasked listed d) kind.UnaskedHandler
item_kind sort.Catchers listed d = kind_if (is_unasked listed d) kind.UnaskedHandler
item_kind s listed d = None
