-- What is wrong with a project's table: keys that aren't known, values of another type, workflows of one machine.
use Rattle.std.specs.Prelude.{ℕ, ◌+◌, List, Bool, true, false, not, ◌&&◌, ◌||◌, nat_lt, if◌then◌else◌, Option, Some, None, is_some, option_and_then, unwrap_or, codes}
use Rattle.std.specs.Str.{bytes_eq}
use Rattle.toml.specs.Data.{Data, Items, no_items, item, Members, no_members, member, as_str, as_array, as_table, get_item, get_member}
use Rattle.asl_project.specs.declared.form.Level.{Level}
use Rattle.asl_project.specs.declared.form.Level.TheVariants.{Project, Workflow}
use Rattle.asl_project.specs.declared.spot.Spot.{Spot}
use Rattle.asl_project.specs.declared.spot.Spot.TheVariants as spot

-- ---- values

-- the members of a table; any other value has none
abbrev pub members_in : Data → Members
members_in d = unwrap_or (as_table d) no_members

abbrev pub member_in : List ℕ → Data → Option Data
member_in k d = get_member k (members_in d)

-- the items of a list; any other value, and none, has none
abbrev pub items_at : Option Data → Items
items_at o = unwrap_or (option_and_then as_array o) no_items

abbrev pub is_text : Data → Bool
is_text d = is_some (as_str d)

abbrev pub all_texts : Items → Bool
all_texts no_items = true
all_texts (item d ds) = is_text d && all_texts ds

abbrev pub texts_alone : Option Items → Bool
texts_alone None = false
texts_alone (Some ds) = all_texts ds

-- a list of texts
abbrev pub are_texts : Data → Bool
are_texts d = texts_alone (as_array d)

-- the workflows of a project's table, one value each
abbrev pub workflows : Members → Items
workflows ms = items_at (get_member (codes "workflow") ms)

-- ---- keys

abbrev pub is_known : Level → List ℕ → Bool
is_known Project k = bytes_eq k (codes "workflow")
is_known Workflow k =
    bytes_eq k (codes "definition") || (bytes_eq k (codes "mocks") || (bytes_eq k (codes "machine")
    || (bytes_eq k (codes "tests") || (bytes_eq k (codes "input") || bytes_eq k (codes "ignore")))))

abbrev pub all_known : Level → Members → Bool
all_known l no_members = true
all_known l (member k d ms) = is_known l k && all_known l ms

-- what is no table has no keys
abbrev pub knows_its_keys : Data → Bool
knows_its_keys d = all_known Workflow (members_in d)

abbrev pub know_their_keys : Items → Bool
know_their_keys no_items = true
know_their_keys (item d ds) = knows_its_keys d && know_their_keys ds

-- the project or a workflow has a key that isn't known
abbrev pub has_unknown_key : Members → Bool
has_unknown_key ms = not (all_known Project ms && know_their_keys (workflows ms))

-- ---- keys that a workflow needs

abbrev pub has : List ℕ → Data → Bool
has k d = is_some (member_in k d)

-- its definition, and a mock file where it has tests
abbrev pub lacks_key : Data → Bool
lacks_key d =
    is_some (as_table d) && (not (has (codes "definition") d)
    || (has (codes "tests") d && not (has (codes "mocks") d)))

-- the number of the first workflow that lacks a key, counted from i
abbrev pub lacking_from : ℕ → Items → Option ℕ
lacking_from i no_items = None
lacking_from i (item d ds) = if lacks_key d then Some i else lacking_from (i + 1) ds

-- ---- types

abbrev pub fits : List ℕ → Data → Bool
fits k d =
    if bytes_eq k (codes "tests") || bytes_eq k (codes "ignore") then are_texts d else is_text d

abbrev pub all_fit : Members → Bool
all_fit no_members = true
all_fit (member k d ms) = fits k d && all_fit ms

abbrev pub members_fit : Option Members → Bool
members_fit None = false
members_fit (Some ms) = all_fit ms

-- a workflow is a table
abbrev pub workflow_fits : Data → Bool
workflow_fits d = members_fit (as_table d)

abbrev pub workflows_fit : Items → Bool
workflows_fit no_items = true
workflows_fit (item d ds) = workflow_fits d && workflows_fit ds

-- a list, if there is a value
abbrev pub is_list : Option Data → Bool
is_list None = true
is_list (Some d) = is_some (as_array d)

-- a value is of another type
abbrev pub has_misfit : Members → Bool
has_misfit ms =
    not (is_list (get_member (codes "workflow") ms) && workflows_fit (workflows ms))

-- ---- machines

-- the name of a workflow's machine, where it is said
abbrev pub machine_of : Data → Option (List ℕ)
machine_of d = option_and_then as_str (member_in (codes "machine") d)

abbrev pub is_name : List ℕ → Option (List ℕ) → Bool
is_name k None = false
is_name k (Some name) = bytes_eq name k

abbrev pub is_of : List ℕ → Data → Bool
is_of k d = is_name k (machine_of d)

-- one of these is of this machine
abbrev pub is_named_among : List ℕ → Items → Bool
is_named_among k no_items = false
is_named_among k (item d ds) = is_of k d || is_named_among k ds

abbrev pub is_among : Option (List ℕ) → Items → Bool
is_among None ds = false
is_among (Some k) ds = is_named_among k ds

-- one of these is of the machine of this workflow
abbrev pub is_of_machine : Data → Items → Bool
is_of_machine d ds = is_among (machine_of d) ds

-- two are of one machine
abbrev pub has_same_machine : Items → Bool
has_same_machine no_items = false
has_same_machine (item d ds) = is_of_machine d ds || has_same_machine ds

-- ---- what is wrong

abbrev pub lacking_or : Option ℕ → Option Spot → Option Spot
lacking_or (Some n) others = Some (spot.Workflow n)
lacking_or None others = others

-- the least number first; none where the table is a project's
abbrev pub first_wrong : Members → Option Spot
first_wrong ms =
    if has_unknown_key ms then Some spot.UnknownKey
    else lacking_or (lacking_from 0 (workflows ms))
    (if has_misfit ms then Some spot.Misfit
    else if has_same_machine (workflows ms) then Some spot.SameMachine else None)

-- ---- what a table has

abbrev pub count_of : Items → ℕ
count_of no_items = 0
count_of (item d ds) = count_of ds + 1

abbrev pub has_key : List ℕ → Option Data → Bool
has_key k None = false
has_key k (Some d) = has k d

-- the workflow of a number has this key
abbrev pub has_member : ℕ → List ℕ → Items → Bool
has_member n k ds = has_key k (get_item n ds)

abbrev pub shows : Spot → Members → Bool
shows spot.UnknownKey ms = has_unknown_key ms
shows (spot.Workflow n) ms = nat_lt n (count_of (workflows ms))
shows spot.Misfit ms = has_misfit ms
shows spot.SameMachine ms = has_same_machine (workflows ms)
shows (spot.Member n k) ms = has_member n k.now (workflows ms)
