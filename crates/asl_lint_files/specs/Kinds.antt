-- What a file is, as its members or its first line show.
use Rattle.std.specs.Prelude.{◌≡◌, ◌⊎◌, ℕ, nat_eq, Bool, ◌||◌, List, codes, if◌then◌else◌, is_some, Option, Some, None}
use Rattle.std.specs.List.{starts_with}
use Rattle.asl_json_data.specs.Data.{Data, list, dict, Chain, no_items, item}
use Rattle.asl_json_data.specs.Reads.{ReadsAs}
use Rattle.asl_json.specs.Meaning.{value_in}
use Rattle.asl_lint.specs.Linted.{IsNoText}
use Rattle.asl_lint_files.specs.declared.kinds.Kind.{Kind}
use Rattle.asl_lint_files.specs.declared.kinds.Kind.TheVariants.{Ours, Description, History, Template}
use Rattle.asl_lint_files.specs.declared.kinds.Role.TheVariants as role

-- ---- JSON

-- whether an object has a member with one of two keys
abbrev pub has_either : List ℕ → List ℕ → Data → Bool
has_either one other d = is_some (value_in one d) || is_some (value_in other d)

-- an object that this program doesn't read
abbrev pub foreign_kind_of : Data → Option Kind
foreign_kind_of d =
    if has_either (codes "stateMachineArn") (codes "definition") d then Some Description
    else if has_either (codes "Resources") (codes "AWSTemplateFormatVersion") d then Some Template
    else if is_some (value_in (codes "events") d) then Some History else None

-- the first that shows
abbrev pub kind_of_object : Data → Option Kind
kind_of_object d =
    if has_either (codes "StartAt") (codes "States") d then Some (Ours role.Definition)
    else if has_either (codes "StateMachines") (codes "MockedResponses") d then Some (Ours role.Mocks)
    else foreign_kind_of d

abbrev pub kind_of_test : Data → Option Kind
kind_of_test d =
    if has_either (codes "machine") (codes "case") d then Some (Ours role.Expectations) else None

-- a list is what its first item shows
abbrev pub kind_of_items : Chain → Option Kind
kind_of_items no_items = None
kind_of_items (item d ds) = kind_of_test d

abbrev pub kind_of : Data → Option Kind
kind_of (dict ms) = kind_of_object (dict ms)
kind_of (list ds) = kind_of_items ds
kind_of d = None

-- ---- other texts

abbrev pub begins : List ℕ → List ℕ → Bool
begins word text = starts_with nat_eq text word

abbrev pub is_script : List ℕ → Bool
is_script b =
    begins (codes "step ") b || (begins (codes "break ") b || (begins (codes "clear ") b
    || (begins (codes "resume ") b || (begins (codes "show ") b || begins (codes "back ") b))))

-- the place of a branch, or a command
abbrev pub kind_by_line : List ℕ → Option Kind
kind_by_line b =
    if begins (codes "/") b then Some (Ours role.Steps)
    else if is_script b then Some (Ours role.Script) else None

-- ---- a file

-- what these bytes are, by their value where they are a JSON text; none where that doesn't show
abbrev pub IsKindOf : List ℕ → Option Kind → Type 0
IsKindOf b k =
    ((d : Data) × ReadsAs b d × (k ≡ kind_of d)) ⊎ (IsNoText b × (k ≡ kind_by_line b))
