-- What an expectations file is made of: a list of tests, each an object. Which values don't fit, and where they stand.
use Rattle.std.specs.Prelude.{ℕ, ◌+◌, ℤ, pos, List, [], ◌∷◌, ◌++◌, Bool, true, false, not, ◌&&◌, ◌||◌, if◌then◌else◌, codes, is_some, map, Option, Some, None}
use Rattle.asl_json_data.specs.Data.{Data, null, number, text, list, dict, Chain, no_items, item, Pairs, no_members, member}
use Rattle.asl_json.specs.Access.{is_list}
use Rattle.asl_json.specs.Same.{bytes_eq}
use Rattle.asl_json.specs.Meaning.{value_in}
use Rattle.asl_json.specs.Whole.{whole_of}
use Rattle.asl_json_write.specs.Pointers.{name_part, index_part}
use Rattle.asl_suite_file.specs.Steps.{step_of}

-- ---- places, as JSON Pointers (RFC 6901, section 3)

abbrev pub Place : Type 0
Place = List ℕ

-- as they are seen from the value that is a step above
abbrev pub under : List ℕ → List Place → List Place
under step ps = map (λ (p : Place). step ++ p) ps

-- nothing, or the place of the value itself
abbrev pub unless : Bool → List Place
unless true = []
unless false = [] ∷ []

abbrev pub first_of : List Place → Option Place
first_of [] = None
first_of (p ∷ ps) = Some p

-- ---- the values of members

abbrev pub is_text : Data → Bool
is_text (text t) = true
is_text d = false

abbrev pub is_maybe_text : Data → Bool
is_maybe_text null = true
is_maybe_text d = is_text d

abbrev pub is_status_name : List ℕ → Bool
is_status_name t =
    bytes_eq t (codes "SUCCEEDED") || (bytes_eq t (codes "FAILED") || bytes_eq t (codes "TIMED_OUT"))

abbrev pub is_status : Data → Bool
is_status (text t) = is_status_name t
is_status d = false

-- 0 or more
abbrev pub is_amount : Option ℤ → Bool
is_amount (Some (pos n)) = true
is_amount o = false

-- a whole number, 0 or more, however it is spelled
abbrev pub is_count : Data → Bool
is_count (number n) = is_amount (whole_of n)
is_count d = false

-- a member that says something of states, by their names
abbrev pub is_by_state : List ℕ → Bool
is_by_state k =
    bytes_eq k (codes "visits") || (bytes_eq k (codes "invocations")
    || bytes_eq k (codes "calls"))

-- `calls` has a list of each, the others a count
abbrev pub is_of_state : List ℕ → Data → Bool
is_of_state k d = if bytes_eq k (codes "calls") then is_list d else is_count d

abbrev pub bad_of_states : List ℕ → Pairs → List Place
bad_of_states k no_members = []
bad_of_states k (member n d ms) =
    under (name_part n) (unless (is_of_state k d)) ++ bad_of_states k ms

abbrev pub bad_states : List ℕ → Data → List Place
bad_states k (dict ms) = bad_of_states k ms
bad_states k d = [] ∷ []

-- a text that is a line of a steps file
abbrev pub is_step : Data → Bool
is_step d = is_some (step_of d)

-- a member that has the steps of a test
abbrev pub has_steps : List ℕ → Bool
has_steps k = bytes_eq k (codes "steps")

-- counted from i
abbrev pub bad_steps_from : ℕ → Chain → List Place
bad_steps_from i no_items = []
bad_steps_from i (item d ds) =
    under (index_part i) (unless (is_step d)) ++ bad_steps_from (i + 1) ds

-- `steps` is a list of them
abbrev pub bad_steps : Data → List Place
bad_steps (list ds) = bad_steps_from 0 ds
bad_steps d = [] ∷ []

-- whether the value of another member fits; any input and any output does, and of a file with the input any name
abbrev pub is_fit : List ℕ → Data → Bool
is_fit k d =
    if bytes_eq k (codes "machine") || (bytes_eq k (codes "case") || (bytes_eq k (codes "name")
    || bytes_eq k (codes "inputFile")))
    then is_text d
    else if bytes_eq k (codes "error") || bytes_eq k (codes "cause") then is_maybe_text d
    else if bytes_eq k (codes "status") then is_status d else true

abbrev pub bad_member : List ℕ → Data → List Place
bad_member k d =
    if is_by_state k then bad_states k d
    else if has_steps k then bad_steps d else unless (is_fit k d)

abbrev pub bad_members : Pairs → List Place
bad_members no_members = []
bad_members (member k d ms) = under (name_part k) (bad_member k d) ++ bad_members ms

-- ---- tests

abbrev pub is_known : List ℕ → Bool
is_known k =
    bytes_eq k (codes "machine") || (bytes_eq k (codes "case") || (bytes_eq k (codes "name")
    || (bytes_eq k (codes "input") || (bytes_eq k (codes "inputFile") || (bytes_eq k (codes "status")
    || (bytes_eq k (codes "output") || (bytes_eq k (codes "match")
    || (bytes_eq k (codes "error") || (bytes_eq k (codes "cause")
    || (bytes_eq k (codes "steps") || is_by_state k))))))))))

abbrev pub are_known : Pairs → Bool
are_known no_members = true
are_known (member k d ms) = is_known k && are_known ms

abbrev pub has : List ℕ → Data → Bool
has k d = is_some (value_in k d)

-- its input stands in it or in a file, and not in both
abbrev pub has_input : Data → Bool
has_input d = if has (codes "input") d then not (has (codes "inputFile") d) else has (codes "inputFile") d

-- it has the members that each test has
abbrev pub has_all : Data → Bool
has_all d =
    has (codes "machine") d && (has (codes "case") d && (has_input d && has (codes "status") d))

-- a test that lacks a member, or has one that isn't known, stands where it begins
abbrev pub bad_test : Data → List Place
bad_test (dict ms) = unless (has_all (dict ms) && are_known ms) ++ bad_members ms
bad_test d = [] ∷ []

abbrev pub bad_tests : ℕ → Chain → List Place
bad_tests i no_items = []
bad_tests i (item d ds) = under (index_part i) (bad_test d) ++ bad_tests (i + 1) ds

-- the places of the values that don't fit, in document order
abbrev pub misfits : Data → List Place
misfits (list ds) = bad_tests 0 ds
misfits d = [] ∷ []
