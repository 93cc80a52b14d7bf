-- What states want of their inputs, of their results, and of the outputs of the machines in them: values in which each path names something that
-- a state behind them reads. (A path is live in front of a state that reads it, and of those that lead there.) The states are gone through from the
-- last of the document to the first one, four times, since what stands in front of a state may come behind it, too.
use Rattle.std.specs.Prelude.{ℕ, suc, List, [], ◌∷◌, ◌++◌, Option, Some, None, if◌then◌else◌, codes, reverse}
use Rattle.asl_json_data.specs.Data.{Data, text, Chain, no_items, item, Pairs, no_members, member}
use Rattle.asl_json_data.specs.Distinct.{Members}
use Rattle.asl_json.specs.Access.{items_in, member_list_at, members_in}
use Rattle.asl_json.specs.Same.{bytes_eq}
use Rattle.asl_json.specs.Meaning.{value_in}
use Rattle.asl_path.specs.Walk.{item_at}
use Rattle.asl_def_walk.specs.States.{all_states}
use Rattle.asl_mock_sample.specs.Merging.{anything, or_anything, both}
use Rattle.asl_mock_sample.specs.Paths.{found, path_wants, nth_item}
use Rattle.asl_mock_sample.specs.Beside.{beside}
use Rattle.asl_mock_sample.specs.Templates.{one, value_wants, through}
use Rattle.asl_mock_sample.specs.Rules.{moment, rules_wants}

-- ---- what is known by the names of states

-- what was said of a name last
abbrev pub last_behind : Option Data → List ℕ → Members → Option Data
last_behind o name [] = o
last_behind o name (m ∷ ms) = last_behind (if bytes_eq name m.0 then Some m.1 else o) name ms

abbrev pub last_of : Members → List ℕ → Data
last_of ms name = or_anything (last_behind None name ms)

-- of the state that a member names
abbrev pub named_by : Members → Option Data → Data
named_by ms (Some (text name)) = last_of ms name
named_by ms o = anything

pub record Known : Type 0 where
  pub inputs : Members
  pub results : Members
  pub outputs : Members

-- ---- filters

-- a path selects what it names, null nothing, and no path all
abbrev pub selected_from : Option Data → Data → Data
selected_from None w = w
selected_from (Some (text t)) w = path_wants (codes "$") t w
selected_from (Some d) w = anything

abbrev pub filled_from : List ℕ → Option Data → Data → Data
filled_from root None w = w
filled_from root (Some t) w = through root t w

-- the result is placed by ResultPath, whole where there is none
abbrev pub placed_part : Option Data → Data → Data
placed_part None w = w
placed_part (Some (text t)) w = found t w
placed_part (Some d) w = anything

-- in the input, of which nothing is left where there is no ResultPath
abbrev pub around : Option Data → Data → Data
around None w = anything
around (Some (text t)) w = beside t w
around (Some d) w = w

-- ---- where a state leads

abbrev pub choices_lead : Members → Data → Chain → Data
choices_lead inputs done no_items = done
choices_lead inputs done (item d ds) =
    choices_lead inputs (both done (named_by inputs (value_in (codes "Next") d))) ds

abbrev pub listed : Option Data → Chain
listed None = no_items
listed (Some d) = items_in d

-- what the states that a state leads to want of their inputs
abbrev pub led : Members → Data → Data
led inputs s =
    choices_lead inputs
    (both (named_by inputs (value_in (codes "Next") s))
    (named_by inputs (value_in (codes "Default") s)))
    (listed (value_in (codes "Choices") s))

-- what the states that catchers lead to want of the state's input, in which each places its error
abbrev pub caught : Members → Data → Chain → Data
caught inputs done no_items = done
caught inputs done (item d ds) =
    caught inputs
    (both done (around (value_in (codes "ResultPath") d) (named_by inputs (value_in (codes "Next") d)))) ds

abbrev pub leads : Option Data → Option Data → Data → Data → Data
leads None None next out = out
leads o p next out = next

-- what is wanted of the output of the state of this name
abbrev pub output_wants : Known → List ℕ → Data → Data
output_wants known name s =
    leads (value_in (codes "Next") s) (value_in (codes "Choices") s) (led known.inputs s)
    (last_of known.outputs name)

-- ---- what a state wants of its effective input

abbrev pub read_part : List ℕ → Data → Data
read_part k d =
    if bytes_eq k (codes "Choices") then rules_wants d
    else if bytes_eq k (codes "SecondsPath") then value_wants (codes "$") d one
    else if bytes_eq k (codes "TimestampPath") then value_wants (codes "$") d moment
    else if bytes_eq k (codes "ErrorPath") then value_wants (codes "$") d anything
    else if bytes_eq k (codes "CausePath") then value_wants (codes "$") d anything
    else anything

abbrev pub own_reads : Data → Pairs → Data
own_reads done no_members = done
own_reads done (member k d ms) = own_reads (both done (read_part k d)) ms

-- a state that has no machine inside passes its input on, unless it has a result of its own
abbrev pub plain_wants : Option Data → Data → Data → Data
plain_wants (Some r) s result = anything
plain_wants None s result = own_reads result (members_in s)

-- the branches of a Parallel: each of them gets the input
abbrev pub branches_want : Members → Data → Chain → Data
branches_want inputs done no_items = done
branches_want inputs done (item d ds) =
    branches_want inputs (both done (named_by inputs (value_in (codes "StartAt") d))) ds

abbrev pub first_of : Option Data → Option Data → Option Data
first_of (Some d) o = Some d
first_of None o = o

abbrev pub selector_of : Data → Option Data
selector_of s = first_of (value_in (codes "ItemSelector") s) (value_in (codes "Parameters") s)

abbrev pub selector_wants : Option Data → Data → Data
selector_wants None w = anything
selector_wants (Some t) w = through (codes "$") t w

-- a Map, given what its machine wants of an item
abbrev pub map_wants : Data → Data → Data
map_wants s w =
    both (selector_wants (selector_of s) w)
    (selected_from (value_in (codes "ItemsPath") s)
    (nth_item 0 (filled_from (codes "$$.Map.Item.Value") (selector_of s) w)))

abbrev pub machine_of : Data → Option Data
machine_of s = first_of (value_in (codes "ItemProcessor") s) (value_in (codes "Iterator") s)

abbrev pub kind_wants : Members → Data → Data → Option Data → Option Data → Option Data → Data
kind_wants inputs s result (Some r) o p =
    filled_from (codes "$") (value_in (codes "Parameters") s) anything
kind_wants inputs s result None (Some bs) p =
    filled_from (codes "$") (value_in (codes "Parameters") s)
    (branches_want inputs anything (items_in bs))
kind_wants inputs s result None None (Some m) =
    map_wants s (named_by inputs (value_in (codes "StartAt") m))
kind_wants inputs s result None None None =
    filled_from (codes "$") (value_in (codes "Parameters") s)
    (plain_wants (value_in (codes "Result") s) s result)

abbrev pub effective_wants : Members → Data → Data → Data
effective_wants inputs s result =
    kind_wants inputs s result (value_in (codes "Resource") s) (value_in (codes "Branches") s)
    (machine_of s)

-- ---- what becomes known of a state

abbrev pub after : Known → List ℕ → Data → Data
after known name s =
    selected_from (value_in (codes "OutputPath") s) (output_wants known name s)

abbrev pub result_wants : Known → List ℕ → Data → Data
result_wants known name s =
    filled_from (codes "$") (value_in (codes "ResultSelector") s)
    (placed_part (value_in (codes "ResultPath") s) (after known name s))

abbrev pub input_wants : Known → List ℕ → Data → Data
input_wants known name s =
    both
    (caught known.inputs (around (value_in (codes "ResultPath") s) (after known name s))
    (listed (value_in (codes "Catch") s)))
    (selected_from (value_in (codes "InputPath") s)
    (effective_wants known.inputs s (result_wants known name s)))

-- each of these states ends with this output, where it ends its machine
abbrev pub all_end : Members → Data → Members → Members
all_end done w [] = done
all_end done w (m ∷ ms) = all_end (done ++ (m.0, w) ∷ []) w ms

-- the branches from this number on
abbrev pub branches_end : Members → ℕ → Data → Chain → Members
branches_end done i w no_items = done
branches_end done i w (item d ds) =
    branches_end (all_end done (or_anything (item_at i (items_in w))) (member_list_at (codes "States") d))
    (suc i) w ds

abbrev pub inner_end : Members → Data → Option Data → Option Data → Members
inner_end done w (Some bs) o = branches_end done 0 w (items_in bs)
inner_end done w None (Some m) =
    all_end done (or_anything (item_at 0 (items_in w))) (member_list_at (codes "States") m)
inner_end done w None None = done

abbrev pub with_state : Known → List ℕ × Data → Known
with_state known s = record {
  inputs = known.inputs ++ (s.0, input_wants known s.0 s.1) ∷ [];
  results = known.results ++ (s.0, result_wants known s.0 s.1) ∷ [];
  outputs =
      inner_end known.outputs (result_wants known s.0 s.1) (value_in (codes "Branches") s.1)
      (machine_of s.1);
}

abbrev pub with_states : Known → Members → Known
with_states known [] = known
with_states known (s ∷ ss) = with_states (with_state known s) ss

-- and once more
abbrev pub twice : Members → Known → Known
twice ss known = with_states (with_states known ss) ss

abbrev pub nothing_known : Known
nothing_known = record { inputs = []; results = []; outputs = [] }

-- what is wanted of the results of a definition's states, which are gone through four times
abbrev pub wanted_results : Data → Members
wanted_results d =
    (twice (reverse (all_states d)) (twice (reverse (all_states d)) nothing_known)).results
