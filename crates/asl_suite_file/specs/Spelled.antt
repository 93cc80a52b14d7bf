-- The tests that an expectations file spells, with the files in which their inputs stand. What a value is that doesn't fit is of no use: such a file is refused.
use Rattle.std.specs.Prelude.{ℕ, ℤ, pos, List, [], ◌∷◌, Option, Some, None, option_map, if◌then◌else◌, codes}
use Rattle.asl_json_data.specs.Data.{Data, null, number, text, list, Chain, no_items, item, Pairs, no_members, member}
use Rattle.asl_json.specs.Meaning.{value_in}
use Rattle.asl_json.specs.Same.{bytes_eq}
use Rattle.asl_json.specs.Access.{members_of_any, items_in}
use Rattle.asl_json.specs.View.{json_of, unchained}
use Rattle.asl_json.specs.Whole.{whole_of}
use Rattle.asl_json.specs.declared.value.Json.{Json}
use Rattle.asl_suite_file.specs.Steps.{steps_of}
use Rattle.asl_suite_file.specs.declared.expectation.Draft.{Draft}
use Rattle.asl_suite_file.specs.declared.expectation.InputSource.{InputSource}
use Rattle.asl_suite_file.specs.declared.expectation.InputSource.TheVariants.{Here, File}
use Rattle.asl_suite_file.specs.declared.expectation.StateCount.{StateCount}
use Rattle.asl_suite_file.specs.declared.expectation.StateCalls.{StateCalls}
use Rattle.asl_suite_file.specs.declared.expectation.WantedEnd.{WantedEnd}
use Rattle.asl_suite_file.specs.declared.expectation.WantedStates.{WantedStates}
use Rattle.asl_suite_file.specs.declared.expectation.WantedText.{WantedText}
use Rattle.asl_suite_file.specs.declared.expectation.WantedText.TheVariants.{Any, Absent, Text}
use Rattle.asl_suite_file.specs.declared.expectation.Wanted.{Wanted}
use Rattle.asl_suite_file.specs.declared.expectation.Wanted.TheVariants.{Succeeded, Failed, TimedOut}

abbrev pub text_of : Option Data → List ℕ
text_of (Some (text t)) = t
text_of _ = []

abbrev pub maybe_in : Option Data → Option Json
maybe_in o = option_map json_of o

abbrev pub name_of : Option Data → Option (List ℕ)
name_of None = None
name_of (Some d) = Some (text_of (Some d))

-- none is to be there where it is null
abbrev pub wanted_text : Option Data → WantedText
wanted_text None = Any
wanted_text (Some (text t)) = Text t
wanted_text (Some d) = Absent

abbrev pub wanted_of : List ℕ → Wanted
wanted_of t =
    if bytes_eq t (codes "SUCCEEDED") then Succeeded
    else if bytes_eq t (codes "FAILED") then Failed else TimedOut

abbrev pub amount_in : Option ℤ → ℕ
amount_in (Some (pos n)) = n
amount_in o = 0

abbrev pub count_of : Data → ℕ
count_of (number n) = amount_in (whole_of n)
count_of _ = 0

abbrev pub counts_in : Pairs → List StateCount
counts_in no_members = []
counts_in (member k d ms) = (record { state = k; count = count_of d }) ∷ counts_in ms

abbrev pub calls_in : Pairs → List StateCalls
calls_in no_members = []
calls_in (member k d ms) = (record { state = k; inputs = unchained (items_in d) }) ∷ calls_in ms

abbrev pub end_of : Data → WantedEnd
end_of d = record {
  status = wanted_of (text_of (value_in (codes "status") d));
  output = maybe_in (value_in (codes "output") d);
  part = maybe_in (value_in (codes "match") d);
  error = wanted_text (value_in (codes "error") d);
  cause = wanted_text (value_in (codes "cause") d);
}

abbrev pub states_of : Data → WantedStates
states_of d = record {
  visits = counts_in (members_of_any (value_in (codes "visits") d));
  invocations = counts_in (members_of_any (value_in (codes "invocations") d));
  calls = calls_in (members_of_any (value_in (codes "calls") d));
}

-- in the test, if it has an input; else in a file
abbrev pub input_by : Option Data → Option Data → InputSource
input_by (Some v) file = Here (json_of v)
input_by None file = File (text_of file)

abbrev pub test_of : Data → Draft
test_of d = record {
  machine = text_of (value_in (codes "machine") d);
  case = text_of (value_in (codes "case") d);
  name = name_of (value_in (codes "name") d);
  input = input_by (value_in (codes "input") d) (value_in (codes "inputFile") d);
  steps = steps_of (value_in (codes "steps") d);
  end = end_of d;
  states = states_of d;
}

abbrev pub tests_in : Chain → List Draft
tests_in no_items = []
tests_in (item d ds) = test_of d ∷ tests_in ds

-- its items in order
abbrev pub tests_of : Data → List Draft
tests_of (list ds) = tests_in ds
tests_of _ = []
