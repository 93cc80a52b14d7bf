-- Tests of which the input may stand in a file, and the tests that they are with their inputs.
use Rattle.asl_json.specs.declared.value.Json.{Json}
use Rattle.asl_suite_file.specs.declared.expectation.Draft.{Draft}
use Rattle.asl_suite_file.specs.declared.expectation.Expectation.{Expectation}

-- the test on this input
abbrev pub test_on : Draft → Json → Expectation
test_on d input = record {
  machine = d.machine;
  case = d.case;
  name = d.name;
  input = input;
  steps = d.steps;
  end = d.end;
  states = d.states;
}
