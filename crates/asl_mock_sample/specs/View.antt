-- What a clause sees of what is known of states.
use Rattle.asl_json.specs.View.{members_of}
use Rattle.asl_mock_sample.specs.declared.wants.Table.{Table}
use Rattle.asl_mock_sample.specs.Wants.{Known}

abbrev pub known_of : Table → Known
known_of t = record {
  inputs = members_of t.inputs.items;
  results = members_of t.results.items;
  outputs = members_of t.outputs.items;
}
