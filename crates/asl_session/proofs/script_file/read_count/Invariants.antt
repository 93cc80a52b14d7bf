use Rattle.std.proofs.Common.{◌≡◌, ◌<◌, ◌^◌, drop}
use Rattle.std.specs.List.{list_all}
use Rattle.asl_json_data.specs.Number.{digits_value}
use Rattle.asl_session.specs.Scripts.{is_digit}
use Rattle.asl_session.proofs.script_file.read_count.Given as goal

-- the digits so far have this value
abbrev pub invariant-loop-digit : goal.invariant-loop-digit
invariant-loop-digit l = record {
  value : digits_value l.number (drop l.digit-index l.text) ≡ digits_value 0 l.text;
  digits : list_all is_digit (drop l.digit-index l.text) ≡ list_all is_digit l.text;
  small : l.number < 10 ^ l.digit-index;
}
