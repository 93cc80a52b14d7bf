use Rattle.std.proofs.Common.{◌≡◌, ◌<◌, ◌^◌, drop}
use Rattle.asl_base_protocol.specs.Fields.{number_on}
use Rattle.asl_base_protocol.proofs.field.length_in.Given as goal

abbrev pub invariant-loop-byte : goal.invariant-loop-byte
invariant-loop-byte l = record {
  left : number_on l.number (drop l.byte-index l.bytes) ≡ number_on 0 l.bytes;
  bound : l.number < 10 ^ l.byte-index;
}
