use Rattle.std.proofs.Common.{◌≡◌, true, take}
use Rattle.asl_json_data.specs.Text.{ArePlain}
use Rattle.asl_json_scan.proofs.front.are_plain.Given as goal

abbrev pub invariant-loop-byte : goal.invariant-loop-byte
invariant-loop-byte l = l.all ≡ true → ArePlain (take l.byte-index l.bytes)
