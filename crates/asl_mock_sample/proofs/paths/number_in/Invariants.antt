use Rattle.std.proofs.Common.{◌≡◌, drop}
use Rattle.asl_mock_sample.specs.Paths.{number_from}
use Rattle.asl_mock_sample.proofs.paths.number_in.Given as goal

abbrev pub invariant-loop-byte : goal.invariant-loop-byte
invariant-loop-byte l = number_from l.number (drop l.byte-index l.bytes) ≡ number_from 0 l.bytes
