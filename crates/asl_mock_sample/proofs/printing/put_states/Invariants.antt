use Rattle.std.proofs.Common.{◌≡◌, ◌++◌, drop}
use Rattle.std.specs.Prelude.{string_bytes}
use Rattle.asl_mock_sample.specs.Files.{state_entries}
use Rattle.asl_mock_sample.proofs.printing.put_states.Given as goal

-- the entries so far and those that are left are all
abbrev pub invariant-loop-number : goal.invariant-loop-number
invariant-loop-number l = string_bytes l.out ++ state_entries l.number (drop l.number l.calls) ≡ string_bytes l.fn.out ++ state_entries 0 l.calls
