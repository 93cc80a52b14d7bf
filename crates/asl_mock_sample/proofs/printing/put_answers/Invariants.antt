use Rattle.std.proofs.Common.{◌≡◌, ◌++◌, drop}
use Rattle.std.specs.Prelude.{string_bytes}
use Rattle.asl_json.specs.View.{members_of}
use Rattle.asl_mock_sample.specs.Files.{answer_entries}
use Rattle.asl_mock_sample.proofs.printing.put_answers.Given as goal

-- the entries so far and those that are left are all
abbrev pub invariant-loop-number : goal.invariant-loop-number
invariant-loop-number l = string_bytes l.out ++ answer_entries (members_of l.wanted) l.number (drop l.number l.calls) ≡ string_bytes l.fn.out ++ answer_entries (members_of l.wanted) 0 l.calls
