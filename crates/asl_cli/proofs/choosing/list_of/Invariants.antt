use Rattle.std.proofs.Common.{◌≡◌, ◌++◌, ◌+◌, drop, string_bytes}
use Rattle.asl_cli.specs.Choosing.{lines, list_text, numbered}
use Rattle.asl_cli.proofs.choosing.list_of.Given as goal

-- the lines so far, and those of the tests that are left
abbrev pub invariant-loop-place : goal.invariant-loop-place
invariant-loop-place l = string_bytes l.out ++ lines l.word l.skipped l.apart (numbered (l.place + 1) (drop l.place l.tests)) ≡ list_text l.word l.first l.apart l.tests
