use Rattle.std.proofs.Common.{◌≡◌, ◌++◌, drop}
use Rattle.std.specs.Prelude.{string_bytes}
use Rattle.asl_session.specs.Sessions.{session_after}
use Rattle.asl_session.specs.Scripts.{answer_lines}
use Rattle.asl_session.proofs.script.put_answers.Given as goal

-- the lines so far and those of what is left are those of all
abbrev pub invariant-loop-command : goal.invariant-loop-command
invariant-loop-command l = record {
  told : string_bytes l.out ++ answer_lines l.session (drop l.command-index l.commands) ≡ string_bytes l.fn.out ++ answer_lines l.fn.session l.commands;
  left : session_after l.session (drop l.command-index l.commands) ≡ session_after l.fn.session l.commands;
}
