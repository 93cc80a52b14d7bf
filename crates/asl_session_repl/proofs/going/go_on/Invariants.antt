use Rattle.std.proofs.Common.{◌≡◌, ◌++◌, ◌-◌}
use Rattle.std.specs.Prelude.{string_bytes}
use Rattle.asl_session_repl.specs.Onward.{gone, gone_lines}
use Rattle.asl_session_repl.proofs.going.go_on.Given as goal

-- what is left to go leads where all leads
abbrev pub invariant-loop : goal.invariant-loop
invariant-loop l = record {
  told : string_bytes l.out ++ gone_lines l.halting (l.most - l.counter) l.until l.session ≡ string_bytes l.fn.out ++ gone_lines l.halting l.most l.until l.fn.session;
  left : gone l.halting (l.most - l.counter) l.until l.session ≡ gone l.halting l.most l.until l.fn.session;
}
