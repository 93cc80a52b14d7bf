use Rattle.std.proofs.Common.{true, sym, ◌∙◌}
use Rattle.std.specs.Prelude.{string_bytes}
use Rattle.asl_session_repl.specs.Onward.{is_halt}
use Rattle.asl_session_repl.proofs.Moves.{halt-is, halted-line}
use Rattle.asl_session_repl.proofs.going.take_warily.Goals as goal

pub returns-then-halts-clause-text : goal.returns-then-halts-clause-text
returns-then-halts-clause-text c =
    let s = c.args.session.now in
    let a = c.args.at.now in
    let halts = halt-is s c.take.new.session a c.halts.result c.in_ok-taken.taken c.in_ok-handled.handled c.ends_badly.result c.in_ok-taken.ensures.taken c.in_ok-handled.ensures c.in_ok-taken.ensures.next c.ends_badly.ensures c.halts.ensures in
    halted-line (is_halt true s a) (string_bytes c.args.out.now) _ _ _ (sym halts ∙ c.if-halts.true) c.in_ok-taken.ensures.text c.in_ok-push_str.ensures.bytes
