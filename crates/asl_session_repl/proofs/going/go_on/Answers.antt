use Rattle.std.proofs.Common.{◌≡◌, ◌∙◌, true, false, sym}
use Rattle.asl_session_repl.specs.Onward.{goes_on}
use Rattle.asl_session_repl.proofs.Moves.{lines-next, lines-stop, gone-next}
use Rattle.asl_session_repl.proofs.going.go_on.Goals as goal

pub loop-preserved : goal.loop-preserved
loop-preserved c =
    let took : goes_on c.args.halting c.args.until c.loop.session ≡ true = sym c.in_ok-go_once.ensures.goes ∙ c.if-not-branch.false in
    record {
      told = rw (c.in_ok-go_once.ensures.text, c.in_ok-go_once.ensures.next) (lines-next c.args.halting c.args.most c.loop.counter c.args.until c.loop.session _ _ c.loop-test.true took c.loop.invariant.told);
      left = rw c.in_ok-go_once.ensures.next (gone-next c.args.halting c.args.most c.loop.counter c.args.until c.loop.session _ c.loop-test.true took c.loop.invariant.left);
    }

pub returns-then-not-branch-clause-text : goal.returns-then-not-branch-clause-text
returns-then-not-branch-clause-text c =
    let stops : goes_on c.args.halting c.args.until c.loop.session ≡ false = sym c.in_ok-go_once.ensures.goes ∙ c.if-not-branch.true in
    c.in_ok-go_once.ensures.text ∙ lines-stop c.args.halting c.args.most c.loop.counter c.args.until c.loop.session _ _ c.loop-test.true stops c.loop.invariant.told
