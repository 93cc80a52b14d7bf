use Rattle.std.proofs.Common.{◌∙◌, sym}
use Rattle.asl_history.proofs.Links.{found_last, passed_last}
use Rattle.asl_history.proofs.history.previous_id.Goals as goal

pub returns-then-is_along : goal.returns-then-is_along
returns-then-is_along c =
    found_last c.args.place.now c.loop-last.rest.now c.in-Some.front.now c.args.events.now c.in-Some.last.now c.in-Some.ensures.cases.0 c.loop-last.invariant.0 c.loop-last.invariant.1 (sym c.is_along.ensures ∙ c.if-is_along.true)

pub loop-last-preserved : goal.loop-last-preserved
loop-last-preserved c =
    passed_last c.args.place.now c.loop-last.rest.now c.in-Some.front.now c.args.events.now c.in-Some.last.now c.in-Some.ensures.cases.0 c.loop-last.invariant.0 c.loop-last.invariant.1 (sym c.is_along.ensures ∙ c.if-is_along.false)
