use Rattle.std.proofs.Common.{ap, Some, ◌∙◌}
use Rattle.asl_history.proofs.Steps.{begun, read_on, stuck, ended, whole, shorter, nonempty, empty}
use Rattle.asl_history.proofs.place.read_steps.Goals as goal

pub loop-rest-init : goal.loop-rest-init
loop-rest-init c = rw c.new-numbers.ensures.items (begun c.args.bytes.now)

pub returns-in_default-clause-only : goal.returns-in_default-clause-only
returns-in_default-clause-only c = λ p s e. absurd (stuck c.args.bytes.now c.loop-rest.numbers.items c.loop-rest.rest.now c.loop-rest.invariant (nonempty c.loop-rest.rest.now c.loop-rest-test.ensures) c.in_default.ensures.only p s e)

pub loop-rest-smaller : goal.loop-rest-smaller
loop-rest-smaller c = shorter c.loop-rest.rest.now c.in-Some.behind.now c.in-Some.number c.in-Some.ensures.found

pub loop-rest-preserved : goal.loop-rest-preserved
loop-rest-preserved c = rw c.in_ok-push.ensures.items (read_on c.args.bytes.now c.loop-rest.numbers.items c.loop-rest.rest.now c.in-Some.behind.now c.in-Some.number c.loop-rest.invariant c.in-Some.ensures.found c.in-Some.ensures.small c.in-Some.ensures.only)

pub of-requires : goal.of-requires
of-requires c = c.loop-rest.invariant.small

pub returns-clause-found : goal.returns-clause-found
returns-clause-found c =
    rw c.in_ok-of.ensures (whole c.args.bytes.now c.loop-rest.numbers.items c.loop-rest.rest.now c.loop-rest.invariant (empty c.loop-rest.rest.now c.loop-rest-test.ensures))

pub returns-clause-only : goal.returns-clause-only
returns-clause-only c = λ p s e. ap Some (c.in_ok-of.ensures ∙ ended c.args.bytes.now c.loop-rest.numbers.items c.loop-rest.rest.now c.loop-rest.invariant (empty c.loop-rest.rest.now c.loop-rest-test.ensures) p s e)
