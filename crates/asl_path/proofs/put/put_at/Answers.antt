use Rattle.std.proofs.Common.{refl, sym, subst, List}
use Rattle.asl_json.specs.View.{data_of}
use Rattle.asl_path.specs.declared.put.Opened.{Opened}
use Rattle.asl_path.specs.private.Opened.{Along}
use Rattle.asl_path.proofs.Opening.{down, put_back, lacking_is, nothing_is, end_is}
use Rattle.asl_path.proofs.put.put_at.Goals as goal

pub returns-in-Err : goal.returns-in-Err
returns-in-Err c =
    let h = c.loop-step.here in
    c.finish.ensures c.args.base h c.args.part c.args.steps.now c.loop-step.rest.now
    (subst (λ (z : List Opened). Along (data_of c.args.base) c.args.steps.now z (data_of h) c.loop-step.rest.now) (sym c.in-Err.ensures.items) c.loop-step.invariant)
    (put_back h c.close.result c.in-Part.inner c.in-Some.step.now c.in-Part.outer c.in-Err.refused.value c.in-Part.ensures c.in-Err.ensures.value_returned c.close.ensures, refl)

pub loop-step-preserved : goal.loop-step-preserved
loop-step-preserved c =
    down (data_of c.args.base) c.args.steps.now c.loop-step.opened.items c.push.new.self.items (data_of c.loop-step.here) c.loop-step.rest.now c.in-Some.step.now c.in-Some.behind.now c.in-Part.outer (data_of c.in-Part.inner)
    c.loop-step.invariant c.in-Some.ensures.cases.0 c.in-Part.ensures c.in_default-push.ensures.items

pub returns-in-Lacking : goal.returns-in-Lacking
returns-in-Lacking c =
    c.finish-in-Lacking.ensures c.args.base c.loop-step.here c.args.part c.args.steps.now c.loop-step.rest.now c.loop-step.invariant
    (lacking_is c.loop-step.here c.in-Lacking.members c.args.part c.loop-step.rest.now c.in-Some.step.now c.in-Some.behind.now c.add.result c.in-Lacking.ensures.0 c.in-Some.ensures.cases.0 c.add.ensures)

pub returns-in-Nothing : goal.returns-in-Nothing
returns-in-Nothing c =
    c.finish-in-Nothing.ensures c.args.base c.loop-step.here c.args.part c.args.steps.now c.loop-step.rest.now c.loop-step.invariant
    (nothing_is c.loop-step.here c.in-Nothing.value c.args.part c.loop-step.rest.now c.in-Some.step.now c.in-Some.behind.now c.in-Nothing.ensures.0 c.in-Nothing.ensures.1 c.in-Some.ensures.cases.0)

pub returns : goal.returns
returns c =
    c.finish-2.ensures c.args.base c.loop-step.here c.args.part c.args.steps.now c.loop-step.rest.now c.loop-step.invariant
    (end_is c.loop-step.here c.args.part c.loop-step.rest.now c.in_default.ensures.cases)
