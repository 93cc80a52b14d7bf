use Rattle.asl_path.proofs.Opening.{objects_next}
use Rattle.asl_path.proofs.put.objects.Goals as goal

pub loop-step-preserved : goal.loop-step-preserved
loop-step-preserved c =
    objects_next c.args.steps.now c.loop-step.opened.items c.push.new.self.items c.loop-step.rest.now c.in-Some.step.now c.in-Some.behind.now c.in-Name.name c.in_ok-object.field-0
    c.loop-step.invariant c.in-Some.ensures.cases.0 c.in-Name.is c.in_ok-object.ensures c.in_ok-push.ensures.items
