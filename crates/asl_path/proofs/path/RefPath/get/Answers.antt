use Rattle.std.proofs.Common.{◌≡◌, ◌∙◌, ap, sym, subst, Ok}
use Rattle.asl_json.specs.View.{data_of}
use Rattle.asl_path.specs.private.Steps.{steps}
use Rattle.asl_path.specs.Paths.{at_by}
use Rattle.asl_path.specs.Walk.{at}
use Rattle.asl_path.proofs.Spelling.{meaning}
use Rattle.asl_path.proofs.path.RefPath.get.Goals as goal

pub returns-clause-steps : goal.returns-clause-steps
returns-clause-steps c = λ r ss h.
    let own = subst (λ t. steps t ≡ Ok (c.self.inside.root, c.self.inside.steps.items)) c.self.view_is c.self.invariant in
    c.walk.ensures ∙ ap (at (data_of c.args.value.now)) c.deref.ensures.value ∙ sym (ap (at_by (data_of c.args.value.now)) own) ∙ (meaning r ss c.args.self.now h).part (data_of c.args.value.now)
