use Rattle.std.proofs.Common.{◌≡◌, ℕ, List, ◌∙◌, ap, sym, subst, Some}
use Rattle.std.specs.Prelude.{Result, Ok, Err, IfOk}
use Rattle.asl_json.specs.View.{data_of}
use Rattle.asl_json.specs.declared.value.Json.{Json}
use Rattle.asl_path.specs.declared.step.Root.{Root}
use Rattle.asl_path.specs.declared.step.Step.{Step}
use Rattle.asl_path.specs.declared.path.PutFault.{PutFault}
use Rattle.asl_path.specs.Grammar.{SpellsPath}
use Rattle.asl_path.specs.private.Steps.{steps}
use Rattle.asl_path.specs.private.Opened.{IsPut}
use Rattle.asl_path.specs.Paths.{put_by}
use Rattle.asl_path.specs.Walk.{put}
use Rattle.asl_path.proofs.Spelling.{meaning}
use Rattle.asl_path.proofs.path.RefPath.put.Goals as goal

by_steps : (t : List ℕ) (root : Root) (own : List Step) (v part : Json) (o : Result Json PutFault) → steps t ≡ Ok (root, own) → IsPut v own part o
    → IfOk o (λ w. (r : Root) (ss : List Step) → SpellsPath r ss t → put (data_of v) ss (data_of part) ≡ Some (data_of w))
by_steps t root own v part (Ok w) is h = λ r ss g. sym ((meaning r ss t g).with (data_of v) (data_of part)) ∙ ap (put_by (data_of v) (data_of part)) is ∙ h
by_steps t root own v part (Err e) is h = tt

pub returns-clause-steps : goal.returns-clause-steps
returns-clause-steps c =
    let own = c.self.inside.steps.items in
    let is = subst (λ t. steps t ≡ Ok (c.self.inside.root, own)) c.self.view_is c.self.invariant in
    by_steps c.args.self.now c.self.inside.root own c.args.base c.args.part c.put_at.result is (subst (λ ss. IsPut c.args.base ss c.args.part c.put_at.result) c.deref.ensures.value c.put_at.ensures)
