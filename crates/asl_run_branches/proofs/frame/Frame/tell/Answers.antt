use Rattle.std.proofs.Common.{[], ◌≡◌, ◌∙◌, refl, ap, Some}
use Rattle.asl_step.specs.declared.record.Record.{Record}
use Rattle.asl_step.specs.declared.effect.Children.TheVariants.{Kept}
use Rattle.asl_run_branches.specs.Trees.{Held, Family, branches_of, nodes_of}
use Rattle.asl_run_branches.specs.Changes.{change, nodes_after, litter_of}
use Rattle.asl_run_branches.proofs.Changing.{here-kept}
use Rattle.asl_run_branches.proofs.frame.Frame.tell.Goals as goal

pub returns-clause-branches : goal.returns-clause-branches
returns-clause-branches c = ap branches_of c.self.view_is

pub returns-clause-nodes : goal.returns-clause-nodes
returns-clause-nodes c =
    let h : Held = record { place = c.self.inside.place; current = c.self.inside.held; at = c.self.inside.at; under = c.self.inside.under } in
    let same : c.self.inside.held ≡ c.args.self.now.head.current = ap (λ (f : Family). f.head.current) c.self.view_is in
    here-kept c.args.self.now h c.self.inside.children.items [] (change c.self.inside.held (Some c.args.id) (litter_of [] Kept)) c.self.view_is refl refl refl
    ∙ ap (λ (r : Record). nodes_after [] (change r (Some c.args.id) (litter_of [] Kept)) (nodes_of c.args.self.now)) same
