use Rattle.std.proofs.Common.{◌≡◌, ◌++◌, ◌∙◌, List, ap, subst}
use Rattle.std.specs.Prelude.{OnOk}
use Rattle.asl_run_branches.specs.declared.earliest.Earliest.{Earliest}
use Rattle.asl_run_state.specs.World.{World}
use Rattle.asl_run_state.specs.Bare.{earliest}
use Rattle.asl_run_state.proofs.Bareness.{earliest-placed}
use Rattle.asl_run_state.proofs.world.World.put_earliest.Goals as goal

pub returns : goal.returns
returns c = subst (λ (xs : List Earliest). OnOk c.put_earliest.result (c.put_earliest.new.out.items ≡ c.args.out.now.items ++ xs))
    (earliest-placed c.self.inside.last c.self.inside.root c.self.invariant.placed ∙ ap (λ (w : World). earliest w.last w.branches) c.self.view_is)
    c.put_earliest.ensures
