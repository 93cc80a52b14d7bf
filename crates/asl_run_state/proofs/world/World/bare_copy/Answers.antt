use Rattle.std.proofs.Common.{ℕ, ◌≡◌, ◌≤◌, ◌∙◌, List, [], sym, ap, subst, get_or}
use Rattle.asl_run_branches.specs.Trees.{branches_of}
use Rattle.asl_run_state.specs.World.{World}
use Rattle.asl_run_state.specs.Bare.{bare}
use Rattle.asl_run_state.proofs.Bareness.{branches-bare, sound-bare}
use Rattle.asl_run_state.proofs.world.World.bare_copy.Goals as goal

pub invariant_of-result : goal.invariant_of-result
invariant_of-result c =
    sound-bare c.self.inside.root c.in_ok-root.root c.self.inside.counts.items c.in_ok-counts.counts.items c.self.inside.history.events c.new.result.events c.self.inside.outcome c.in_ok-outcome.outcome c.self.invariant
    c.in_ok-root.ensures (c.in_ok-counts.ensures.items ∙ c.deref-2.ensures.value) c.new.ensures c.in_ok-outcome.ensures
    (λ n. subst (λ (xs : List ℕ). get_or xs n 0 ≤ 1000000000) c.deref.ensures.value (c.are_few.ensures c.if-not-are_few.false n))

pub returns : goal.returns
returns c =
    let branches : branches_of c.in_ok-root.root ≡ branches_of c.self.inside.root = ap branches_of c.in_ok-root.ensures ∙ branches-bare c.self.inside.root in
    let counts : c.in_ok-counts.counts.items ≡ c.self.inside.counts.items = c.in_ok-counts.ensures.items ∙ c.deref-2.ensures.value in
    (λ i. record { branches = branches i; counts = counts i; events = c.new.ensures i; last = c.self.inside.last; deadline = c.self.inside.deadline; outcome = c.in_ok-outcome.ensures i }) ∙ ap bare c.self.view_is
