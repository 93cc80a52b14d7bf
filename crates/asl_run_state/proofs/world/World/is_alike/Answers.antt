use Rattle.std.proofs.Common.{◌≡◌, ◌∙◌, List, [], sym, ap, arith}
use Rattle.asl_run_branches.specs.Trees.{branches_of}
use Rattle.asl_run_branches.proofs.Sameness.{unless}
use Rattle.asl_run_state.specs.World.{World}
use Rattle.asl_run_state.specs.Bare.{bare}
use Rattle.asl_run_state.proofs.Bareness.{outcome_eq, outcome-one}
use Rattle.asl_run_state.proofs.world.World.is_alike.Goals as goal

pub returns : goal.returns
returns c e =
    let last : c.self.inside.last ≡ c.other.inside.last = omega (arith, c.millis.ensures.value, c.millis-2.ensures.value, c.if-millis.false) in
    let branches : branches_of c.self.inside.root ≡ branches_of c.other.inside.root = c.is_alike.ensures e in
    let counts : c.self.inside.counts.items ≡ c.other.inside.counts.items = sym c.deref.ensures.value ∙ c.are_same_counts.ensures c.if-not-are_same_counts.false ∙ c.deref-2.ensures.value in
    let deadline : c.self.inside.deadline ≡ c.other.inside.deadline = c.are_same_moments.ensures c.if-not-are_same_moments.false in
    let outcome : c.self.inside.outcome ≡ c.other.inside.outcome = outcome-one c.self.inside.outcome c.other.inside.outcome (unless (outcome_eq c.self.inside.outcome c.other.inside.outcome) (sym c.if-ne.false ∙ c.ne.ensures)) in
    sym (ap bare c.self.view_is) ∙ (λ i. record { branches = branches i; counts = counts i; events = []; last = last i; deadline = deadline i; outcome = outcome i }) ∙ ap bare c.other.view_is
