use Rattle.std.proofs.Common.{ℕ, List, None, ◌≡◌, ◌∙◌, subst, sym}
use Rattle.std.specs.HashMap.{get_by_text}
use Rattle.asl_explore.proofs.Known.{not-known}
use Rattle.asl_explore.proofs.outcomes.Outcomes.has.Goals as goal

pub returns-clause-new : goal.returns-clause-new
returns-clause-new c e =
    let found = c.args.self.now in
    not-known found.numbers found.list.items c.args.outcome.now found.known
    (subst (λ (bs : List ℕ). get_by_text found.numbers bs ≡ None) (c.as_str.ensures.value ∙ c.in_ok-text.ensures) (sym c.in-None.ensures.value))
