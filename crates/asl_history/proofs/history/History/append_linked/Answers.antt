use Rattle.std.proofs.Common.{rules, sym, ap, ◌∙◌}
use Rattle.asl_history.specs.Events.{previous_id}
use Rattle.asl_history.specs.Logs.{Log}
use Rattle.asl_history.proofs.Links.{IsHistory-more}
use Rattle.asl_history.proofs.history.History.append_linked.Goals as goal

pub invariant_of-self : goal.invariant_of-self
invariant_of-self c =
    rw c.push_reserved.ensures.items (IsHistory-more c.self.inside.events.items _ c.self.invariant (record { number = search rules; link = c.requires.link ∙ ap (λ (z : Log). previous_id c.args.place z.events) (sym c.self.view_is) }))
