use Rattle.std.proofs.Common.{◌∙◌, sym}
use Rattle.asl_explore.proofs.Reaching.{lead-end, lead-world}
use Rattle.asl_explore.proofs.endless.Reaching.take_lead.Goals as goal

pub returns-then-is_known-clause-ends : goal.returns-then-is_known-clause-ends
returns-then-is_known-clause-ends c t o s ws h leads =
    lead-world o s ws c.args.number c.in-World.next c.args.lead c.in-World.is leads (h.known_so c.in-World.next (sym c.is_known.ensures ∙ c.if-is_known.true))

pub returns-in_err-link-in-World-clause-kept : goal.returns-in_err-link-in-World-clause-kept
returns-in_err-link-in-World-clause-kept c o s ws h leads =
    c.link.ensures o s ws h (lead-world o s ws c.args.number c.in-World.next c.args.lead c.in-World.is leads)

pub returns-in-End-clause-ends : goal.returns-in-End-clause-ends
returns-in-End-clause-ends c t o s ws h leads = lead-end o s ws c.args.number c.args.lead c.in-End.is leads

pub returns-in_ok-link-in-World-clause-kept : goal.returns-in_ok-link-in-World-clause-kept
returns-in_ok-link-in-World-clause-kept c o s ws h leads =
    c.link.ensures o s ws h (lead-world o s ws c.args.number c.in-World.next c.args.lead c.in-World.is leads)
