use Rattle.std.proofs.Common.{◌∙◌}
use Rattle.asl_exec.specs.Probes.{setup_of}
use Rattle.asl_explore.specs.Searches.{worlds_of}
use Rattle.asl_explore.proofs.Reaching.{lead-at}
use Rattle.asl_explore.proofs.endless.look.Goals as goal

pub returns-in_err-take_lead-clause-kept : goal.returns-in_err-take_lead-clause-kept
returns-in_err-take_lead-clause-kept c h =
    c.take_lead.ensures.kept c.args.orders (setup_of c.args.probe.now) (worlds_of c.args.met.now.nodes.items) (c.loop-turn.invariant.kept h)
    (lead-at c.args.orders (setup_of c.args.probe.now) (setup_of c.loop-turn.probe) c.args.met.now.nodes.items c.args.number c.index.result.now c.in_ok-bound.bound c.in_ok-lead.lead c.loop-turn.invariant.setup c.requires c.index.ensures
    (c.in_ok-bound.ensures.least (c.deref.ensures.value ∙ (rw c.in-Some.is at c.in_ok-turns.ensures.turns))) c.in_ok-lead.ensures.leads)

pub returns-then-branch-clause-kept : goal.returns-then-branch-clause-kept
returns-then-branch-clause-kept c h =
    c.take_lead.ensures.kept c.args.orders (setup_of c.args.probe.now) (worlds_of c.args.met.now.nodes.items) (c.loop-turn.invariant.kept h)
    (lead-at c.args.orders (setup_of c.args.probe.now) (setup_of c.loop-turn.probe) c.args.met.now.nodes.items c.args.number c.index.result.now c.in_ok-bound.bound c.in_ok-lead.lead c.loop-turn.invariant.setup c.requires c.index.ensures
    (c.in_ok-bound.ensures.least (c.deref.ensures.value ∙ (rw c.in-Some.is at c.in_ok-turns.ensures.turns))) c.in_ok-lead.ensures.leads)

pub returns-then-branch-clause-ends : goal.returns-then-branch-clause-ends
returns-then-branch-clause-ends c t h =
    let leads = lead-at c.args.orders (setup_of c.args.probe.now) (setup_of c.loop-turn.probe) c.args.met.now.nodes.items c.args.number c.index.result.now c.in_ok-bound.bound c.in_ok-lead.lead c.loop-turn.invariant.setup c.requires c.index.ensures
    (c.in_ok-bound.ensures.least (c.deref.ensures.value ∙ (rw c.in-Some.is at c.in_ok-turns.ensures.turns))) c.in_ok-lead.ensures.leads in
    c.in_ok-take_lead.ensures.ends c.if-branch.true c.args.orders (setup_of c.args.probe.now) (worlds_of c.args.met.now.nodes.items)
    (c.take_lead.ensures.kept c.args.orders (setup_of c.args.probe.now) (worlds_of c.args.met.now.nodes.items) (c.loop-turn.invariant.kept h) leads) leads

pub loop-turn-preserved : goal.loop-turn-preserved
loop-turn-preserved c = record {
  setup = c.lead_of.ensures.setup ∙ c.loop-turn.invariant.setup;
  kept = λ h.
      c.take_lead.ensures.kept c.args.orders (setup_of c.args.probe.now) (worlds_of c.args.met.now.nodes.items) (c.loop-turn.invariant.kept h)
      (lead-at c.args.orders (setup_of c.args.probe.now) (setup_of c.loop-turn.probe) c.args.met.now.nodes.items c.args.number c.index.result.now c.in_ok-bound.bound c.in_ok-lead.lead c.loop-turn.invariant.setup c.requires c.index.ensures
      (c.in_ok-bound.ensures.least (c.deref.ensures.value ∙ (rw c.in-Some.is at c.in_ok-turns.ensures.turns))) c.in_ok-lead.ensures.leads);
}
