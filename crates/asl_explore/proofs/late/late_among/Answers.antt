use Rattle.std.proofs.Common.{true, subst}
use Rattle.asl_exec.specs.Probes.{setup_of}
use Rattle.asl_run_input.specs.declared.setup.Setup.{Setup}
use Rattle.asl_explore.specs.declared.orders.Orders.TheVariants.{Prompt}
use Rattle.asl_explore.specs.private.Searching.{IsSearch}
use Rattle.asl_explore.proofs.Lateness.{all-late, all-listed, none-late}
use Rattle.asl_explore.proofs.late.late_among.Goals as goal

pub returns-clause-late : goal.returns-clause-late
returns-clause-late c over =
    let s = setup_of c.args.probe.now in
    let x = c.in-Some.prompt in
    let h : IsSearch Prompt true c.args.limit s x = subst (λ (z : Setup). IsSearch Prompt true c.args.limit z x) c.come_promptly.ensures.setup (rw c.in-Some.is at c.in_ok-prompt.ensures.search) in
    all-late s c.args.found.now x.found.list.items c.in_ok-numbers.numbers.items over (h.whole c.if-not-prompt.false) c.in_ok-numbers.ensures.others

pub returns-clause-all : goal.returns-clause-all
returns-clause-all c t =
    let s = setup_of c.args.probe.now in
    let x = c.in-Some.prompt in
    let h : IsSearch Prompt true c.args.limit s x = subst (λ (z : Setup). IsSearch Prompt true c.args.limit z x) c.come_promptly.ensures.setup (rw c.in-Some.is at c.in_ok-prompt.ensures.search) in
    all-listed s c.args.found.now x.found.list.items c.in_ok-numbers.numbers.items h.shown c.in_ok-numbers.ensures.all

pub returns-then-branch-clause-all : goal.returns-then-branch-clause-all
returns-then-branch-clause-all c t = none-late (setup_of c.args.probe.now) c.args.found.now c.no_lateness.result.numbers.items (c.in_ok-come_promptly.ensures.prompt c.if-branch.true)
