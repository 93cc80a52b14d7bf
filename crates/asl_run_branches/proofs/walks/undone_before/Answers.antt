use Rattle.std.proofs.Common.{arith, ◌∙◌, ap, take, drop, ◌-◌, ◌+◌}
use Rattle.asl_run_branches.proofs.Counts.{undone-few}
use Rattle.asl_run_branches.proofs.Keeping.{undone-most, undone-least, more-before}
use Rattle.std.proofs.lemmas.List.{length-take}
use Rattle.asl_run_branches.proofs.walks.undone_before.Goals as goal

pub returns-then-end-resting : goal.returns-then-end-resting
returns-then-end-resting c = c.undone_of.ensures ∙ undone-least c.args.children.now c.min-end.result c.args.number c.min-end.ensures

pub overflow_add-result : goal.overflow_add-result
overflow_add-result c =
    let few = undone-most c.args.resting c.args.children.now c.requires in
    let rest = undone-few (take (c.min-end.result - c.args.resting.idle) (drop c.args.resting.idle c.args.children.now)) in
    let long = length-take (c.min-end.result - c.args.resting.idle) (drop c.args.resting.idle c.args.children.now) in
    omega (arith, few, rest, long, c.undone_of-2.ensures)

pub returns : goal.returns
returns c = ap (λ n. c.args.resting.undone + n) c.undone_of-2.ensures ∙ more-before c.args.resting c.args.children.now c.min-end.result c.args.number c.requires c.min-end.ensures c.if-end-resting.false
