use Rattle.std.proofs.Common.{arith}
use Rattle.std.proofs.lemmas.List.{length-map}
use Rattle.asl_run_state.specs.Bare.{bare}
use Rattle.asl_explore.specs.declared.met.Node.{Node}
use Rattle.asl_explore.proofs.Resting.{none-more}
use Rattle.asl_explore.proofs.late.any_waits.Goals as goal

pub loop-index-init : goal.loop-index-init
loop-index-init c i l d z = absurd (omega (arith, l))

pub loop-index-preserved : goal.loop-index-preserved
loop-index-preserved c = none-more c.args.nodes.now c.loop-index.index c.index-nodes-index.result c.loop-index-test.true c.index-nodes-index.is (c.in_ok-waits.ensures c.if-branch.false) c.loop-index.invariant

pub returns : goal.returns
returns c t i l d z = c.loop-index.invariant i (omega (arith, l, c.loop-index-test.false, length-map c.args.nodes.now (λ (n : Node). bare n.world))) d z
