use Rattle.asl_explore.specs.Calls.{ComesWith}
use Rattle.asl_explore.proofs.Bounding.{nothing-met}
use Rattle.asl_explore.proofs.calls.Calls.none.Goals as goal

pub returns : goal.returns
returns c o s outcome = nothing-met (ComesWith o s outcome) c.args.states c.in_ok-bounds.bounds.items (c.in_ok-bounds.ensures.items_if_clones_equal (λ y e. e))
