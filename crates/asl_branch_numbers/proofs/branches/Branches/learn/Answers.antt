use Rattle.std.proofs.Common.{ap, subst, sym}
use Rattle.asl_branch_numbers.specs.declared.branches.Branches.{Branches}
use Rattle.asl_branch_numbers.specs.Numbers.{branches_in, IsMore}
use Rattle.asl_branch_numbers.proofs.AsNumbers.{more-then}
use Rattle.asl_branch_numbers.proofs.branches.Branches.learn.Goals as goal
use Rattle.asl_branch_numbers.proofs.branches.Branches.learn.Goals.{then-is_prefix_of+in_ok-learn_one, else-is_prefix_of}

pub loop-index-preserved : goal.loop-index-preserved
loop-index-preserved c = elim c.if-is_prefix_of.branch [
  | then-is_prefix_of+in_ok-learn_one w ↦ subst (λ (b : Branches). IsMore (branches_in c.args.self.now) (branches_in b)) (sym w.self-is)
      (more-then (branches_in c.args.self.now) (branches_in c.loop-index.self) (branches_in w.learn_one.new.self) c.loop-index.invariant w.learn_one.ensures)
  | else-is_prefix_of w ↦ subst (λ (b : Branches). IsMore (branches_in c.args.self.now) (branches_in b)) (sym w.self-is) c.loop-index.invariant
]
