use Rattle.asl_branch_numbers.proofs.digest.Digest.+value.Given as goal

abbrev pub decreases-value : goal.decreases-value
decreases-value l = l.levels
