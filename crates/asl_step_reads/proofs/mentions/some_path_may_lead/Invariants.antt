use Rattle.std.proofs.Common.{◌≡◌, length}
use Rattle.std.specs.Prelude.{map}
use Rattle.asl_step_reads.specs.Mentions.{some_path_may_lead}
use Rattle.asl_step_reads.proofs.mentions.some_path_may_lead.Given as goal

abbrev pub invariant-loop-first : goal.invariant-loop-first
invariant-loop-first l = some_path_may_lead (map (λ k. k.now) l.keys) l.bytes ≡ some_path_may_lead (map (λ k. k.now) l.keys) l.rest

abbrev pub decreases-loop-first : goal.decreases-loop-first
decreases-loop-first l = length l.rest
