use Rattle.std.proofs.Common.{◌≡◌, drop}
use Rattle.std.specs.Prelude.{map}
use Rattle.asl_step_reads.specs.Mentions.{may_lead}
use Rattle.asl_step_reads.proofs.mentions.may_lead.Given as goal

abbrev pub invariant-loop-key : goal.invariant-loop-key
invariant-loop-key l = may_lead (map (λ k. k.now) (drop l.key-index l.keys)) l.rest ≡ may_lead (map (λ k. k.now) l.keys) l.bytes
