use Rattle.std.proofs.Common.{leb, leb-true, arith, rules}
use Rattle.std.proofs.lemmas.Bool.{leb-false}
use Rattle.std.proofs.lemmas.List.Sorted.{IsPartitionPoint-from_clause, IsPartitionedBy-leb}
use Rattle.asl_mock.proofs.Spots.{lows_rise}
use Rattle.asl_mock.proofs.ranges.begun.Goals as goal

pub returns-clause-below : goal.returns-clause-below
returns-clause-below c =
    let parted = IsPartitionedBy-leb (λ r. r.span.low) _ c.args.number (lows_rise c.args.answers.now c.requires) in
    let point = IsPartitionPoint-from_clause (λ r. leb r.span.low c.args.number) _ _ c.partition_point.ensures.partitioned parted (λ a r q k. search rules) in
    λ k d h. leb-true _ _ (point.0 k d (omega arith) h)

pub returns-clause-above : goal.returns-clause-above
returns-clause-above c =
    let parted = IsPartitionedBy-leb (λ r. r.span.low) _ c.args.number (lows_rise c.args.answers.now c.requires) in
    let point = IsPartitionPoint-from_clause (λ r. leb r.span.low c.args.number) _ _ c.partition_point.ensures.partitioned parted (λ a r q k. search rules) in
    λ k d l h. leb-false _ _ (point.1 k d l h)
