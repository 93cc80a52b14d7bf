use Rattle.std.proofs.Common.{◌≡◌, ◌*◌, ◌^◌, ◌<◌}
use Rattle.asl_json_data.specs.Number.{amount_limit}
use Rattle.asl_json_data.proofs.decimal.scaled.Given as goal

abbrev pub invariant-loop-zero : goal.invariant-loop-zero
invariant-loop-zero l = (l.scaled ≡ l.number * 10 ^ l._zero) × (l.scaled < amount_limit)
