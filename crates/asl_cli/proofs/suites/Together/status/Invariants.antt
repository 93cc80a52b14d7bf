use Rattle.std.proofs.Common.{◌≡◌, drop}
use Rattle.std.specs.Prelude.{max, fold}
use Rattle.asl_cli.proofs.suites.Together.status.Given as goal

abbrev pub invariant-loop-one : goal.invariant-loop-one
invariant-loop-one l = fold max l.status (drop l.one-index l.self.statuses.items) ≡ fold max 0 l.self.statuses.items
