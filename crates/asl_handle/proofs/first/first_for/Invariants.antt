use Rattle.std.proofs.Common.{◌≡◌, drop}
use Rattle.std.specs.Prelude.{map}
use Rattle.asl_json_data.specs.Data.{chain}
use Rattle.asl_handle.specs.Decisions.{first_for as spec_first_for}
use Rattle.asl_handle.proofs.first.first_for.Given as goal

abbrev pub invariant-loop-number : goal.invariant-loop-number
invariant-loop-number g l = spec_first_for l.error 0 (chain (map g.T.Compiled.shown l.handlers)) ≡ spec_first_for l.error l.number (chain (map g.T.Compiled.shown (drop l.number l.handlers)))
