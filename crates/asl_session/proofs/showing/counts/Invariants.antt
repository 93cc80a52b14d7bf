use Rattle.std.proofs.Common.{◌≡◌, map, take}
use Rattle.std.specs.Prelude.{pos}
use Rattle.std.specs.Fmt.{signed_decimal}
use Rattle.asl_json_data.specs.Data.{number}
use Rattle.asl_json.specs.View.{items_of}
use Rattle.asl_session.proofs.showing.counts.Given as goal

abbrev pub invariant-loop-count : goal.invariant-loop-count
invariant-loop-count l = items_of l.counts.items ≡ map (λ n. number (signed_decimal (pos n))) (take l.count-index l.uses)
