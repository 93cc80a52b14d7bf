use Rattle.std.proofs.Common.{◌≡◌, drop}
use Rattle.std.specs.Prelude.{map}
use Rattle.asl_json_data.specs.Data.{pairs}
use Rattle.asl_json.specs.View.{members_of}
use Rattle.asl_def_schema.specs.Claims.{has_any}
use Rattle.asl_def_judge.proofs.walk.has_any.Given as goal

abbrev pub invariant-loop-name : goal.invariant-loop-name
invariant-loop-name l = has_any (map (λ n. n.now) (drop l.name-index l.names)) (pairs (members_of l.members)) ≡ has_any (map (λ n. n.now) l.names) (pairs (members_of l.members))
