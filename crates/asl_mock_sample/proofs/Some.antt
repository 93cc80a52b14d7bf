-- Objects that have a member.
use Rattle.std.proofs.Common.{◌≡◌, ◌≤◌, List, [], ◌∷◌, length, refl, arith, false}
use Rattle.asl_json_data.specs.Data.{pairs}
use Rattle.asl_json.specs.View.{members_of}
use Rattle.asl_json.specs.declared.value.Member.{Member}
use Rattle.asl_mock_sample.specs.Merging.{has_none}

pub has_some : (ms : List Member) → 1 ≤ length ms → false ≡ has_none (pairs (members_of ms))
has_some [] h = absurd (omega arith)
has_some (m ∷ ms) h = refl
