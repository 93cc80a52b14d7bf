-- Members, as they are lent.
use Rattle.std.proofs.Common.{◌≡◌, ◌<◌, ◌≤◌, length, false, List, [], ◌∷◌, refl, arith}
use denote.Ref.{Bor}
use Rattle.asl_json_data.specs.Data.{pairs}
use Rattle.asl_json.specs.Same.{equal_members}
use Rattle.asl_json.specs.declared.value.Member.{Member}
use Rattle.asl_lint_choices.specs.View.{lent}

pub none_and_some : (a b : List (Bor Member)) → length a < 1 → 1 ≤ length b → false ≡ equal_members (pairs (lent a)) (pairs (lent b))
none_and_some [] (y ∷ ys) h k = refl
none_and_some [] [] h k = absurd (omega (arith, k))
none_and_some (x ∷ xs) b h k = absurd (omega (arith, h))
