-- How long the escapes of a text are, part by part.
use Rattle.std.proofs.Common.{◌≡◌, ℕ, ◌+◌, ◌≤◌, Bool, true, false, cond, nat_lt, ◌==◌, ◌||◌, Option, Some, None, List, [], ◌∷◌, ◌++◌, length, ap, ◌∙◌, arith}
use Rattle.std.proofs.lemmas.List.{length-append}
use Rattle.asl_json_data.specs.Text.{ArePlain, quote, backslash}
use Rattle.asl_json_data.specs.Compact.{control_letter, escaped_control, escaped_byte, escaped}
use Rattle.asl_json_write.proofs.Quoting.{escaped_plains}

pub behind_plains : (t u v : List ℕ) → t ≡ u ++ v → ArePlain u → length (escaped t) ≡ length u + length (escaped v)
behind_plains t u v parts plain = ap (λ (x : List ℕ). length (escaped x)) parts ∙ ap length (escaped_plains u v plain) ∙ length-append u (escaped v)

pub behind_byte : (t next : List ℕ) (c : ℕ) → t ≡ c ∷ next → length (escaped t) ≡ length (escaped_byte c) + length (escaped next)
behind_byte t next c parts = ap (λ (x : List ℕ). length (escaped x)) parts ∙ length-append (escaped_byte c) (escaped next)

control_some : (c : ℕ) (o : Option ℕ) → 1 ≤ length (escaped_control c o)
control_some c (Some l) = omega arith
control_some c None = omega arith

some_byte : (c : ℕ) → 1 ≤ length (escaped_byte c)
unfolding escaped_byte
some_byte c = told ((c == quote) || (c == backslash)) (nat_lt c 32)
  where
    told : (x y : Bool) → 1 ≤ length (cond x (backslash ∷ c ∷ []) (cond y (escaped_control c (control_letter c)) (c ∷ [])))
    told true y = omega arith
    told false true = control_some c (control_letter c)
    told false false = omega arith

-- no escape is shorter than its byte
pub no_shorter : (t : List ℕ) → length t ≤ length (escaped t)
no_shorter [] = omega arith
no_shorter (c ∷ cs) = omega (arith, some_byte c, no_shorter cs, length-append (escaped_byte c) (escaped cs))
