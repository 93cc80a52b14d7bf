-- `==` on templates is equality of the values that they were read from.
use Rattle.std.specs.Prelude.{◌≡◌, Bool, true, false, refl}
use Rattle.std.proofs.Common.{sym, subst}
use Rattle.std.specs.Cmp.{IsPartialEquivalence, IsEquivalence, equiv}
use Rattle.asl_json_data.specs.Data.{Data}
use Rattle.asl_json.specs.Same.{equal}
use Rattle.asl_json.specs.private.SameLaws.{equal_true, equal_refl}

both : (a b : Bool) → (a ≡ true → b ≡ true) → (b ≡ true → a ≡ true) → a ≡ b
both true b f g = sym (f refl)
both false true f g = g refl
both false false f g = refl

turned : (x y : Data) → equal x y ≡ true → equal y x ≡ true
turned x y e = subst (λ (z : Data). equal z x ≡ true) (equal_true x y e) (equal_refl x)

pub equal_laws : IsPartialEquivalence equal
equal_laws = record {
  symm = λ x y. both (equal x y) (equal y x) (turned x y) (turned y x);
  trans = λ x y z e f. subst (λ (v : Data). equal x v ≡ true) (equal_true y z f) e;
}

pub equal_equivalence : IsEquivalence equal
equal_equivalence = equiv equal_laws equal_refl
