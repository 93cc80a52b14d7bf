-- Equality says whether two values are one, and is an equivalence.
use Rattle.std.specs.Prelude.{◌≡◌, Bool, true, false, ◌&&◌, Some, None, refl}
use Rattle.std.proofs.Common.{ap, subst}
use Rattle.std.specs.Option.{option_eq}
use Rattle.std.specs.Cmp.{IsPartialEquivalence, IsEquivalence, decided, partial_equiv_from_equiv}
use Rattle.std.specs.Cmp.Lexicographic.{pointwise_decides, bytes_decides}
use Rattle.asl_json_data.specs.Data.{Data}
use Rattle.asl_json.specs.Same.{bytes_eq, equal, items_equal, json_equal}
use Rattle.asl_json.specs.View.{data_of, same_json}
use Rattle.asl_json.specs.private.SameLaws.{equal_true, equal_refl}
use Rattle.asl_def_fields.specs.Equal.{IsExact, names_equal}

pub split : (a b : Bool) → (a && b) ≡ true → (a ≡ true) × (b ≡ true)
split true b e = (refl, e)
split false b e = absurd cc

-- an equivalence is exact where what it takes for equal is one
pub exact : {A : Type 0} (E : A → A → Bool) → IsEquivalence E → ((a b : A) → E a b ≡ true → a ≡ b) → IsExact E
exact {A} E laws one a b = (one a b, λ e. subst (λ (x : A). E a x ≡ true) e (laws.refl a))

some_one : {A : Type 0} (E : A → A → Bool) (x y : A) → E x x ≡ true → Some x ≡ Some y → E x y ≡ true
some_one {A} E x y h e = subst (λ (z : A). E x z ≡ true) (let is : x ≡ y = cc in is) h

pub options_exact : {A : Type 0} (E : A → A → Bool) → IsExact E → IsExact (option_eq E)
options_exact E h None None = (λ e. refl, λ e. refl)
options_exact E h None (Some y) = (λ e. absurd cc, λ e. absurd cc)
options_exact E h (Some x) None = (λ e. absurd cc, λ e. absurd cc)
options_exact E h (Some x) (Some y) = (λ e. ap Some ((h x y).0 e), some_one E x y ((h x x).1 refl))

pub texts_exact : IsExact bytes_eq
texts_exact = bytes_decides

pub data_exact : IsExact equal
data_exact x y = (equal_true x y, λ e. subst (λ (z : Data). equal x z ≡ true) e (equal_refl x))

pub items_exact : IsExact items_equal
items_exact = pointwise_decides data_exact

pub jsons_exact : IsExact json_equal
jsons_exact v w = (λ e. same_json v w (equal_true (data_of v) (data_of w) e), λ e. (data_exact (data_of v) (data_of w)).1 (ap data_of e))

-- ---- names of errors

pub names_exact : IsExact names_equal
names_exact = pointwise_decides bytes_decides

pub names_equivalence : IsEquivalence names_equal
names_equivalence = decided names_equal names_exact

pub names_laws : IsPartialEquivalence names_equal
names_laws = partial_equiv_from_equiv names_equivalence
