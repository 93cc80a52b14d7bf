-- `equal` says whether two values are one.
use Rattle.std.specs.Prelude.{◌≡◌, ℕ, List, [], ◌∷◌, Bool, true, false, ◌&&◌, nat_eq, refl}
use Rattle.std.proofs.Common.{sym, ap, subst, eq-eqb}
use Rattle.std.specs.Bool.{Decides}
use Rattle.std.specs.Cmp.{IsPartialEquivalence, IsEquivalence, equiv, decided, partial_equiv_from_equiv}
use Rattle.std.specs.Cmp.Lexicographic.{same_text, pointwise, pointwise_decides}
use Rattle.asl_json_data.specs.Data.{Data, null, boolean, number, text, list, dict, Chain, no_items, item, Pairs, no_members, member}
use Rattle.asl_json.specs.Same.{bool_eq, bytes_eq, equal, equal_items, equal_members, json_equal, items_equal}
use Rattle.asl_json.specs.View.{data_of}
use Rattle.asl_json.specs.declared.value.Json.{Json}

and_split : (a b : Bool) → (a && b) ≡ true → (a ≡ true) × (b ≡ true)
and_split true b e = (refl, e)
and_split false b e = absurd cc

bool_true : (a b : Bool) → bool_eq a b ≡ true → a ≡ b
bool_true true true e = refl
bool_true false false e = refl
bool_true true false e = absurd cc
bool_true false true e = absurd cc

bool_refl : (a : Bool) → bool_eq a a ≡ true
bool_refl true = refl
bool_refl false = refl

nat_refl : (n : ℕ) → nat_eq n n ≡ true
nat_refl n = eq-eqb n n refl

pub bytes_refl : (a : List ℕ) → bytes_eq a a ≡ true
bytes_refl [] = refl
bytes_refl (x ∷ xs) = rw (nat_refl x) (bytes_refl xs)

mutual
  pub equal_true : (x y : Data) → equal x y ≡ true → x ≡ y
  equal_true null null e = refl
  equal_true (boolean a) (boolean b) e = ap boolean (bool_true a b e)
  equal_true (number a) (number b) e = ap number (same_text a b (sym e))
  equal_true (text a) (text b) e = ap text (same_text a b (sym e))
  equal_true (list a) (list b) e = ap list (items_true a b e)
  equal_true (dict a) (dict b) e = ap dict (members_true a b e)
  equal_true x y e = absurd cc

  items_true : (x y : Chain) → equal_items x y ≡ true → x ≡ y
  items_true no_items no_items e = refl
  items_true (item d ds) (item f fs) e =
      let s = and_split _ _ e in λ i. item (equal_true d f s.0 i) (items_true ds fs s.1 i)
  items_true no_items (item f fs) e = absurd cc
  items_true (item d ds) no_items e = absurd cc

  members_true : (x y : Pairs) → equal_members x y ≡ true → x ≡ y
  members_true no_members no_members e = refl
  members_true (member k d ms) (member l f ns) e =
      let s = and_split _ _ e in let t = and_split _ _ s.1
      in λ i. member (same_text k l (sym s.0) i) (equal_true d f t.0 i)
      (members_true ms ns t.1 i)
  members_true no_members (member l f ns) e = absurd cc
  members_true (member k d ms) no_members e = absurd cc

mutual
  pub equal_refl : (x : Data) → equal x x ≡ true
  equal_refl null = refl
  equal_refl (boolean b) = bool_refl b
  equal_refl (number s) = bytes_refl s
  equal_refl (text s) = bytes_refl s
  equal_refl (list ds) = items_refl ds
  equal_refl (dict ms) = members_refl ms

  items_refl : (x : Chain) → equal_items x x ≡ true
  items_refl no_items = refl
  items_refl (item d ds) = rw (equal_refl d) (items_refl ds)

  members_refl : (x : Pairs) → equal_members x x ≡ true
  members_refl no_members = refl
  members_refl (member k d ms) = rw (bytes_refl k, equal_refl d) (members_refl ms)

both : (a b : Bool) → (a ≡ true → b ≡ true) → (b ≡ true → a ≡ true) → a ≡ b
both true b f g = sym (f refl)
both false true f g = g refl
both false false f g = refl

turned : (x y : Data) → equal x y ≡ true → equal y x ≡ true
turned x y e = subst (λ (z : Data). equal z x ≡ true) (equal_true x y e) (equal_refl x)

pub json_laws : IsPartialEquivalence json_equal
json_laws = record {
  symm =
      λ x y. both (json_equal x y) (json_equal y x) (turned (data_of x) (data_of y))
      (turned (data_of y) (data_of x));
  trans =
      λ x y z e f. subst (λ (v : Data). equal (data_of x) v ≡ true)
      (equal_true (data_of y) (data_of z) f) e;
}

pub json_equivalence : IsEquivalence json_equal
json_equivalence = equiv json_laws (λ x. equal_refl (data_of x))

-- ---- the items of lists

data_decides : (x y : Data) → Decides (equal x y) (x ≡ y)
data_decides x y = (equal_true x y, λ e. subst (λ (z : Data). equal x z ≡ true) e (equal_refl x))

pub items_equivalence : IsEquivalence items_equal
items_equivalence = decided items_equal (pointwise_decides data_decides)

pub items_laws : IsPartialEquivalence items_equal
items_laws = partial_equiv_from_equiv items_equivalence
