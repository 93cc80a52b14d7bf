-- Tables by name.
use Rattle.std.proofs.Common.{◌≡◌, ◌<◌, ◌++◌, ℕ, zero, suc, Bool, true, false, List, [], ◌∷◌, length, get_or, take, refl, sym, ap, ◌∙◌, arith, append_assoc}
use Rattle.std.specs.Prelude.{◌||◌, Option, Some, None, nat_eq, map, String, string_bytes, if◌then◌else◌}
use Rattle.std.specs.Cmp.Lexicographic.{pointwise}
use Rattle.std.specs.Map.{lookup}
use Rattle.std.proofs.lemmas.List.{append-nil, map-append}
use Rattle.asl_json_data.specs.Data.{Data}
use Rattle.asl_json_data.specs.Distinct.{Members, has_key, AreDistinct}
use Rattle.asl_json.specs.View.{member_of, members_of}
use Rattle.asl_json.specs.declared.value.Member.{Member}
use Rattle.asl_mock.specs.Tables.{Named, named, value_for}

module _ {X Z : Type 0} where
  -- a look-up in a table is one in what it holds
  pub looked_up : (k : List ℕ) (es : List (String Z × X)) → lookup (λ (s : String Z). pointwise nat_eq k (string_bytes s)) es ≡ value_for k (named es)
  looked_up k [] = refl
  looked_up k (e ∷ es) = ap (λ (o : Option X). if pointwise nat_eq k (string_bytes e.0) then Some e.1 else o) (looked_up k es)

  pub absent : (k : List ℕ) (s : String Z) (es : List (String Z × X)) → string_bytes s ≡ k → value_for k (named es) ≡ None → lookup (λ (t : String Z). pointwise nat_eq (string_bytes s) (string_bytes t)) es ≡ None
  absent k s es name none = looked_up (string_bytes s) es ∙ ap (λ (z : List ℕ). value_for z (named es)) name ∙ none

  pub added_last : (k : List ℕ) (s : String Z) (v : X) (es more : List (String Z × X)) → more ≡ es ++ (s, v) ∷ [] → string_bytes s ≡ k → named more ≡ named es ++ (k, v) ∷ []
  added_last k s v es more is name =
      ap named is ∙ map-append (λ (e : String Z × X). (string_bytes e.0, e.1)) es ((s, v) ∷ []) ∙ ap (λ (z : List ℕ). named es ++ (z, v) ∷ []) name

-- a key of an object is new behind those before it

fresh : (seen : Members) (ms : List Member) (i : ℕ) (m : Member) → AreDistinct seen (members_of ms) → i < length ms → m ≡ get_or ms i m → has_key m.key (seen ++ members_of (take i ms)) ≡ false
fresh seen [] i m apart lt at = absurd (omega (arith, lt))
fresh seen (x ∷ ms) zero m apart lt at = ap (λ (z : Member). has_key z.key (seen ++ [])) at ∙ ap (has_key x.key) (append-nil seen) ∙ apart.0
fresh seen (x ∷ ms) (suc i) m apart lt at = ap (has_key m.key) (sym (append_assoc seen (member_of x ∷ []) (members_of (take i ms)))) ∙ fresh (seen ++ member_of x ∷ []) ms i m apart.1 (omega (arith, lt)) at

not_known : {Y : Type 0} (f : List ℕ × Data → Y) (k : List ℕ) (ms : Members) → has_key k ms ≡ false → value_for k (map (λ (m : List ℕ × Data). (m.0, f m)) ms) ≡ None
not_known f k [] h = refl
not_known {Y = Y} f k (x ∷ ms) h = which (pointwise nat_eq k x.0) h (not_known f k ms)
  where
    which : (b : Bool) → (b || has_key k ms) ≡ false → (has_key k ms ≡ false → value_for k (map (λ (m : List ℕ × Data). (m.0, f m)) ms) ≡ None) → (if b then Some (f x) else value_for k (map (λ (m : List ℕ × Data). (m.0, f m)) ms)) ≡ None
    which true e rest = absurd (cc e)
    which false e rest = rest e

pub is_new : {Y : Type 0} (f : List ℕ × Data → Y) (ms : List Member) (i : ℕ) (m : Member) (k : List ℕ) (ys : List (Named Y)) → AreDistinct [] (members_of ms) → i < length ms → m ≡ get_or ms i m → k ≡ m.key → ys ≡ map (λ (x : List ℕ × Data). (x.0, f x)) (members_of (take i ms)) → value_for k ys ≡ None
is_new f ms i m k ys apart lt at key is = ap (λ (z : List ℕ). value_for z ys) key ∙ ap (value_for m.key) is ∙ not_known f m.key (members_of (take i ms)) (fresh [] ms i m apart lt at)
