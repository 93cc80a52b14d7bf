-- Since no key comes twice, the value of the member at a number is the value at its key.
use Rattle.std.proofs.Common.{◌≡◌, ℕ, zero, suc, ◌<◌, false, List, [], ◌∷◌, ◌++◌, length, get_or, Some, refl, sym, ap, subst, ◌∙◌, arith}
use Rattle.std.proofs.lemmas.Bool.{or_parts}
use Rattle.asl_json_data.specs.Data.{Data, pairs}
use Rattle.asl_json_data.specs.Distinct.{Members, has_key, AreDistinct}
use Rattle.asl_json.specs.Meaning.{value_at}
use Rattle.asl_json.specs.Same.{bytes_eq}
use Rattle.asl_json.specs.private.SameLaws.{bytes_refl}
use Rattle.std.proofs.lemmas.List.{get_or-map, length-map}
use Rattle.asl_json.specs.View.{data_of, member_of, members_of}
use Rattle.asl_json.specs.declared.value.Member.{Member}
use Rattle.asl_json.proofs.Knowing.{has_key-push}

is_new : (seen ms : Members) (i : ℕ) (m : List ℕ × Data) → AreDistinct seen ms → i < length ms → get_or ms i m ≡ m → has_key m.0 seen ≡ false
is_new seen [] i m h lt e = absurd (omega arith)
is_new seen (x ∷ ms) zero m h lt e = subst (λ (y : List ℕ × Data). has_key y.0 seen ≡ false) e h.0
is_new seen (x ∷ ms) (suc i) m h lt e = (or_parts (has_key m.0 seen) (bytes_eq m.0 x.0) (sym (has_key-push m.0 seen x) ∙ is_new (seen ++ x ∷ []) ms i m h.1 (omega arith) e)).0

pub value_there : (seen ms : Members) (i : ℕ) (m : List ℕ × Data) → AreDistinct seen ms → i < length ms → get_or ms i m ≡ m → value_at m.0 (pairs ms) ≡ Some m.1
value_there seen [] i m h lt e = absurd (omega arith)
value_there seen (x ∷ ms) zero m h lt e =
    let own : value_at x.0 (pairs (x ∷ ms)) ≡ Some x.1 = rw (bytes_refl x.0) refl in
    subst (λ (y : List ℕ × Data). value_at y.0 (pairs (x ∷ ms)) ≡ Some y.1) e own
value_there seen (x ∷ ms) (suc i) m h lt e =
    let new : has_key m.0 (seen ++ x ∷ []) ≡ false = is_new (seen ++ x ∷ []) ms i m h.1 (omega arith) e in
    rw ((or_parts (has_key m.0 seen) (bytes_eq m.0 x.0) (sym (has_key-push m.0 seen x) ∙ new)).1) (value_there (seen ++ x ∷ []) ms i m h.1 (omega arith) e)

pub value_here : (ms : List Member) (i : ℕ) (m : Member) (k : List ℕ) → AreDistinct [] (members_of ms) → i < length ms → m ≡ get_or ms i m → k ≡ m.key → Some (data_of m.value) ≡ value_at k (pairs (members_of ms))
value_here ms i m k h lt e same =
    let there : get_or (members_of ms) i (member_of m) ≡ member_of m = get_or-map member_of ms i m (member_of m) lt ∙ ap member_of (sym e) in
    let len : length (members_of ms) ≡ length ms = length-map ms member_of in
    rw same (sym (value_there [] (members_of ms) i (member_of m) h (omega (arith, len, lt)) there))
