-- Where a member of a key stands, before and after one is put in.
use Rattle.std.proofs.Common.{◌≡◌, ◌∷◌, ◌++◌, ◌<◌, [], List, ℕ, zero, suc, length, Bool, true, false, cond, Option, Some, None, refl, sym, ◌∙◌, ap, subst, arith}
use Rattle.std.specs.Prelude.{option_map}
use Rattle.std.specs.Cmp.Lexicographic.{same_text}
use Rattle.asl_json_data.specs.Data.{Data}
use Rattle.asl_json.proofs.Knowing.{bytes_eq-flip}
use Rattle.asl_json.specs.Same.{bytes_eq}
use Rattle.asl_json_data.specs.Distinct.{has_key}
use Rattle.asl_json.specs.Access.{key_index, with_value}
use Rattle.asl_intrinsic_functions.specs.private.Loops.{with_member}

-- ---- the key is there

within_at : (b : Bool) (o : Option ℕ) (n i : ℕ) → ((j : ℕ) → o ≡ Some j → j < n) → cond b (Some 0) (option_map suc o) ≡ Some i → i < suc n
within_at true o n i h e = let zero_is : 0 ≡ i = cc in omega (arith, zero_is)
within_at false None n i h e = absurd (cc)
within_at false (Some j) n i h e = let next : suc j ≡ i = cc in omega (arith, h j refl, next)

pub place_within : (k : List ℕ) (ms : List (List ℕ × Data)) (i : ℕ) → key_index k ms ≡ Some i → i < length ms
place_within k [] i e = absurd (cc)
place_within k (m ∷ ms) i e = within_at (bytes_eq k m.0) (key_index k ms) (length ms) i (λ j h. place_within k ms j h) e

set_at : (k : List ℕ) (m : List ℕ × Data) (ms : List (List ℕ × Data)) (d : Data) (b : Bool) (o : Option ℕ) (i : ℕ) → ((j : ℕ) → o ≡ Some j → with_value ms j d ≡ with_member ms k d) → cond b (Some 0) (option_map suc o) ≡ Some i → with_value (m ∷ ms) i d ≡ cond b ((m.0, d) ∷ ms) (m ∷ with_member ms k d)
set_at k m ms d true o zero h e = refl
set_at k m ms d false (Some j) (suc i) h e = let same : j ≡ i = cc in ap (λ (x : List (List ℕ × Data)). m ∷ x) (h i (ap (λ (x : ℕ). Some x) same))
set_at k m ms d x y z h e = absurd cc

pub place_set : (k : List ℕ) (ms : List (List ℕ × Data)) (i : ℕ) (d : Data) → key_index k ms ≡ Some i → with_value ms i d ≡ with_member ms k d
place_set k [] i d e = absurd (cc)
place_set k (m ∷ ms) i d e = set_at k m ms d (bytes_eq k m.0) (key_index k ms) i (λ j h. place_set k ms j d h) e

pub index_set : (q : List ℕ) (ms : List (List ℕ × Data)) (i : ℕ) (d : Data) → key_index q (with_value ms i d) ≡ key_index q ms
index_set q [] i d = refl
index_set q (m ∷ ms) zero d = refl
index_set q (m ∷ ms) (suc i) d = ap (λ (o : Option ℕ). cond (bytes_eq q m.0) (Some 0) (option_map suc o)) (index_set q ms i d)

-- ---- it isn't

none_at : (b : Bool) (o : Option ℕ) → cond b (Some 0) (option_map suc o) ≡ None → (b ≡ false) × (o ≡ None)
none_at true o e = absurd (cc)
none_at false None e = (refl, refl)
none_at false (Some j) e = absurd (cc)

pub no_place_key : (k : List ℕ) (ms : List (List ℕ × Data)) → key_index k ms ≡ None → has_key k ms ≡ false
no_place_key k [] e = refl
no_place_key k (m ∷ ms) e = let parts = none_at (bytes_eq k m.0) (key_index k ms) e in rw parts.0 (no_place_key k ms parts.1)

pub no_place_push : (k : List ℕ) (ms : List (List ℕ × Data)) (d : Data) → key_index k ms ≡ None → with_member ms k d ≡ ms ++ (k, d) ∷ []
no_place_push k [] d e = refl
no_place_push k (m ∷ ms) d e = let parts = none_at (bytes_eq k m.0) (key_index k ms) e in rw parts.0 (ap (λ (x : List (List ℕ × Data)). m ∷ x) (no_place_push k ms d parts.1))

abbrev or_else : Option ℕ → Option ℕ → Option ℕ
or_else None p = p
or_else (Some i) p = Some i

spread : (n : ℕ) (a : Bool) (o : Option ℕ) (b : Bool) → cond a (Some 0) (option_map suc (or_else o (cond b (Some n) None))) ≡ or_else (cond a (Some 0) (option_map suc o)) (cond b (Some (suc n)) None)
spread n true o b = refl
spread n false (Some i) b = refl
spread n false None true = refl
spread n false None false = refl

-- where q stands behind one member more
behind : (q : List ℕ) (ms : List (List ℕ × Data)) (m : List ℕ × Data) → key_index q (ms ++ m ∷ []) ≡ or_else (key_index q ms) (cond (bytes_eq q m.0) (Some (length ms)) None)
behind q [] m = refl
behind q (x ∷ ms) m = ap (λ (o : Option ℕ). cond (bytes_eq q x.0) (Some 0) (option_map suc o)) (behind q ms m) ∙ spread (length ms) (bytes_eq q x.0) (key_index q ms) (bytes_eq q m.0)

no_other : (o : Option ℕ) → or_else o None ≡ o
no_other None = refl
no_other (Some i) = refl

last_at : (b : Bool) (n : ℕ) (o : Option ℕ) → (b ≡ true → o ≡ None) → or_else o (cond b (Some n) None) ≡ cond b (Some n) o
last_at true n o h = rw (h refl) refl
last_at false n o h = no_other o

pub index_push : (q k : List ℕ) (ms : List (List ℕ × Data)) (d : Data) → key_index k ms ≡ None → key_index q (ms ++ (k, d) ∷ []) ≡ cond (bytes_eq k q) (Some (length ms)) (key_index q ms)
index_push q k ms d e =
    behind q ms (k, d)
    ∙ last_at (bytes_eq q k) (length ms) (key_index q ms) (λ t. subst (λ (x : List ℕ). key_index x ms ≡ None) (sym (same_text q k (sym t))) e)
    ∙ ap (λ (b : Bool). cond b (Some (length ms)) (key_index q ms)) (bytes_eq-flip q k)
