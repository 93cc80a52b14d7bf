-- Going down a value, step by step.
use Rattle.std.proofs.Common.{◌≡◌, ◌<◌, ◌≤◌, ℕ, zero, suc, Bool, true, false, ◌||◌, Option, Some, None, List, [], ◌∷◌, ◌++◌, length, set, refl, ◌∙◌, ap, subst, arith, cond}
use Rattle.std.specs.Prelude.{slice_get, option_map, nat_eq}
use Rattle.std.specs.Cmp.Lexicographic.{pointwise}
use Rattle.asl_json_data.specs.Data.{Data, chain, pairs, item, Pairs, no_members, member, dict}
use Rattle.asl_json.specs.Same.{bytes_eq}
use Rattle.asl_json_data.specs.Distinct.{has_key}
use Rattle.asl_json.specs.Access.{key_index, with_value}
use Rattle.asl_path.specs.Walk.{item_at, put_member, put_item}

pub item_of : (ds : List Data) (i : ℕ) → slice_get ds i ≡ item_at i (chain ds)
item_of [] i = refl
item_of (d ∷ ds) zero = refl
item_of (d ∷ ds) (suc i) = item_of ds i

-- what option_map was made from
pub mapped : {A : Type 0} {B : Type 0} (o : Option A) (h : A → B) (b : B) → option_map h o ≡ Some b → (a : A) × ((o ≡ Some a) × (h a ≡ b))
mapped None h b e = absurd (cc)
mapped (Some a) h b e = (a, (refl, cc))

pub unmapped : {A : Type 0} {B : Type 0} (o : Option A) (h : A → B) → option_map h o ≡ None → o ≡ None
unmapped None h e = refl
unmapped (Some a) h e = absurd (cc)

-- the first member's key is k, or it isn't
index_first : (b : Bool) (k : List ℕ) (m : List ℕ × Data) (ms : List (List ℕ × Data)) (o : Option ℕ) → pointwise nat_eq k m.0 ≡ b → key_index k (m ∷ ms) ≡ o → cond b (Some 0) (option_map suc (key_index k ms)) ≡ o
index_first b k m ms o e h = subst (λ z. cond z (Some 0) (option_map suc (key_index k ms)) ≡ o) e h

index_next : (k : List ℕ) (m : List ℕ × Data) (ms : List (List ℕ × Data)) (i : ℕ) → pointwise nat_eq k m.0 ≡ false → key_index k (m ∷ ms) ≡ Some (suc i) → key_index k ms ≡ Some i
index_next k m ms i e h =
    let x = mapped (key_index k ms) suc (suc i) (index_first false k m ms (Some (suc i)) e h) in
    let n : x.0 ≡ i = omega (arith, x.1.1) in
    x.1.0 ∙ ap Some n

pub index_within : (k : List ℕ) (ms : List (List ℕ × Data)) (i : ℕ) → key_index k ms ≡ Some i → i < length ms
index_within k [] i h = absurd (cc)
index_within k (m ∷ ms) zero h = omega arith
index_within k (m ∷ ms) (suc i) h = within_next (pointwise nat_eq k m.0) refl (index_within k ms i)
  where
    within_next : (b : Bool) → pointwise nat_eq k m.0 ≡ b → (key_index k ms ≡ Some i → i < length ms) → suc i < length (m ∷ ms)
    within_next true e again = let x = index_first true k m ms (Some (suc i)) e h in absurd (cc)
    within_next false e again = let x = again (index_next k m ms i e h) in omega arith

-- the value at number i
abbrev pub value_of : List (List ℕ × Data) → ℕ → Option Data
value_of ms i = option_map (λ (m : List ℕ × Data). m.1) (slice_get ms i)

put_first : (b : Bool) (k : List ℕ) (f : Data → Option Data) (l : List ℕ) (d : Data) (ms : Pairs) → bytes_eq k l ≡ b → put_member k f (member l d ms) ≡ cond b (option_map (λ w. member l w ms) (f d)) (option_map (λ ns. member l d ns) (put_member k f ms))
put_first b k f l d ms e = ap (λ z. cond z (option_map (λ w. member l w ms) (f d)) (option_map (λ ns. member l d ns) (put_member k f ms))) e

pub map_map : {A : Type 0} {B : Type 0} {C : Type 0} (g : B → C) (h : A → B) (o : Option A) → option_map g (option_map h o) ≡ option_map (λ a. g (h a)) o
map_map g h None = refl
map_map g h (Some a) = refl

pub put_found : (k : List ℕ) (f : Data → Option Data) (ms : List (List ℕ × Data)) (i : ℕ) (d : Data) → key_index k ms ≡ Some i → value_of ms i ≡ Some d → put_member k f (pairs ms) ≡ option_map (λ w. pairs (with_value ms i w)) (f d)
put_found k f [] i d h v = absurd (cc)
put_found k f (m ∷ ms) i d h v = found (pointwise nat_eq k m.0) i refl h v (put_found k f ms)
  where
    found : (b : Bool) (i : ℕ) → pointwise nat_eq k m.0 ≡ b → key_index k (m ∷ ms) ≡ Some i → value_of (m ∷ ms) i ≡ Some d → ((j : ℕ) (c : Data) → key_index k ms ≡ Some j → value_of ms j ≡ Some c → put_member k f (pairs ms) ≡ option_map (λ w. pairs (with_value ms j w)) (f c)) → put_member k f (pairs (m ∷ ms)) ≡ option_map (λ w. pairs (with_value (m ∷ ms) i w)) (f d)
    found true zero e h v again = let same : m.1 ≡ d = cc in put_first true k f m.0 m.1 (pairs ms) e ∙ ap (λ z. option_map (λ w. member m.0 w (pairs ms)) (f z)) same
    found true (suc i) e h v again = let x = index_first true k m ms (Some (suc i)) e h in absurd (cc)
    found false zero e h v again = let x = mapped (key_index k ms) suc 0 (index_first false k m ms (Some 0) e h) in absurd (omega (arith, x.1.1))
    found false (suc i) e h v again =
        put_first false k f m.0 m.1 (pairs ms) e
        ∙ ap (λ o. option_map (λ ns. member m.0 m.1 ns) o) (again i d (index_next k m ms i e h) v)
        ∙ map_map (λ ns. member m.0 m.1 ns) (λ w. pairs (with_value ms i w)) (f d)

index_none : (k : List ℕ) (m : List ℕ × Data) (ms : List (List ℕ × Data)) → key_index k (m ∷ ms) ≡ None → (pointwise nat_eq k m.0 ≡ false) × (key_index k ms ≡ None)
index_none k m ms h = none (pointwise nat_eq k m.0) refl
  where
    none : (b : Bool) → pointwise nat_eq k m.0 ≡ b → (pointwise nat_eq k m.0 ≡ false) × (key_index k ms ≡ None)
    none true e = let x = index_first true k m ms None e h in absurd (cc)
    none false e = (e, unmapped (key_index k ms) suc (index_first false k m ms None e h))

pub name_missing : (k : List ℕ) (ms : List (List ℕ × Data)) → key_index k ms ≡ None → has_key k ms ≡ false
name_missing k [] h = refl
name_missing k (m ∷ ms) h = let x = index_none k m ms h in ap (λ b. b || has_key k ms) x.0 ∙ name_missing k ms x.1

pub put_missing : (k : List ℕ) (f : Data → Option Data) (ms : List (List ℕ × Data)) → key_index k ms ≡ None → put_member k f (pairs ms) ≡ option_map (λ w. pairs (ms ++ (k, w) ∷ [])) (f (dict no_members))
put_missing k f [] h = refl
put_missing k f (m ∷ ms) h =
    let x = index_none k m ms h in
    put_first false k f m.0 m.1 (pairs ms) x.0
    ∙ ap (λ o. option_map (λ ns. member m.0 m.1 ns) o) (put_missing k f ms x.1)
    ∙ map_map (λ ns. member m.0 m.1 ns) (λ w. pairs (ms ++ (k, w) ∷ [])) (f (dict no_members))

pub item_put : (i : ℕ) (f : Data → Option Data) (ds : List Data) (d : Data) → slice_get ds i ≡ Some d → put_item i f (chain ds) ≡ option_map (λ w. chain (set ds i w)) (f d)
item_put i f [] d v = absurd (cc)
item_put zero f (x ∷ ds) d v = let same : x ≡ d = cc in ap (λ z. option_map (λ w. item w (chain ds)) (f z)) same
item_put (suc i) f (x ∷ ds) d v = ap (λ o. option_map (λ es. item x es) o) (item_put i f ds d v) ∙ map_map (λ es. item x es) (λ w. chain (set ds i w)) (f d)

pub item_missing : (i : ℕ) (f : Data → Option Data) (ds : List Data) → length ds ≤ i → put_item i f (chain ds) ≡ None
item_missing i f [] l = refl
item_missing zero f (x ∷ ds) l = absurd (omega arith)
item_missing (suc i) f (x ∷ ds) l = ap (λ o. option_map (λ es. item x es) o) (item_missing i f ds (omega arith))
