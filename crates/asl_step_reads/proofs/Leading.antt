-- What a walk over keys and bytes has come to, where it ends early.
use Rattle.std.proofs.Common.{◌≡◌, ◌<◌, ℕ, ◌+◌, List, [], ◌∷◌, true, refl, arith, length, drop, get_or, map, None}
use Rattle.std.specs.Prelude.{not}
use Rattle.std.proofs.lemmas.List.{drop_more}
use Rattle.std.proofs.lemmas.Bool.{ne_eqb}
use Rattle.asl_path.specs.Grammar.{is_name_byte}
use Rattle.asl_step_reads.specs.Mentions.{behind, may_lead}

-- something stands there
first_of : {X : Type 0} (xs : List X) (i : ℕ) → i < length xs → (x : X) × (drop i xs ≡ x ∷ drop (i + 1) xs)
first_of [] i lt = absurd (omega (arith, lt))
first_of (x ∷ xs) i lt = (get_or (x ∷ xs) i x, drop_more (x ∷ xs) i x lt)

nothing : (xs : List ℕ) → length xs ≡ 0 → xs ≡ []
nothing [] e = refl
nothing (x ∷ xs) e = absurd (omega (arith, e))

-- no byte is left for the next one of the key
pub none_left : (key rest all : List ℕ) (i : ℕ) → i < length key → length rest ≡ 0 → behind (drop i key) rest ≡ behind key all → None ≡ behind key all
none_left key rest all i lt none so = let next = first_of key i lt in rw (nothing rest none, next.1) at so

-- no byte is left for the next key, or the first one isn't a dot
module _ {X : Type 0} (view : X → List ℕ) (keys : List X) (all : List ℕ) (i : ℕ) (lt : i < length keys) where
  pub none_leads : (rest : List ℕ) → length rest ≡ 0 → may_lead (map view (drop i keys)) rest ≡ may_lead (map view keys) all → true ≡ may_lead (map view keys) all
  none_leads rest none so = let next = first_of keys i lt in rw (nothing rest none, next.1) at so

  pub other_leads : (rest others : List ℕ) (c : ℕ) → rest ≡ c ∷ others → (c ≡ 46 → ⊥) → may_lead (map view (drop i keys)) rest ≡ may_lead (map view keys) all → not (is_name_byte c) ≡ may_lead (map view keys) all
  other_leads rest others c is ne so = let next = first_of keys i lt in rw (is, next.1, ne_eqb c 46 ne) at so
