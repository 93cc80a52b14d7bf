-- The parts of values that are equal but for what stands at a chain of keys.
use Rattle.std.proofs.Common.{◌≡◌, inl, inr, ℕ, List, [], ◌∷◌, ◌++◌, Bool, true, false, ◌&&◌, refl, sym, ap, cond, Some, Option}
use Rattle.std.proofs.lemmas.Bool.{or_parts}
use Rattle.std.specs.Option.{option_and_then}
use Rattle.std.specs.Cmp.Lexicographic.{same_text}
use Rattle.asl_json_data.specs.Data.{Data, dict, pairs}
use Rattle.asl_json_data.specs.Distinct.{Members, has_key}
use Rattle.asl_json.specs.Same.{bytes_eq}
use Rattle.asl_json.specs.Meaning.{value_at}
use Rattle.asl_json.specs.private.SameLaws.{bytes_refl}
use Rattle.asl_path.specs.Walk.{at}
use Rattle.asl_path.specs.declared.step.Step.{Step}
use Rattle.asl_path.specs.declared.step.Step.TheVariants.{Name, Index}
use Rattle.asl_step_reads.specs.Reading.{Keys, AreEqualBut, meets}

-- the first member of a key
value_first : (k : List ℕ) (before after : Members) (d : Data) → has_key k before ≡ false → value_at k (pairs (before ++ (k, d) ∷ after)) ≡ Some d
value_first k [] after d h = rw (bytes_refl k) refl
value_first k (m ∷ before) after d h = let (own, rest) = or_parts (bytes_eq k m.0) (has_key k before) h in rw own (value_first k before after d rest)

-- the value of another key doesn't hang on it
value_other : (n k : List ℕ) (before after : Members) (d e : Data) → bytes_eq n k ≡ false → value_at n (pairs (before ++ (k, d) ∷ after)) ≡ value_at n (pairs (before ++ (k, e) ∷ after))
value_other n k [] after d e h = rw h refl
value_other n k (m ∷ before) after d e h = by (bytes_eq n m.0) (value_other n k before after d e h)
  where
    by : {x y : Option Data} (c : Bool) → x ≡ y → cond c (Some m.1) x ≡ cond c (Some m.1) y
    by true p = refl
    by false p = p

abbrev with_first : Members → List ℕ → Data → Members → Data
with_first before k d after = dict (pairs (before ++ (k, d) ∷ after))

-- what steps from a name reach
name_agrees : (n k : List ℕ) (before after : Members) (d e : Data) (ks : Keys) (ss : List Step) (c : Bool) → bytes_eq n k ≡ c → has_key k before ≡ false → (c && meets ks ss) ≡ false → (meets ks ss ≡ false → at d ss ≡ at e ss) → at (with_first before k d after) (Name n ∷ ss) ≡ at (with_first before k e after) (Name n ∷ ss)
name_agrees n k before after d e ks ss true same first unmet inside =
    rw (same_text n k (sym same), value_first k before after d first, value_first k before after e first) (inside unmet)
name_agrees n k before after d e ks ss false other first unmet inside =
    ap (λ (o : Option Data). option_and_then (λ (w : Data). at w ss) o) (value_other n k before after d e other)

pub at_agrees : (ks : Keys) (ss : List Step) (a b : Data) → AreEqualBut ks a b → meets ks ss ≡ false → at a ss ≡ at b ss
at_agrees [] ss a b same unmet = absurd cc
at_agrees (k ∷ ks) ss a b (inl e) unmet = ap (λ (v : Data). at v ss) e
at_agrees (k ∷ ks) [] a b (inr r) unmet = absurd cc
at_agrees (k ∷ ks) (Index i ∷ ss) a b (inr r) unmet = rw (r.a_is, r.b_is) refl
at_agrees (k ∷ ks) (Name n ∷ ss) a b (inr r) unmet =
    rw (r.a_is, r.b_is) (name_agrees n k r.before r.after r.one r.other ks ss (bytes_eq n k) refl r.first unmet (at_agrees ks ss r.one r.other r.related))
