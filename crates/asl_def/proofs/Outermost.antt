-- The states of the outermost machine, by number.
use Rattle.std.proofs.Common.{◌≡◌, ℕ, zero, suc, ◌+◌, ◌<◌, ◌≤◌, List, [], ◌∷◌, length, take, drop, refl, sym, ◌∙◌, ap, arith}
use Rattle.std.specs.Prelude.{Option, Some, None, slice_get, codes}
use Rattle.asl_json_data.specs.Data.{Data, dict, pairs}
use Rattle.asl_json.specs.Access.{members_of_any}
use Rattle.asl_json.specs.View.{unpaired, unpaired-pairs}
use Rattle.asl_def_schema.specs.Canon.{Named}
use Rattle.asl_def_shared.specs.declared.body.Body.{Body}
use Rattle.asl_def_shared.specs.declared.heading.Heading.{Heading}
use Rattle.asl_def.specs.Own.{own_states_in}
use Rattle.asl_def_shared.specs.Bodies.{machine_members, machine_of, IsWithin}
use Rattle.asl_def_shared.proofs.Names.{named}

own_are : (t : List Named) (h : Heading) (b : Body) → own_states_in (machine_of t h b) ≡ take b.count (drop b.first t)
own_are t h b = ap (λ (o : Option Data). unpaired (members_of_any o)) (sym (named (codes "States") (Some (dict (pairs (take b.count (drop b.first t))))) (machine_members t h b) refl)) ∙ unpaired-pairs (take b.count (drop b.first t))

slice_length : (m n : ℕ) (t : List Named) → m + n ≤ length t → length (take n (drop m t)) ≡ n
slice_length zero zero t h = refl
slice_length zero (suc n) [] h = absurd (omega (arith, h))
slice_length zero (suc n) (x ∷ t) h = ap suc (slice_length zero n t (omega (arith, h)))
slice_length (suc m) n [] h = absurd (omega (arith, h))
slice_length (suc m) n (x ∷ t) h = slice_length m n t (omega (arith, h))

pub own_counted : (t : List Named) (h : Heading) (b : Body) → IsWithin (length t) b → b.count ≡ length (own_states_in (machine_of t h b))
own_counted t h b w = sym (ap length (own_are t h b) ∙ slice_length b.first b.count t w)

in_slice : (m n i k : ℕ) (t : List Named) → i < n → k ≡ m + i → slice_get (take n (drop m t)) i ≡ slice_get t k
in_slice zero zero i k t h e = absurd (omega (arith, h))
in_slice zero (suc n) i k [] h e = refl
in_slice zero (suc n) zero zero (x ∷ t) h e = refl
in_slice zero (suc n) zero (suc k) (x ∷ t) h e = absurd (omega (arith, e))
in_slice zero (suc n) (suc i) zero (x ∷ t) h e = absurd (omega (arith, e))
in_slice zero (suc n) (suc i) (suc k) (x ∷ t) h e = in_slice zero n i k t (omega (arith, h)) (omega (arith, e))
in_slice (suc m) zero i k t h e = absurd (omega (arith, h))
in_slice (suc m) (suc n) i k [] h e = refl
in_slice (suc m) (suc n) i zero (x ∷ t) h e = absurd (omega (arith, e))
in_slice (suc m) (suc n) i (suc k) (x ∷ t) h e = in_slice m (suc n) i k t h (omega (arith, e))

-- within their number it is the one that stands so far behind the first in the table
pub own_at : (t : List Named) (h : Heading) (b : Body) (i k : ℕ) → i < b.count → k ≡ b.first + i → slice_get (own_states_in (machine_of t h b)) i ≡ slice_get t k
own_at t h b i k lt e = ap (λ (xs : List Named). slice_get xs i) (own_are t h b) ∙ in_slice b.first b.count i k t lt e

past : (xs : List Named) (i : ℕ) → length xs ≤ i → slice_get xs i ≡ None
past [] i h = refl
past (x ∷ xs) zero h = absurd (omega (arith, h))
past (x ∷ xs) (suc i) h = past xs i (omega (arith, h))

pub own_past : (t : List Named) (h : Heading) (b : Body) (i : ℕ) → IsWithin (length t) b → b.count ≤ i → slice_get (own_states_in (machine_of t h b)) i ≡ None
own_past t h b i w le = past (own_states_in (machine_of t h b)) i (omega (arith, own_counted t h b w, le))
