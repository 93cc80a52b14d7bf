-- Counting a range.
use Rattle.std.proofs.Common.{◌≡◌, ℕ, zero, suc, ◌-◌, ◌<◌, true, false, List, [], ◌∷◌, ◌++◌, Option, Some, None, refl, sym, ap, append_assoc, arith, ℤ, ◌+ℤ◌}
use Rattle.std.proofs.lemmas.List.{append-nil}
use Rattle.std.specs.Prelude.{option_map}
use Rattle.asl_json_data.specs.Data.{Data}
use Rattle.asl_intrinsic_functions.specs.Converting.{whole_number}
use Rattle.asl_intrinsic_functions.specs.Lists.{is_passed, counted}

-- the items behind those that are there
abbrev pub behind : List Data → Option (List Data) → Option (List Data)
behind done o = option_map (λ zs. done ++ zs) o

pub counted_end : (n : ℕ) (stride end z : ℤ) (done : List Data) → is_passed stride end z ≡ true → behind done (counted n stride end z) ≡ Some done
unfolding counted
counted_end zero stride end z done e = rw e (ap (λ (ds : List Data). Some ds) (append-nil done))
counted_end (suc n) stride end z done e = rw e (ap (λ (ds : List Data). Some ds) (append-nil done))

pub counted_over : (stride end z : ℤ) (done : List Data) → is_passed stride end z ≡ false → behind done (counted 0 stride end z) ≡ None
unfolding counted
counted_over stride end z done e = rw e refl

pub counted_start : (o : Option (List Data)) → behind [] o ≡ o
counted_start None = refl
counted_start (Some ds) = refl

pub counted_more : (n : ℕ) (stride end z : ℤ) (done : List Data) → 0 < n → is_passed stride end z ≡ false → behind done (counted n stride end z) ≡ behind (done ++ whole_number z ∷ []) (counted (n - 1) stride end (z +ℤ stride))
unfolding counted
counted_more zero stride end z done lt e = absurd (omega arith)
counted_more (suc n) stride end z done lt e = let less : suc n - 1 ≡ n = omega arith in rw (e, less) (over (counted n stride end (z +ℤ stride)))
  where
    over : (o : Option (List Data)) → behind done (option_map (λ zs. whole_number z ∷ zs) o) ≡ behind (done ++ whole_number z ∷ []) o
    over None = refl
    over (Some zs) = ap (λ (ds : List Data). Some ds) (sym (append_assoc done (whole_number z ∷ []) zs))
