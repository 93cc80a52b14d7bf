-- An item that is the same as none of those kept is the same as none before it.
use Rattle.std.proofs.Common.{◌≡◌, Bool, true, false, ◌||◌, List, [], ◌∷◌, ◌++◌, refl, sym, ap, ◌∙◌, append_assoc}
use Rattle.std.specs.List.{list_any}
use Rattle.std.proofs.lemmas.List.{append-nil}
use Rattle.asl_json_data.specs.Data.{Data}
use Rattle.asl_json.specs.Meaning.{same}
use Rattle.asl_intrinsic_functions.specs.Lists.{first_ones}
use Rattle.asl_intrinsic_functions.specs.private.Loops.{kept_of}
use Rattle.asl_intrinsic_functions.proofs.Sameness.{same_on}

-- one of these is the same as d
abbrev has : Data → List Data → Bool
has d ds = list_any (λ x. same x d) ds

or_right : (a : Bool) → (a || true) ≡ true
or_right true = refl
or_right false = refl

or_off : (a : Bool) → (a || false) ≡ a
or_off true = refl
or_off false = refl

has_push : (d x : Data) (ds : List Data) → has d (ds ++ x ∷ []) ≡ (has d ds || same x d)
has_push d x [] = or_off (same x d)
has_push d x (y ∷ ds) = ap (λ (b : Bool). same y d || b) (has_push d x ds) ∙ regroup (same y d) (has d ds) (same x d)
  where
    regroup : (a b c : Bool) → (a || (b || c)) ≡ ((a || b) || c)
    regroup true b c = refl
    regroup false b c = refl

-- what is the same as x is the same as d, where x is
has_on : (d x : Data) (ds : List Data) → same x d ≡ true → has x ds ≡ true → has d ds ≡ true
has_on d x [] like h = absurd cc
has_on d x (y ∷ ds) like h = by (same y x) refl (has_on d x ds like)
  where
    by : (b : Bool) → same y x ≡ b → (has x ds ≡ true → has d ds ≡ true) → (same y d || has d ds) ≡ true
    by true is again = ap (λ (b : Bool). b || has d ds) (same_on y x d is like)
    by false is again = ap (λ (b : Bool). same y d || b) (again (sym (ap (λ (b : Bool). b || has x ds) is) ∙ h)) ∙ or_right (same y d)

-- so an item that is the same as one before it changes nothing
pub has_known : (d x : Data) (ds : List Data) → has x ds ≡ true → (has d ds || same x d) ≡ has d ds
has_known d x ds h = by (same x d) refl
  where
    by : (b : Bool) → same x d ≡ b → (has d ds || same x d) ≡ has d ds
    by true is = rw (is, has_on d x ds is h) refl
    by false is = ap (λ (b : Bool). has d ds || b) is ∙ or_off (has d ds)

pub kept_are : (kept before ds : List Data) → ((d : Data) → has d kept ≡ has d before) → kept_of kept ds ≡ kept ++ first_ones before ds
kept_are kept before [] h = sym (append-nil kept)
kept_are kept before (x ∷ ds) h = by (has x before) refl (kept_are kept (before ++ x ∷ []) ds) (kept_are (kept ++ x ∷ []) (before ++ x ∷ []) ds)
  where
    by : (b : Bool) → has x before ≡ b → (((d : Data) → has d kept ≡ has d (before ++ x ∷ [])) → kept_of kept ds ≡ kept ++ first_ones (before ++ x ∷ []) ds)
        → (((d : Data) → has d (kept ++ x ∷ []) ≡ has d (before ++ x ∷ [])) → kept_of (kept ++ x ∷ []) ds ≡ (kept ++ x ∷ []) ++ first_ones (before ++ x ∷ []) ds)
        → kept_of kept (x ∷ ds) ≡ kept ++ first_ones before (x ∷ ds)
    by true is stays grows = rw (h x ∙ is, is) (stays (λ d. h d ∙ sym (has_push d x before ∙ has_known d x before is)))
    by false is stays grows = rw (h x ∙ is, is) (grows (λ d. has_push d x kept ∙ ap (λ (b : Bool). b || same x d) (h d) ∙ sym (has_push d x before)) ∙ append_assoc kept (x ∷ []) (first_ones (before ++ x ∷ []) ds))

-- the items kept one after another are the first ones
pub first_kept : (ds : List Data) → kept_of [] ds ≡ first_ones [] ds
first_kept ds = kept_are [] [] ds (λ d. refl)
