use Rattle.std.proofs.Common.{◌≡◌, ◌∙◌, ℕ, ◌<◌, ◌+◌, ◌++◌, Bool, true, false, List, [], ◌∷◌, length, get_or, set, slice_index_or, Option, None, Result, Ok, refl, sym, ap, subst, arith}
use Rattle.std.specs.Prelude.{IfSome, nat_eq}
use Rattle.std.specs.Option.{ForSome}
use Rattle.std.proofs.lemmas.Bool.Decides.{nat_tests}
use Rattle.std.proofs.lemmas.List.{length-set, get_or-set_other, get_or_append_left}
use Rattle.std.proofs.Math.Seq.{get_or-append_seam}
use Rattle.std.proofs.lemmas.Grind.{get_or-set_at}
use Rattle.asl_suite_workers.specs.Cases.{IsAnswered}
use Rattle.std.specs.declared.alloc.AllocError.{AllocError}
use Rattle.asl_suite.specs.declared.case_report.CaseReport.{CaseReport}

-- each earlier case has a report
pub earlier_reports : (gives : ℕ → Result CaseReport AllocError → Type 0) (reports : List CaseReport) (n : ℕ) → length reports ≡ n
    → ((i : ℕ) (d : CaseReport) → i < n → gives i (Ok (slice_index_or reports i d)))
    → (j : ℕ) → j < n → (r : CaseReport) × gives j (Ok r)
earlier_reports gives [] n len each j lt = absurd (omega arith)
earlier_reports gives (x ∷ xs) n len each j lt = (slice_index_or (x ∷ xs) j x, each j x lt)

-- what is taken from a place is of its case
pub taken : (gives : ℕ → Result CaseReport AllocError → Type 0) (fs : List (Option (Result CaseReport AllocError))) (i : ℕ) (o : Option (Result CaseReport AllocError)) → IsAnswered gives fs → i < length fs
    → ((d : Option (Result CaseReport AllocError)) → o ≡ slice_index_or fs i d) → ForSome o (gives i)
taken gives fs i o h lt is x e = subst (λ (r : Option (Result CaseReport AllocError)). IfSome r (gives i)) (sym (is None) ∙ e) (h i None lt)

not-same : (k i : ℕ) → nat_eq k i ≡ false → k ≡ i → ⊥
not-same k i e q = grind (arith, nat_tests, e, q)

-- what is written at a place is of its case, and the others stay
pub written : (gives : ℕ → Result CaseReport AllocError → Type 0) (fs gs : List (Option (Result CaseReport AllocError))) (i : ℕ) (o : Option (Result CaseReport AllocError)) → gs ≡ set fs i o → i < length fs → IfSome o (gives i) → IsAnswered gives fs → IsAnswered gives gs
written gives fs gs i o e l new h j d lt = by (nat_eq j i) refl
  where
    inside : j < length fs
    inside = omega (arith, lt, ap length e, length-set fs i o)

    by : (c : Bool) → nat_eq j i ≡ c → IfSome (get_or gs j d) (gives j)
    by true q =
        let same : j ≡ i = grind (arith, nat_tests, q) in
        subst (λ (r : Option (Result CaseReport AllocError)). IfSome r (gives j)) (sym (ap (λ (xs : List (Option (Result CaseReport AllocError))). get_or xs j d) e ∙ get_or-set_at fs i j o d same l)) (subst (λ (k : ℕ). IfSome o (gives k)) (sym same) new)
    by false q =
        subst (λ (r : Option (Result CaseReport AllocError)). IfSome r (gives j)) (sym (ap (λ (xs : List (Option (Result CaseReport AllocError))). get_or xs j d) e ∙ get_or-set_other fs i j o d (not-same j i q))) (h j d inside)

-- where nothing is left, the others stay
pub left_behind : (gives : ℕ → Result CaseReport AllocError → Type 0) (fs gs : List (Option (Result CaseReport AllocError))) (i : ℕ) → gs ≡ set fs i None → i < length fs → IsAnswered gives fs → IsAnswered gives gs
left_behind gives fs gs i e l h = written gives fs gs i None e l tt h

-- one report more
pub one_more : (gives : ℕ → Result CaseReport AllocError → Type 0) (rs ss : List CaseReport) (n : ℕ) (r : CaseReport) → ss ≡ rs ++ r ∷ [] → length rs ≡ n → gives n (Ok r) → ((i : ℕ) (d : CaseReport) → i < n → gives i (Ok (slice_index_or rs i d)))
    → (i : ℕ) (d : CaseReport) → i < n + 1 → gives i (Ok (slice_index_or ss i d))
one_more gives rs ss n r e len new h i d lt = by (nat_eq i n) refl
  where
    by : (c : Bool) → nat_eq i n ≡ c → gives i (Ok (get_or ss i d))
    by true q =
        let same : i ≡ length rs = grind (arith, nat_tests, q, len) in
        let at : get_or ss i d ≡ r = ap (λ (xs : List CaseReport). get_or xs i d) e ∙ ap (λ (k : ℕ). get_or (rs ++ r ∷ []) k d) same ∙ get_or-append_seam rs r [] d in
        subst (λ (x : CaseReport). gives i (Ok x)) (sym at) (subst (λ (k : ℕ). gives k (Ok r)) (sym (same ∙ len)) new)
    by false q =
        let less : i < n = grind (arith, nat_tests, q, lt) in
        let inside : i < length rs = omega (arith, less, len) in
        subst (λ (x : CaseReport). gives i (Ok x)) (sym (ap (λ (xs : List CaseReport). get_or xs i d) e ∙ get_or_append_left rs (r ∷ []) d i inside)) (h i d less)
