-- The answers of a case under a plan.
use Rattle.std.proofs.Common.{◌≡◌, ◌≤◌, ◌-◌, ◌+◌, ◌<◌, ℕ, List, [], ◌∷◌, ◌++◌, Bool, true, false, length, get_or, take, refl, sym, ap, ◌∙◌, arith}
use Rattle.std.specs.Prelude.{nat_lt, nat_eq, ◌||◌, Option, Some, None, if◌then◌else◌, is_some}
use Rattle.std.specs.Cmp.Lexicographic.{bytes_decides}
use Rattle.std.proofs.lemmas.List.Sums.{fold_more}
use Rattle.asl_json.specs.Same.{bytes_eq}
use Rattle.asl_mock.specs.Tables.{Named, value_for}
use Rattle.asl_mock.specs.Answers.{Response, Case, first_with, answer_in, answer_to}
use Rattle.asl_mock.specs.Merged.{with_missing, merged}
use Rattle.asl_mock.specs.declared.response.Answer.{Answer}
use Rattle.asl_error_plans.specs.Injected.{Answers, answer_put, thrown, under_error, under_plan}
use Rattle.asl_error_plans.specs.declared.injected.InjectedError.{InjectedError}

-- ---- what a case has that takes from another what it lacks

abbrev or_else : {X : Type 0} → Option X → Option X → Option X
or_else None o = o
or_else (Some x) o = Some x

or_none : {X : Type 0} (o : Option X) → or_else o None ≡ o
or_none None = refl
or_none (Some x) = refl

or_assoc : {X : Type 0} (a b c : Option X) → or_else (or_else a b) c ≡ or_else a (or_else b c)
or_assoc None b c = refl
or_assoc (Some x) b c = refl

value_append : (k : List ℕ) (c d : Case) → value_for k (c ++ d) ≡ or_else (value_for k c) (value_for k d)
value_append k [] d = refl
value_append k (n ∷ c) d = by (bytes_eq k n.0) (value_append k c d)
  where
    by : (b : Bool) → value_for k (c ++ d) ≡ or_else (value_for k c) (value_for k d) → (if b then Some n.1 else value_for k (c ++ d)) ≡ or_else (if b then Some n.1 else value_for k c) (value_for k d)
    by true e = refl
    by false e = e

value_missing : (k : List ℕ) (c : Case) (n : Named Response) → value_for k (with_missing c n) ≡ or_else (value_for k c) (value_for k (n ∷ []))
value_missing k c n = by (value_for n.0 c) refl
  where
    there : (y : Response) → value_for n.0 c ≡ Some y → (b : Bool) → bytes_eq k n.0 ≡ b → value_for k c ≡ or_else (value_for k c) (if b then Some n.1 else None)
    there y e true s =
        let has : value_for k c ≡ Some y = ap (λ (z : List ℕ). value_for z c) ((bytes_decides k n.0).0 s) ∙ e in
        has ∙ ap (λ (o : Option Response). or_else o (Some n.1)) (sym has)
    there y e false s = sym (or_none (value_for k c))

    by : (o : Option Response) → value_for n.0 c ≡ o → value_for k (if is_some o then c else c ++ n ∷ []) ≡ or_else (value_for k c) (value_for k (n ∷ []))
    by (Some y) e = there y e (bytes_eq k n.0) refl
    by None e = value_append k c (n ∷ [])

merged_value : (k : List ℕ) (c d : Case) → value_for k (merged c d) ≡ or_else (value_for k c) (value_for k d)
merged_value k c [] = sym (or_none (value_for k c))
merged_value k c (n ∷ d) =
    merged_value k (with_missing c n) d
    ∙ ap (λ (o : Option Response). or_else o (value_for k d)) (value_missing k c n)
    ∙ or_assoc (value_for k c) (value_for k (n ∷ [])) (value_for k d)
    ∙ ap (or_else (value_for k c)) (sym (value_append k (n ∷ []) d))

-- ---- one error

pub one_error : (c d own : Case) (r : Response) (e : InjectedError) (state : List ℕ) (k : ℕ) → k ≤ 4294967295
    → ((j : ℕ) → j ≤ 4294967295 → first_with j r ≡ answer_put e.number e.for_good (thrown e) (answer_to c e.state) j)
    → own ≡ (e.state, r) ∷ [] → d ≡ merged (merged [] own) c
    → answer_to d state k ≡ under_error (answer_to c) e state k
one_error c d own r e state k top one is all =
    ap (λ (x : Case). answer_to x state k) (all ∙ ap (λ (x : Case). merged (merged [] x) c) is) ∙ ap (answer_in k) (merged_value state ((e.state, r) ∷ []) c) ∙ by (bytes_eq state e.state) refl
  where
    by : (b : Bool) → bytes_eq state e.state ≡ b → answer_in k (or_else (if b then Some r else None) (value_for state c)) ≡ (if b then answer_put e.number e.for_good (thrown e) (answer_to c state) else answer_to c state) k
    by true s = one k top ∙ ap (λ (z : List ℕ). answer_put e.number e.for_good (thrown e) (answer_to c z) k) (sym ((bytes_decides state e.state).0 s))
    by false s = refl

-- ---- a plan

pub under_alike : (f g : List ℕ → Answers) (e : InjectedError) → ((s : List ℕ) (j : ℕ) → j ≤ 4294967295 → f s j ≡ g s j) → (state : List ℕ) (k : ℕ) → k ≤ 4294967295 → under_error f e state k ≡ under_error g e state k
under_alike f g e alike state k top = by (bytes_eq state e.state)
  where
    error : Answer
    error = thrown e

    put : (c d : Bool) → (if c then f state k else if d then Some error else f state (k - 1)) ≡ (if c then g state k else if d then Some error else g state (k - 1))
    put true d = alike state k top
    put false true = refl
    put false false = alike state (k - 1) (omega (arith, top))

    by : (b : Bool) → (if b then answer_put e.number e.for_good error (f state) else f state) k ≡ (if b then answer_put e.number e.for_good error (g state) else g state) k
    by true = put (nat_lt k e.number) (nat_eq k e.number || e.for_good)
    by false = alike state k top

pub plan_more : (f : List ℕ → Answers) (plan : List InjectedError) (i : ℕ) (e : InjectedError) → i < length plan → e ≡ get_or plan i e → under_plan (take (i + 1) plan) f ≡ under_error (under_plan (take i plan) f) e
plan_more f plan i e lt at = fold_more under_error f plan i e lt ∙ ap (under_error (under_plan (take i plan) f)) (sym at)
