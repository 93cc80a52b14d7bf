-- What is spelled is read: each step leads the machine over its text, whatever follows.
use Rattle.std.proofs.Common.{◌≡◌, ◌<◌, ◌≤◌, ◌+◌, ◌-◌, ◌*◌, ◌==◌, ℕ, suc, true, false, List, [], ◌∷◌, ◌++◌, length, refl, sym, ◌∙◌, ap, subst, arith, cond, append_assoc, inl, inr}
use Rattle.std.specs.Prelude.{Ok, ◌&&◌, ◌||◌}
use Rattle.std.proofs.lemmas.List.{append-nil}
use Rattle.asl_path.specs.declared.step.Root.{Root}
use Rattle.asl_path.specs.declared.step.Root.TheVariants.{Input, Context}
use Rattle.asl_path.specs.declared.step.Step.{Step}
use Rattle.asl_path.specs.declared.step.Step.TheVariants.{Name, Index}
use Rattle.asl_path.specs.Grammar.{single_quote, double_quote, is_digit, is_name_byte, Each, number_from, SpellsQuoted, SpellsIndex, SpellsStep, SpellsSteps, SpellsPath}
use Rattle.asl_path.specs.private.Steps.{between, bracket, quoted, digits, go, stop, run, with_root, from_root, steps}
use Rattle.asl_path.specs.private.Leads.{NotFirst}
use Rattle.asl_path.proofs.Stretch.{on, dot_some, quoted_run, quote_closes, digits_end, less_than}

stop_no_name : is_name_byte 46 ≡ false
unfolding is_name_byte is_digit
stop_no_name = refl

bracket_no_name : is_name_byte 91 ≡ false
unfolding is_name_byte is_digit
bracket_no_name = refl

first_is : (c : ℕ) (t u : List ℕ) → t ≡ c ∷ u → is_name_byte c ≡ false → NotFirst is_name_byte t
first_is c t u e h = subst (NotFirst is_name_byte) (sym e) h

-- no step begins like a name goes on
step_first : (s : Step) (t rest : List ℕ) → SpellsStep s t → NotFirst is_name_byte (t ++ rest)
step_first (Name n) t rest (inl h) = first_is 46 (t ++ rest) (n ++ rest) (ap (λ (z : List ℕ). z ++ rest) h.parts) stop_no_name
step_first (Name n) t rest (inr (inl h)) = first_is 91 (t ++ rest) ((single_quote ∷ (n ++ single_quote ∷ 93 ∷ [])) ++ rest) (ap (λ (z : List ℕ). z ++ rest) h.parts) bracket_no_name
step_first (Name n) t rest (inr (inr h)) = first_is 91 (t ++ rest) ((double_quote ∷ (n ++ double_quote ∷ 93 ∷ [])) ++ rest) (ap (λ (z : List ℕ). z ++ rest) h.parts) bracket_no_name
step_first (Index i) t rest h = first_is 91 (t ++ rest) ((h.digits ++ 93 ∷ []) ++ rest) (ap (λ (z : List ℕ). z ++ rest) h.parts) bracket_no_name

steps_first : (ss : List Step) (t : List ℕ) → SpellsSteps ss t → NotFirst is_name_byte t
steps_first [] t h = subst (NotFirst is_name_byte) (sym h) tt
steps_first (s ∷ ss) t h = subst (NotFirst is_name_byte) (sym h.parts) (step_first s h.front h.back h.front_is)

quoted_pass : (q : ℕ) (n t rest : List ℕ) (done : List Step) → SpellsQuoted q n t → run bracket done (q ∷ (n ++ q ∷ 93 ∷ rest)) ≡ run (quoted q []) done (n ++ q ∷ 93 ∷ rest)
    → run between done (t ++ rest) ≡ run between (done ++ Name n ∷ []) rest
quoted_pass q n t rest done h e =
    let regrouped : t ++ rest ≡ 91 ∷ q ∷ (n ++ q ∷ 93 ∷ rest) = rw h.parts (ap (λ (z : List ℕ). 91 ∷ q ∷ z) (append_assoc n (q ∷ 93 ∷ []) rest)) in
    ap (run between done) regrouped
    ∙ e
    ∙ quoted_run q [] n (q ∷ 93 ∷ rest) done h.each
    ∙ quote_closes q n (93 ∷ rest) done

digits_run : (k v : ℕ) (ds rest : List ℕ) (done : List Step) → Each is_digit ds → k + length ds ≤ 9 → run (digits k v) done (ds ++ rest) ≡ run (digits (k + length ds) (number_from v ds)) done rest
digits_run k v [] rest done h l = let e : k ≡ k + 0 = omega arith in ap (λ (z : ℕ). run (digits z v) done rest) e
digits_run k v (c ∷ ds) rest done h l =
    let lt : k < 9 = omega arith in
    let e : k + 1 + length ds ≡ k + suc (length ds) = omega arith in
    ap (λ b. on (cond (b && is_digit c) (go (digits (k + 1) (v * 10 + (c - 48))) done) (cond (c == 93) (go between (done ++ Index v ∷ [])) stop)) (ds ++ rest)) (less_than k lt)
    ∙ ap (λ b. on (cond b (go (digits (k + 1) (v * 10 + (c - 48))) done) (cond (c == 93) (go between (done ++ Index v ∷ [])) stop)) (ds ++ rest)) h.0
    ∙ digits_run (k + 1) (v * 10 + (c - 48)) ds rest done h.1 (omega arith)
    ∙ ap (λ (z : ℕ). run (digits z (number_from (v * 10 + (c - 48)) ds)) done rest) e

no_quote : (c : ℕ) → is_digit c ≡ true → ((c == 39) || (c == 34)) ≡ false
unfolding is_digit
no_quote c e = grind (arith, e)

index_run : (ds rest : List ℕ) (done : List Step) → Each is_digit ds → 0 < length ds → length ds ≤ 9 → run bracket done (ds ++ 93 ∷ rest) ≡ run between (done ++ Index (number_from 0 ds) ∷ []) rest
index_run [] rest done h some few = absurd (omega arith)
index_run (c ∷ ds) rest done h some few =
    let one : 0 * 10 + (c - 48) ≡ c - 48 = omega arith in
    ap (λ b. on (cond b (go (quoted c []) done) (cond (is_digit c) (go (digits 1 (c - 48)) done) stop)) (ds ++ 93 ∷ rest)) (no_quote c h.0)
    ∙ ap (λ b. on (cond b (go (digits 1 (c - 48)) done) stop) (ds ++ 93 ∷ rest)) h.0
    ∙ digits_run 1 (c - 48) ds (93 ∷ rest) done h.1 (omega arith)
    ∙ digits_end (1 + length ds) (number_from (c - 48) ds) (93 ∷ rest) rest done refl
    ∙ ap (λ (z : ℕ). run between (done ++ Index (number_from z ds) ∷ []) rest) (sym one)

index_pass : (i : ℕ) (t rest : List ℕ) (done : List Step) → SpellsIndex i t → run between done (t ++ rest) ≡ run between (done ++ Index i ∷ []) rest
index_pass i t rest done h =
    let regrouped : t ++ rest ≡ 91 ∷ (h.digits ++ 93 ∷ rest) = rw h.parts (ap (λ (z : List ℕ). 91 ∷ z) (append_assoc h.digits (93 ∷ []) rest)) in
    ap (run between done) regrouped
    ∙ index_run h.digits rest done h.each h.some h.few
    ∙ ap (λ (z : ℕ). run between (done ++ Index z ∷ []) rest) h.means

step_pass : (s : Step) (t rest : List ℕ) (done : List Step) → SpellsStep s t → NotFirst is_name_byte rest → run between done (t ++ rest) ≡ run between (done ++ s ∷ []) rest
step_pass (Name n) t rest done (inl h) e = ap (λ (z : List ℕ). run between done (z ++ rest)) h.parts ∙ dot_some n rest done h.some h.each e
step_pass (Name n) t rest done (inr (inl h)) e = quoted_pass single_quote n t rest done h refl
step_pass (Name n) t rest done (inr (inr h)) e = quoted_pass double_quote n t rest done h refl
step_pass (Index i) t rest done h e = index_pass i t rest done h

pub steps_pass : (ss done : List Step) (t : List ℕ) → SpellsSteps ss t → run between done t ≡ Ok (done ++ ss)
steps_pass [] done t h = ap (run between done) h ∙ ap Ok (sym (append-nil done))
steps_pass (s ∷ ss) done t h =
    ap (run between done) h.parts
    ∙ step_pass s h.front h.back done h.front_is (steps_first ss h.back h.back_is)
    ∙ steps_pass ss (done ++ s ∷ []) h.back h.back_is
    ∙ ap Ok (append_assoc done (s ∷ []) ss)

dollar_no_name : (ss : List Step) (c : ℕ) (t : List ℕ) → SpellsSteps ss (c ∷ t) → (c == 36) ≡ false
dollar_no_name [] c t h = absurd cc
dollar_no_name (s ∷ ss) c t h = first s h.front h.front_is h.parts
  where
    head : (c d : ℕ) (t u : List ℕ) → c ∷ t ≡ d ∷ u → c ≡ d
    head c d t u e = cc

    first : (s : Step) (f : List ℕ) → SpellsStep s f → c ∷ t ≡ f ++ h.back → (c == 36) ≡ false
    first (Name n) f (inl g) e = let x = head c 46 t (n ++ h.back) (e ∙ ap (λ (z : List ℕ). z ++ h.back) g.parts) in rw x refl
    first (Name n) f (inr (inl g)) e = let x = head c 91 t ((39 ∷ (n ++ 39 ∷ 93 ∷ [])) ++ h.back) (e ∙ ap (λ (z : List ℕ). z ++ h.back) g.parts) in rw x refl
    first (Name n) f (inr (inr g)) e = let x = head c 91 t ((34 ∷ (n ++ 34 ∷ 93 ∷ [])) ++ h.back) (e ∙ ap (λ (z : List ℕ). z ++ h.back) g.parts) in rw x refl
    first (Index i) f g e = let x = head c 91 t ((g.digits ++ 93 ∷ []) ++ h.back) (e ∙ ap (λ (z : List ℕ). z ++ h.back) g.parts) in rw x refl

input_pass : (ss : List Step) (t : List ℕ) → SpellsSteps ss t → from_root t ≡ with_root Input (run between [] t)
input_pass ss [] h = refl
input_pass ss (c ∷ t) h = ap (λ b. cond b (with_root Context (run between [] t)) (with_root Input (run between [] (c ∷ t)))) (dollar_no_name ss c t h)

-- a path is read as the root and the steps that it spells
pub path_passes : (root : Root) (ss : List Step) (t : List ℕ) → SpellsPath root ss t → steps t ≡ Ok (root, ss)
path_passes Input ss t h =
    let regrouped : t ≡ 36 ∷ h.back = h.parts ∙ ap (λ (z : List ℕ). z ++ h.back) h.front_is in
    ap steps regrouped ∙ input_pass ss h.back h.back_is ∙ ap (with_root Input) (steps_pass ss [] h.back h.back_is)
path_passes Context ss t h =
    let regrouped : t ≡ 36 ∷ 36 ∷ h.back = h.parts ∙ ap (λ (z : List ℕ). z ++ h.back) h.front_is in
    ap steps regrouped ∙ ap (with_root Context) (steps_pass ss [] h.back h.back_is)
