-- The verdicts of judges, one after another.
use Rattle.std.specs.Prelude.{◌&&◌, nat_eq, get_or, replicate, is_none, is_some, IfSome}
use Rattle.std.proofs.Common.{ℕ, ◌≡◌, ◌<◌, ◌≤◌, ◌+◌, ◌∙◌, ap, sym, refl, subst, arith, Bool, true, false, List, [], ◌∷◌, ◌++◌, length, length-append, Option, Some, None}
use Rattle.std.proofs.lemmas.Bool.Decides.{nat_tests}
use Rattle.std.proofs.lemmas.List.{get_or_read, get_or_push, get_or_append_left, get_or-replicate, length-replicate}
use Rattle.asl_run_state.specs.declared.outcome.Outcome.{Outcome}
use Rattle.asl_run_input.specs.declared.setup.Setup.{Setup}
use Rattle.asl_explore.specs.declared.found.Found.{Found}
use Rattle.asl_explore.specs.declared.orders.Orders.{Orders}
use Rattle.asl_explore.specs.Judging.{AreJudged, IsRefused, IsVerdict}

-- where nothing is there, it is none
pub none-there : {X : Type 0} → (o : Option X) → is_some o ≡ false → is_none o ≡ true
none-there (Some x) e = absurd (cc e)
none-there None e = refl

pub both-true : (a b : Bool) → (a && b) ≡ true → (a ≡ true) × (b ≡ true)
both-true true b e = (refl, e)
both-true false b e = absurd (cc e)

pub both-false : (a : Bool) → (a && false) ≡ true → false ≡ true
both-false true e = e
both-false false e = e

-- the verdicts of so many judges
pub record AreSoFar {J : Type 0} (accepts : J → Setup → Outcome → List ℕ → Bool) (known : Bool) (o : Orders) (s : Setup) (judges : List J) (vs : List (Option Found)) (n : ℕ) : Type 0 where
  pub many : length vs ≡ n
  pub each : (i : ℕ) (j : J) (v : Option Found) → i < n → IsVerdict (accepts (get_or judges i j) s) known o s (get_or vs i v)

pub one-more : {J : Type 0} (accepts : J → Setup → Outcome → List ℕ → Bool) (known : Bool) (o : Orders) (s : Setup) (judges : List J) (vs us : List (Option Found)) (n : ℕ) (j : J) (v : Option Found) → n < length judges → j ≡ get_or judges n j → us ≡ vs ++ v ∷ [] → IsVerdict (accepts j s) known o s v → AreSoFar accepts known o s judges vs n
    → AreSoFar accepts known o s judges us (n + 1)
one-more {J} accepts known o s judges vs us n j v lt at e new h = record { many = ap (length {A = Option Found}) e ∙ length-append vs (v ∷ []) ∙ ap (λ (k : ℕ). k + 1) h.many; each = λ i x y l. by i x y l (nat_eq i n) refl }
  where
    by : (i : ℕ) (x : J) (y : Option Found) → i < n + 1 → (b : Bool) → nat_eq i n ≡ b → IsVerdict (accepts (get_or judges i x) s) known o s (get_or us i y)
    by i x y l true q =
        let same : i ≡ n = grind (arith, nat_tests, q) in
        let past : length vs ≤ i = let m = h.many in omega (arith, m, same) in
        let far : i ≡ length vs = same ∙ sym h.many in
        let of_vs : get_or us i y ≡ v = ap (λ (zs : List (Option Found)). get_or zs i y) e ∙ get_or_push vs v y i (sym far) in
        let of_js : get_or judges i x ≡ j = ap (λ (k : ℕ). get_or judges k x) same ∙ sym (get_or_read judges n j lt at x) in
        subst (λ (z : J). IsVerdict (accepts z s) known o s (get_or us i y)) (sym of_js) (subst (λ (z : Option Found). IsVerdict (accepts j s) known o s z) (sym of_vs) new)
    by i x y l false q =
        let less : i < n = grind (arith, nat_tests, q, l) in
        let here : i < length vs = let m = h.many in omega (arith, m, less) in
        let of_vs : get_or us i y ≡ get_or vs i y = ap (λ (zs : List (Option Found)). get_or zs i y) e ∙ get_or_append_left vs (v ∷ []) y i here in
        subst (λ (z : Option Found). IsVerdict (accepts (get_or judges i x) s) known o s z) (sym of_vs) (h.each i x y less)

pub all-judged : {J : Type 0} (accepts : J → Setup → Outcome → List ℕ → Bool) (known : Bool) (o : Orders) (s : Setup) (judges : List J) (vs : List (Option Found)) (n : ℕ) → n ≡ length judges → AreSoFar accepts known o s judges vs n → AreJudged accepts known o s judges vs
all-judged accepts known o s judges vs n e h = record { many = h.many ∙ e; each = λ i j v lt. h.each i j v (omega (arith, lt, e)) }

-- nothing is known of these
pub none-judged : {J : Type 0} (accepts : J → Setup → Outcome → List ℕ → Bool) (o : Orders) (s : Setup) (judges : List J) (vs : List (Option Found)) → vs ≡ replicate (length judges) None → AreJudged accepts false o s judges vs
none-judged {J} accepts o s judges vs e = record {
  many = ap (length {A = Option Found}) e ∙ length-replicate (length judges) None;
  each = λ i j v lt.
      let here : get_or vs i v ≡ None = ap (λ (zs : List (Option Found)). get_or zs i v) e ∙ get_or-replicate (length judges) i None v lt in
      record { refused = subst (λ (z : Option Found). IfSome z (IsRefused (accepts (get_or judges i j) s) o s)) (sym here) tt; accepted = λ k. let x : false ≡ true = k in absurd (cc) };
}

-- the same of what is known of less
pub judged-less : {J : Type 0} (accepts : J → Setup → Outcome → List ℕ → Bool) (known less : Bool) (o : Orders) (s : Setup) (judges : List J) (vs : List (Option Found)) → (less ≡ true → known ≡ true) → AreJudged accepts known o s judges vs → AreJudged accepts less o s judges vs
judged-less accepts known less o s judges vs f h = record { many = h.many; each = λ i j v lt. let x = h.each i j v lt in record { refused = x.refused; accepted = λ k. x.accepted (f k) } }
