-- The bounds of how often states are invoked come in orders.
use Rattle.std.specs.Prelude.{nat_eq, nat_lt, slice_index, is_none, is_some}
use Rattle.std.proofs.Common.{ℕ, ◌≡◌, ◌<◌, ◌≤◌, ◌⊎◌, inl, inr, ◌∙◌, ap, sym, refl, subst, arith, Bool, true, false, List, [], ◌∷◌, length, get_or, set, replicate, ◌++◌, ◌+◌, length-append, Option, Some, None, IfSome}
use Rattle.std.proofs.lemmas.Bool.Decides.{nat_tests}
use Rattle.std.proofs.lemmas.List.{get_or-set_other, get_or_past, get_or_push, get_or-replicate, length-set, length-replicate, get_or_append_left}
use Rattle.std.proofs.lemmas.Grind.{get_or-set_at}
use Rattle.asl_run_branches.specs.declared.earliest.Earliest.{Earliest}
use Rattle.asl_run_state.specs.Bare.{bare, earliest}
use Rattle.asl_run_state.specs.World.{World, is_over}
use Rattle.asl_run_state.specs.declared.outcome.Outcome.{Outcome}
use Rattle.asl_run_state.specs.declared.refusal.Refusal.{Refusal}
use Rattle.asl_run_input.specs.declared.setup.Setup.{Setup}
use Rattle.asl_def.specs.Machines.{state_count}
use Rattle.asl_exec.specs.Steps.{refusal_in, step, opening}
use Rattle.asl_exec.proofs.Accepting.{step_refused}
use Rattle.asl_explore.specs.declared.calls.Bounds.{Bounds}
use Rattle.asl_explore.specs.declared.calls.Calls.{Calls}
use Rattle.asl_explore.specs.declared.orders.Orders.{Orders}
use Rattle.asl_explore.specs.declared.orders.Orders.TheVariants.{Every}
use Rattle.asl_explore.specs.Orders.{after_order}
use Rattle.asl_explore.specs.Searches.{IsLater, IsReached, is_beyond}
use Rattle.asl_explore.specs.Calls.{no_bounds, AreBoth, IsIn, AreBothOrNone, AreEachMet, AreMetSoFar, ComesInOrders, ComesWith, AreBoundsMet, AreAllBoundsMet, AreCounted, IsCounted}
use Rattle.asl_explore.specs.private.Reaching.{IsLeast}
use Rattle.asl_explore.proofs.Reached.{turn-is, turn-reached}
use Rattle.asl_explore.proofs.Tallies.{not-same}

-- ---- one state

-- the bounds of such a number and of those before
pub both-with : (Q : ℕ → Type 0) (b r : Bounds) (n : ℕ) → n ≤ 4_294_967_295 → (r.least ≡ n) ⊎ (r.least ≡ b.least) → r.least ≤ n → (r.most ≡ n) ⊎ (r.most ≡ b.most) → n ≤ r.most → Q n → AreBothOrNone Q b → AreBothOrNone Q r
both-with Q b r n max low below high above q (inl none) =
    let bl : b.least ≡ 4_294_967_295 = ap (λ (z : Bounds). z.least) none in
    let bm : b.most ≡ 0 = ap (λ (z : Bounds). z.most) none in
    inr (record { least = subst Q (sym (lower low bl)) q; most = subst Q (sym (upper high bm)) q })
  where
    lower : (r.least ≡ n) ⊎ (r.least ≡ b.least) → b.least ≡ 4_294_967_295 → r.least ≡ n
    lower (inl e) h = e
    lower (inr e) h = omega (arith, e, h, below, max)

    upper : (r.most ≡ n) ⊎ (r.most ≡ b.most) → b.most ≡ 0 → r.most ≡ n
    upper (inl e) h = e
    upper (inr e) h = omega (arith, e, h, above)
both-with Q b r n max low below high above q (inr both) = inr (record { least = lower low; most = upper high })
  where
    lower : (r.least ≡ n) ⊎ (r.least ≡ b.least) → Q r.least
    lower (inl e) = subst Q (sym e) q
    lower (inr e) = subst Q (sym e) both.least

    upper : (r.most ≡ n) ⊎ (r.most ≡ b.most) → Q r.most
    upper (inl e) = subst Q (sym e) q
    upper (inr e) = subst Q (sym e) both.most

-- no number is within these
pub none-in : (n : ℕ) → IsIn no_bounds n → ⊥
none-in n h = let a = h.low in let b = h.high in omega (arith, a, b)

-- ---- each state

pub each-set : (Q : ℕ → ℕ → Type 0) (bs : List Bounds) (i : ℕ) (x b : Bounds) → i < length bs → x ≡ get_or bs i x → (AreBothOrNone (Q i) x → AreBothOrNone (Q i) b) → AreEachMet Q bs → AreEachMet Q (set bs i b)
each-set Q bs i x b lt at new all k d l = by (nat_eq k i) refl
  where
    by : (c : Bool) → nat_eq k i ≡ c → AreBothOrNone (Q k) (get_or (set bs i b) k d)
    by true e =
        let q : k ≡ i = grind (arith, nat_tests, e) in
        subst (λ (z : Bounds). AreBothOrNone (Q k) z) (sym (get_or-set_at bs i k b d q lt)) (subst (λ (j : ℕ). AreBothOrNone (Q j) b) (sym q) (new (subst (AreBothOrNone (Q i)) (sym at) (all i x lt))))
    by false e = let long = length-set bs i b in subst (λ (z : Bounds). AreBothOrNone (Q k) z) (sym (get_or-set_other bs i k b d (not-same k i e))) (all k d (omega (arith, l, long)))

pub nothing-met : (Q : ℕ → ℕ → Type 0) (n : ℕ) (bs : List Bounds) → bs ≡ replicate n no_bounds → AreEachMet Q bs
nothing-met Q n bs e k d l = let long : length bs ≡ n = ap (length {A = Bounds}) e ∙ length-replicate n no_bounds in inl (ap (λ (z : List Bounds). get_or z k d) e ∙ get_or-replicate n k no_bounds d (omega (arith, l, long)))

-- ---- each outcome

pub so-far-push : (o : Orders) (s : Setup) (os : List Outcome) (cs ds : List Calls) (c : Calls) → ds ≡ cs ++ c ∷ [] → ((outcome : Outcome) → AreEachMet (ComesWith o s outcome) c.bounds.items) → AreMetSoFar o s os cs → AreMetSoFar o s os ds
so-far-push o s os cs ds c e new all i d x l = subst (λ (z : List Calls). AreEachMet (ComesWith o s (get_or os i x)) (get_or z i d).bounds.items) (sym e) (by (nat_lt i (length cs)) refl)
  where
    by : (b : Bool) → nat_lt i (length cs) ≡ b → AreEachMet (ComesWith o s (get_or os i x)) (get_or (cs ++ c ∷ []) i d).bounds.items
    by true q =
        let lt : i < length cs = grind (arith, nat_tests, q) in
        subst (λ (z : Calls). AreEachMet (ComesWith o s (get_or os i x)) z.bounds.items) (sym (get_or_append_left cs (c ∷ []) d i lt)) (all i d x lt)
    by false q =
        let past : length cs ≤ i = grind (arith, nat_tests, q) in
        let long : length ds ≡ length cs + 1 = ap (length {A = Calls}) e ∙ length-append cs (c ∷ []) in
        subst (λ (z : Calls). AreEachMet (ComesWith o s (get_or os i x)) z.bounds.items) (sym (get_or_push cs c d i (omega (arith, past, l, long)))) (new (get_or os i x))

pub so-far-set : (o : Orders) (s : Setup) (os : List Outcome) (cs : List Calls) (i : ℕ) (x c : Calls) → i < length cs → x ≡ get_or cs i x → ((d : Outcome) → AreEachMet (ComesWith o s (get_or os i d)) x.bounds.items → AreEachMet (ComesWith o s (get_or os i d)) c.bounds.items) → AreMetSoFar o s os cs → AreMetSoFar o s os (set cs i c)
so-far-set o s os cs i x c lt at new all j e d l = by (nat_eq j i) refl
  where
    by : (b : Bool) → nat_eq j i ≡ b → AreEachMet (ComesWith o s (get_or os j d)) (get_or (set cs i c) j e).bounds.items
    by true q =
        let same : j ≡ i = grind (arith, nat_tests, q) in
        let here : AreEachMet (ComesWith o s (get_or os i d)) c.bounds.items = new d (subst (λ (z : Calls). AreEachMet (ComesWith o s (get_or os i d)) z.bounds.items) (sym at) (all i x d lt)) in
        subst (λ (z : Calls). AreEachMet (ComesWith o s (get_or os j d)) z.bounds.items) (sym (get_or-set_at cs i j c e same lt)) (subst (λ (k : ℕ). AreEachMet (ComesWith o s (get_or os k d)) c.bounds.items) (sym same) here)
    by false q = let long = length-set cs i c in subst (λ (z : Calls). AreEachMet (ComesWith o s (get_or os j d)) z.bounds.items) (sym (get_or-set_other cs i j c e (not-same j i q))) (all j e d (omega (arith, l, long)))

-- ---- so all come in orders, once each order is counted

bounds-met : (o : Orders) (s : Setup) (states : ℕ) (os : List Outcome) (cs : List Calls) (outcome : Outcome) (counts : List ℕ) → AreMetSoFar o s os cs → IsCounted states os cs outcome counts → AreBoundsMet o s states os cs outcome
bounds-met o s states os cs outcome counts far h = record { number = h.number; there = h.there; outcome_is = h.outcome; met = met }
  where
    met : (d : Calls) (k : ℕ) (b : Bounds) → k < states → AreBoth (ComesWith o s outcome k) (get_or (get_or cs h.number d).bounds.items k b)
    met d k b lt = by (nat_lt k (length bs)) refl
      where
        bs : List Bounds
        bs = (get_or cs h.number d).bounds.items

        both : AreBothOrNone (ComesWith o s outcome k) (get_or bs k b) → AreBoth (ComesWith o s outcome k) (get_or bs k b)
        both (inl none) = absurd (none-in (slice_index counts k) (subst (λ (z : Bounds). IsIn z (slice_index counts k)) none (h.within d k b lt)))
        both (inr x) = x

        here : AreEachMet (ComesWith o s outcome) bs
        here = subst (λ (z : Outcome). AreEachMet (ComesWith o s z) bs) (h.outcome outcome) (far h.number d outcome h.counted)

        by : (c : Bool) → nat_lt k (length bs) ≡ c → AreBoth (ComesWith o s outcome k) (get_or bs k b)
        by true e = both (here k b (grind (arith, nat_tests, e)))
        by false e =
            let past : length bs ≤ k = grind (arith, nat_tests, e) in
            absurd (none-in (slice_index counts k) (subst (λ (z : Bounds). IsIn z (slice_index counts k)) (get_or_past bs k no_bounds past) (h.within d k no_bounds lt)))

pub all-bounds-met : (o : Orders) (s : Setup) (os : List Outcome) (cs : List Calls) → AreMetSoFar o s os cs → AreCounted o s os cs → AreAllBoundsMet o s os cs
all-bounds-met o s os cs far counted ps tried over =
    let w = after_order s (opening s) ps in
    bounds-met o s (state_count s.machine) os cs w.outcome w.counts far (counted ps tried over)

-- one outcome more
pub bounds-later : (o : Orders) (s : Setup) (ws vs : List World) (os us : List Outcome) (cs : List Calls) → IsLater ws os vs us → AreAllBoundsMet o s os cs → AreAllBoundsMet o s us cs
bounds-later o s ws vs os us cs l h ps tried over =
    let x = h ps tried over in
    record {
      number = x.number;
      there = let lt = x.there in omega (arith, lt, ap (length {A = Outcome}) l.outcomes, length-append os l.more_outcomes);
      outcome_is = λ d. ap (λ (xs : List Outcome). get_or xs x.number d) l.outcomes ∙ get_or_append_left os l.more_outcomes d x.number x.there ∙ x.outcome_is d;
      met = x.met;
    }

-- ---- an end of a reached world

-- the step was taken, since it ends the execution
taken-so : (s : Setup) (w : World) (p : List ℕ) (t : ℕ) → is_over w.outcome ≡ false → is_over (step s w p t).outcome ≡ true → refusal_in s w p t ≡ None
taken-so s w p t runs over = by (refusal_in s w p t) refl
  where
    by : (o : Option Refusal) → refusal_in s w p t ≡ o → refusal_in s w p t ≡ None
    by None e = e
    by (Some f) e = let x : true ≡ false = sym over ∙ ap (λ (z : World). is_over z.outcome) (step_refused s w p t (ap is_none e)) ∙ runs in absurd (cc)

pub end-comes : (o : Orders) (s : Setup) (w : World) (turns : List Earliest) (k : ℕ) (d : Earliest) (bound : Option ℕ) → IsReached o s (bare w) → is_over w.outcome ≡ false → turns ≡ earliest w.last w.branches → k < length turns → (o ≡ Every) ⊎ (is_some bound ≡ true) → IfSome bound (IsLeast s (bare w)) → is_beyond bound (get_or turns k d).moment ≡ false
    → ComesInOrders o s (step s (bare w) (get_or turns k d).place (get_or turns k d).moment)
end-comes o s w turns k d bound h runs et lt known least inside over n =
    let x = turn-reached o s w (get_or turns k d) bound h (turn-is o s w turns k d h et lt) known least inside (taken-so s (bare w) (get_or turns k d).place (get_or turns k d).moment runs over) in
    record {
      places = x.places;
      tried = x.tried;
      ends = ap (λ (z : World). z.outcome) x.leads;
      times = ap (λ (z : World). slice_index z.counts n) x.leads;
    }
