-- Of the first worlds of a search enough steps were taken.
use Rattle.std.proofs.Common.{ℕ, ◌≡◌, ◌<◌, ◌≤◌, ◌+◌, inl, inr, ◌∙◌, sym, refl, subst, arith, Bool, true, false, List, length, get_or}
use Rattle.std.specs.Prelude.{nat_lt}
use Rattle.std.specs.List.{AllWithin, HoldsAt}
use Rattle.std.proofs.lemmas.List.Elements.{AllWithin-more}
use Rattle.std.proofs.lemmas.Bool.Decides.{nat_tests}
use Rattle.asl_run_state.specs.World.{World}
use Rattle.asl_run_state.specs.declared.outcome.Outcome.{Outcome}
use Rattle.asl_run_input.specs.declared.setup.Setup.{Setup}
use Rattle.asl_exec.specs.Steps.{step, opening}
use Rattle.asl_explore.specs.Orders.{due, IsWhole}
use Rattle.asl_explore.specs.declared.orders.Orders.{Orders}
use Rattle.asl_explore.specs.Searches.{IsMet, IsExpanded, IsTakenOn, AreTakenOn, IsLater}
use Rattle.asl_explore.proofs.Growing.{met-later, later-at, later-length}
use Rattle.asl_explore.proofs.Reduced.{taken-whole}

-- they stay enough as it goes on
taken-later : (o : Orders) (s : Setup) (ws vs : List World) (os us : List Outcome) (i : ℕ) (w : World) → IsLater ws os vs us → IsTakenOn o s ws os i w → IsTakenOn o s vs us i w
taken-later o s ws vs os us i w l (inl x) = inl (λ p tried. met-later ws vs os us (step s w p (due w p)) l (x p tried))
taken-later o s ws vs os us i w l (inr x) =
    let r = x.1 in
    let le = later-length ws vs os us l in
    let within = r.leads.0 in
    inr (
      x.0,
      record {
        place = r.place;
        quiet = r.quiet;
        next = r.next;
        later = r.later;
        leads = (omega (arith, within, le), λ d. later-at ws vs os us r.next d l within ∙ r.leads.1 d);
      },
    )

pub taken-more : (o : Orders) (s z : Setup) (ws vs : List World) (os us : List Outcome) (n : ℕ) → z ≡ s → IsLater ws os vs us → n ≤ length ws → AreTakenOn o s ws os n → ((d : World) → IsTakenOn o z vs us n (get_or vs n d)) → AreTakenOn o s vs us (n + 1)
taken-more o s z ws vs os us n e l le h new i lt d = by (nat_lt i n) refl
  where
    by : (c : Bool) → nat_lt i n ≡ c → IsTakenOn o s vs us i (get_or vs i d)
    by true q =
        let before : i < n = grind (arith, nat_tests, q) in
        let same = later-at ws vs os us i d l (omega (arith, before, le)) in
        subst (IsTakenOn o s vs us i) (sym same) (taken-later o s ws vs os us i (get_or ws i d) l (h i before d))
    by false q =
        let here : n ≤ i = grind (arith, nat_tests, q) in
        let is : n ≡ i = omega (arith, here, lt) in
        subst (λ (k : ℕ). IsTakenOn o s vs us k (get_or vs k d)) is (subst (λ (x : Setup). IsTakenOn o x vs us n (get_or vs n d)) e (new d))

-- of the first worlds every step was taken
pub expanded-more : (o : Orders) (s z : Setup) (ws vs : List World) (os us : List Outcome) (n : ℕ) → z ≡ s → IsLater ws os vs us → n ≤ length ws → AllWithin (IsExpanded o s ws os) ws 0 n → HoldsAt (IsExpanded o z vs us) vs n → AllWithin (IsExpanded o s vs us) vs 0 (n + 1)
expanded-more o s z ws vs os us n e l le h new =
    AllWithin-more (IsExpanded o s vs us) vs 0 n
    (λ k d z lt p t. met-later ws vs os us (step s (get_or vs k d) p (due (get_or vs k d) p)) l (subst (λ (w : World). IsExpanded o s ws os w) (sym (later-at ws vs os us k d l (omega arith))) (h k d z lt) p t))
    (subst (λ (x : Setup). HoldsAt (IsExpanded o x vs us) vs n) e new)

pub all-whole : (o : Orders) (s : Setup) (ws : List World) (os : List Outcome) (n : ℕ) → length ws ≤ n → IsMet ws os (opening s) → AreTakenOn o s ws os n → IsWhole o s os
all-whole o s ws os n le m h = taken-whole o s ws os m (λ i l d. h i (omega (arith, l, le)) d)
