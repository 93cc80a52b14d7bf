-- What is seen of the branches of a world.
use Rattle.std.proofs.Common.{ℕ, suc, zero, ◌≡◌, ◌<◌, ◌≤◌, ◌&&◌, ◌||◌, ◌++◌, ◌∙◌, ap, sym, refl, subst, arith, Bool, true, false, not, List, [], ◌∷◌, length, get_or, Option, Some, None, IfSome}
use Rattle.std.specs.Prelude.{Decides, is_none, is_some, nat_eq, nat_le, nat_lt}
use Rattle.std.specs.List.{All}
use Rattle.std.proofs.lemmas.Bool.{or_left, or_right, false_from_ne_true}
use Rattle.std.proofs.lemmas.Bool.Decides.{nat_tests}
use Rattle.std.proofs.lemmas.List.{get_or-map, get_or_append_left, get_or_push, length-append, length-map}
use Rattle.std.proofs.lemmas.List.Elements.{All-map}
use Rattle.std.proofs.lemmas.List.Sums.{AllPass-from_list_all, list_all-from_AllPass}
use Rattle.asl_json.specs.private.SameLaws.{bytes_refl}
use Rattle.asl_step.specs.Records.{beginning_with, entering_with}
use Rattle.asl_step.specs.declared.record.Record.{Record}
use Rattle.asl_run_branches.specs.Branches.{Branch, same_place, record_at, is_stopped}
use Rattle.asl_run_branches.specs.Earliest.{due_from}
use Rattle.asl_run_branches.specs.declared.earliest.Earliest.{Earliest}
use Rattle.asl_run_state.specs.Bare.{bare, earliest}
use Rattle.asl_run_state.specs.World.{World}
use Rattle.asl_run_input.specs.declared.setup.Setup.{Setup}
use Rattle.asl_exec.specs.Steps.{invokes_by, number_in, object_in, refusal_in}
use Rattle.asl_explore.specs.declared.orders.Orders.{Orders}
use Rattle.asl_explore.specs.declared.orders.Orders.TheVariants.{Every, Prompt}
use Rattle.asl_explore.specs.declared.seeing.Look.{Look}
use Rattle.asl_explore.specs.Laws.{TriedIsDecided}
use Rattle.asl_explore.specs.Orders.{due, MayStep}
use Rattle.asl_explore.specs.Remarks.{goes_next, is_asking, is_doing, is_in, is_inside, is_number, is_tried_at, may_step}
use Rattle.asl_explore.specs.Searches.{IsOpenAt, is_beyond}
use Rattle.asl_explore.specs.private.Reaching.{IsLeast, NoneMayStep}
use Rattle.asl_explore.specs.private.Seeing.{IsBoundOf, IsLook}
use Rattle.asl_explore.proofs.Whole.{there}

-- ---- the moment behind which no branch steps that is tried

first-there : (p : List ℕ) (bs : List Branch) (k : ℕ) (d : Branch) → k < length bs → same_place p (get_or bs k d).place ≡ true → is_some (record_at p bs) ≡ true
first-there p [] k d l e = absurd (omega arith)
first-there p (b ∷ bs) zero d l e = rw e refl
first-there p (b ∷ bs) (suc k) d l e = by (same_place p b.place) refl (first-there p bs k d (omega arith) e)
  where
    by : (c : Bool) → same_place p b.place ≡ c → is_some (record_at p bs) ≡ true → is_some (record_at p (b ∷ bs)) ≡ true
    by true q more = rw q refl
    by false q more = rw q more

-- each branch is at its place
present : (bs : List Branch) (k : ℕ) (d : Branch) → k < length bs → is_some (record_at (get_or bs k d).place bs) ≡ true
present bs k d l = first-there (get_or bs k d).place bs k d l (bytes_refl (get_or bs k d).place)

none-is : {A : Type 0} (o : Option A) → is_none o ≡ true → o ≡ None
none-is None e = refl
none-is (Some x) e = (cc)

module _ (s : Setup) (w : World) where
  abbrev passes : ℕ → Branch → Bool
  passes t b = not (may_step s w b.place) || nat_le t (due w b.place)

  prompt-all : (t : ℕ) → ((q : List ℕ) → MayStep s w q → t ≤ due w q) → is_tried_at Prompt s w t ≡ true
  prompt-all t h = list_all-from_AllPass (passes t) w.branches (λ k d l. by (get_or w.branches k d) (present w.branches k d l) (may_step s w (get_or w.branches k d).place) refl)
    where
      by : (b : Branch) → is_some (record_at b.place w.branches) ≡ true → (c : Bool) → may_step s w b.place ≡ c → passes t b ≡ true
      by b here true e =
          let le : t ≤ due w b.place = h b.place (here, none-is (refusal_in s w b.place (due w b.place)) e) in
          or_right (not (may_step s w b.place)) (nat_le t (due w b.place)) (grind (arith, nat_tests, le))
      by b here false e = or_left (not (may_step s w b.place)) (nat_le t (due w b.place)) (ap not e)

  -- it isn't before this moment, where it may step
  abbrev NotBefore : ℕ → Earliest → Type 0
  NotBefore t e = may_step s w e.place ≡ true → t ≤ due w e.place

  not-before : (t : ℕ) (b : Branch) → passes t b ≡ true → may_step s w b.place ≡ true → t ≤ due w b.place
  not-before t b pass may =
      let e : nat_le t (due w b.place) ≡ true = rw may at pass in
      grind (arith, nat_tests, e)

  tried-least : (t : ℕ) → is_tried_at Prompt s w t ≡ true → (q : List ℕ) → MayStep s w q → t ≤ due w q
  tried-least t h q may = so (record_at q w.branches) refl
    where
      all : All (NotBefore t) (earliest w.last w.branches)
      all = All-map (NotBefore t) (λ (b : Branch). record { place = b.place; moment = due_from w.last b.current }) w.branches
          (λ k d lt. not-before t (get_or w.branches k d) (AllPass-from_list_all (passes t) w.branches h k d lt))

      so : (r : Option Record) → record_at q w.branches ≡ r → t ≤ due w q
      so None e = let x : false ≡ true = ap is_some (sym e) ∙ may.0 in absurd (cc)
      so (Some r) e = there w.last q w.branches r (NotBefore t) all e (ap is_none may.1)

  prompt-none : (t m : ℕ) → IsOpenAt s w m → m < t → is_tried_at Prompt s w t ≡ false
  prompt-none t m o l = false_from_ne_true (is_tried_at Prompt s w t) (λ h.
      let le = tried-least t h o.place o.may in
      let is = o.due_is in
      omega (arith, le, is, l))

  -- that a step is tried is decided
  prompt-decided : (p : List ℕ) → MayStep s w p → Decides (is_tried_at Prompt s w (due w p)) (MayStep s w p × ((q : List ℕ) → MayStep s w q → due w p ≤ due w q))
  prompt-decided p may = (λ h. (may, tried-least (due w p) h), λ h. prompt-all (due w p) h.1)

  pub prompt-bound : (b : Option ℕ) → IfSome b (IsOpenAt s w) → IfSome b (IsLeast s w) → (is_none b ≡ true → NoneMayStep s w) → IsBoundOf Prompt s w b
  prompt-bound None o least none t = sym (ap not (prompt-all t (λ q may. absurd (none refl q may))))
  prompt-bound (Some m) o least none t = by (nat_lt m t) refl
    where
      by : (c : Bool) → nat_lt m t ≡ c → nat_lt m t ≡ not (is_tried_at Prompt s w t)
      by true e = e ∙ sym (ap not (prompt-none t m o (grind (arith, nat_tests, e))))
      by false e =
          let g : t ≤ m = grind (arith, nat_tests, e) in
          e ∙ sym (ap not (prompt-all t (λ q may. let le = least q may in omega (arith, g, le))))

pub tried-decided : TriedIsDecided
tried-decided Every s w p may = (λ _. tt, λ _. refl)
tried-decided Prompt s w p may = prompt-decided s (bare w) p may

-- ---- whether the branch at a place steps next

module _ (o : Orders) (s : Setup) (w : World) (p : List ℕ) (bound : Option ℕ) (t : ℕ) (at : t ≡ due w p) (h : IsBoundOf o s w bound) where
  tried : (c : Bool) → is_beyond bound t ≡ c → c ≡ not (is_tried_at o s w (due w p))
  tried c e = sym e ∙ ap (is_beyond bound) at ∙ h (due w p)

-- ---- what it does next

module _ (o : Orders) (s : Setup) (w : World) (p : List ℕ) where
  pub look-is : (r : Record) (l : Look) → record_at p w.branches ≡ Some r → number_in s.machine r ≡ Some l.number
      → l.enters ≡ (goes_next o s w p && is_some (entering_with r))
      → l.asks ≡ (goes_next o s w p && (is_some (beginning_with r) && invokes_by (object_in s.machine r)))
      → l.stops ≡ (is_stopped p w.branches && is_inside r) → IsLook o s w p (Some l)
  look-is r l e f enters asks stops = record {
    enters_is = λ n. by n l.enters (λ z. goes_next o s w p && is_some (entering_with z)) enters;
    asks_is = λ n. by n l.asks (λ z. goes_next o s w p && is_asking s z) asks;
    stops_is = λ n. by n l.stops (λ z. is_stopped p w.branches && is_inside z) stops;
  }
    where
      by : (n : ℕ) (b : Bool) (F : Record → Bool) → b ≡ F r → (nat_eq n l.number && b) ≡ is_doing (λ z. is_in s n z && F z) (record_at p w.branches)
      by n b F is = ap (λ c. nat_eq n l.number && c) is ∙ sym (ap (λ q. is_number n q && F r) f) ∙ sym (ap (is_doing (λ z. is_in s n z && F z)) e)

-- ---- each branch in its turn

pub turn-place : (last : ℕ) (bs : List Branch) (turns : List Earliest) (i : ℕ) (turn : Earliest) (b : Branch) → turns ≡ earliest last bs → i < length turns → turn ≡ get_or turns i turn → (get_or bs i b).place ≡ turn.place
turn-place last bs turns i turn b et l at =
    let long : length turns ≡ length bs = ap (length {A = Earliest}) et ∙ length-map bs (λ (c : Branch). record { place = c.place; moment = due_from last c.current }) in
    sym (ap (λ (e : Earliest). e.place) (at ∙ ap (λ (xs : List Earliest). get_or xs i turn) et ∙ get_or-map (λ (c : Branch). record { place = c.place; moment = due_from last c.current }) bs i b turn (omega (arith, l, long))))

-- so far each is what the branch of its number does next
abbrev pub AreLooksTo : Orders → Setup → World → List (Option Look) → Type 0
AreLooksTo o s w ls = (k : ℕ) (b : Branch) (d : Option Look) → k < length ls → IsLook o s w (get_or w.branches k b).place (get_or ls k d)

pub looks-more : (o : Orders) (s : Setup) (w : World) (ls : List (Option Look)) (i : ℕ) (p : List ℕ) (l : Option Look) → length ls ≡ i → ((b : Branch) → (get_or w.branches i b).place ≡ p) → IsLook o s w p l → AreLooksTo o s w ls → AreLooksTo o s w (ls ++ l ∷ [])
looks-more o s w ls i p l many at is h k b d lt = by (nat_lt k i) refl
  where
    by : (c : Bool) → nat_lt k i ≡ c → IsLook o s w (get_or w.branches k b).place (get_or (ls ++ l ∷ []) k d)
    by true e =
        let inside : k < length ls = let g : k < i = grind (arith, nat_tests, e) in omega (arith, g, many) in
        subst (IsLook o s w (get_or w.branches k b).place) (sym (get_or_append_left ls (l ∷ []) d k inside)) (h k b d inside)
    by false e =
        let long = length-append ls (l ∷ []) in
        let same : k ≡ i = let g : i ≤ k = grind (arith, nat_tests, e) in omega (arith, g, lt, long, many) in
        subst (IsLook o s w (get_or w.branches k b).place) (sym (get_or_push ls l d k (many ∙ sym same)))
        (subst (λ q. IsLook o s w q l) (sym (ap (λ j. (get_or w.branches j b).place) same ∙ at b)) is)
