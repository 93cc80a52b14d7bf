-- What is noted of each state, world by world.
use Rattle.std.proofs.Common.{ℕ, ◌≡◌, ◌<◌, ◌≤◌, ◌+◌, ◌||◌, ◌++◌, ◌∙◌, ◌⊎◌, inl, inr, ap, sym, refl, subst, arith, cond, count_by, Bool, true, false, List, [], ◌∷◌, length, get_or, map, max, min, take, Option, Some, None, IfSome}
use Rattle.std.specs.Prelude.{is_none, nat_eq, nat_le}
use Rattle.std.specs.List.{Contains, list_any}
use Rattle.std.proofs.lemmas.Bool.{both_ways}
use Rattle.std.proofs.lemmas.Bool.Decides.{nat_tests}
use Rattle.std.proofs.lemmas.List.{map_more, map_push}
use Rattle.std.proofs.lemmas.List.Elements.{Contains-append_left, Contains-push, Contains-push_cases}
use Rattle.std.proofs.lemmas.List.Folds.{list_any-append}
use Rattle.asl_run_branches.specs.Branches.{Branch, record_at}
use Rattle.asl_step.specs.declared.record.Record.{Record}
use Rattle.asl_run_branches.specs.declared.earliest.Earliest.{Earliest}
use Rattle.asl_run_state.specs.Bare.{bare, earliest}
use Rattle.asl_run_state.specs.World.{World, count_of, is_late}
use Rattle.asl_run_input.specs.declared.setup.Setup.{Setup}
use Rattle.asl_exec.specs.Steps.{moved_on, number_in, refusal_in, step}
use Rattle.asl_exec.proofs.Accepting.{step_late, step_refused, step_taken}
use Rattle.asl_exec.proofs.Going.{does}
use Rattle.asl_explore.specs.declared.met.Node.{Node}
use Rattle.asl_explore.specs.declared.orders.Orders.{Orders}
use Rattle.asl_explore.specs.declared.seeing.Look.{Look}
use Rattle.asl_explore.specs.declared.sights.Sight.{Sight}
use Rattle.asl_explore.specs.Orders.{due}
use Rattle.asl_explore.specs.Remarks.{asked_by, asked_in, askers, asks, count_behind, enters, enters_in, greatest, stops, stops_in}
use Rattle.asl_explore.specs.Searches.{worlds_of}
use Rattle.asl_explore.specs.private.Seeing.{AreLooks, AreSeen, IsBoundOf, IsNoLess, IsSeen, IsSharedFrom, least_with, look_asks, look_behind, look_enters, look_stops, noted, with_most}
use Rattle.asl_explore.proofs.Listing.{any-like, count-like, greatest-more, greatest-push}
use Rattle.asl_explore.proofs.Steady.{count-after}

-- ---- a step raises a count by one at most

raised-once : (s : Setup) (w : World) (p : List ℕ) (now : ℕ) (n : ℕ) (o : Option Record) → count_of (moved_on s w p now o).counts (Some n) ≤ count_of w.counts (Some n) + 1
raised-once s w p now n None = omega arith
raised-once s w p now n (Some r) = by (count-after (number_in s.machine r) (Some n) (does s w p now r).raises w.counts)
  where
    by : (count_of (moved_on s w p now (Some r)).counts (Some n) ≡ count_of w.counts (Some n)) ⊎ (((does s w p now r).raises ≡ true) × (count_of (moved_on s w p now (Some r)).counts (Some n) ≡ count_of w.counts (Some n) + 1)) → count_of (moved_on s w p now (Some r)).counts (Some n) ≤ count_of w.counts (Some n) + 1
    by (inl e) = omega (arith, e)
    by (inr e) = let g = e.1 in omega (arith, g)

none-is : {A : Type 0} (o : Option A) → is_none o ≡ true → o ≡ None
none-is None e = refl
none-is (Some x) e = (cc)

step-once : (s : Setup) (w : World) (p : List ℕ) (t n : ℕ) → count_of (step s w p t).counts (Some n) ≤ count_of w.counts (Some n) + 1
step-once s w p t n = by (is_none (refusal_in s w p t)) refl
  where
    Small : World → Type 0
    Small v = count_of v.counts (Some n) ≤ count_of w.counts (Some n) + 1

    taken : (b : Bool) → is_late (max w.last t) w.deadline ≡ b → refusal_in s w p t ≡ None → Small (step s w p t)
    taken true l e = subst Small (sym (step_late s w p t e l)) (omega arith)
    taken false l e = subst Small (sym (step_taken s w p t e l)) (raised-once s w p (max w.last t) n (record_at p w.branches))

    by : (b : Bool) → is_none (refusal_in s w p t) ≡ b → Small (step s w p t)
    by true e = taken (is_late (max w.last t) w.deadline) refl (none-is (refusal_in s w p t) e)
    by false e = subst Small (sym (step_refused s w p t e)) (omega arith)

pub behind-once : (s : Setup) (w : World) (n : ℕ) (p : List ℕ) → count_behind s w n p ≤ count_of w.counts (Some n) + 1
behind-once s w n p = step-once s w p (due w p) n

-- ---- the most

pub most-zero : (x : Sight) → x ≡ with_most 0 x
most-zero x = let e : x.most ≡ max x.most 0 = omega arith in λ i. record x { most = e i }

most-small : (n : ℕ) (x : Sight) → n ≤ x.most → x ≡ with_most n x
most-small n x l = let e : x.most ≡ max x.most n = omega (arith, l) in λ i. record x { most = e i }

most-twice : (a b : ℕ) (x : Sight) → with_most b (with_most a x) ≡ with_most (max a b) x
most-twice a b x = let e : max (max x.most a) b ≡ max x.most (max a b) = omega arith in λ i. record x { most = e i }

-- nothing is to be raised
pub ask-kept : (number behind : ℕ) (xs : List Sight) → ((d : Sight) → number < length xs → behind ≤ (get_or xs number d).most) → (n : ℕ) (d : Sight) → n < length xs → get_or xs n d ≡ with_most (cond (nat_eq n number) behind 0) (get_or xs n d)
ask-kept number behind xs small n d l = by (nat_eq n number) refl
  where
    by : (c : Bool) → nat_eq n number ≡ c → get_or xs n d ≡ with_most (cond c behind 0) (get_or xs n d)
    by true e =
        let same : n ≡ number = grind (arith, nat_tests, e) in
        most-small behind (get_or xs n d) (subst (λ k. behind ≤ (get_or xs k d).most) (sym same) (small d (omega (arith, same, l))))
    by false e = most-zero (get_or xs n d)

-- one branch more
pub most-more : (o : Orders) (s z : Setup) (w : World) (n i : ℕ) (b : Branch) (p : List ℕ) (l : Option Look) (x y v : Sight) → z ≡ s → i < length w.branches → (get_or w.branches i b).place ≡ p → look_asks n l ≡ asks o s w n (get_or w.branches i b).place
    → y ≡ with_most (greatest (map (asked_by o s n w) (take i w.branches))) x → v ≡ with_most (look_behind z w p n l) y → v ≡ with_most (greatest (map (asked_by o s n w) (take (i + 1) w.branches))) x
most-more o s z w n i b p l x y v ez lt at same is more =
    more ∙ (λ j. with_most (look_behind (ez j) w (sym at j) n l) y) ∙ ap (with_most (look_behind s w (get_or w.branches i b).place n l)) is
    ∙ most-twice (greatest (map (asked_by o s n w) (take i w.branches))) (look_behind s w (get_or w.branches i b).place n l) x
    ∙ ap (λ c. with_most (max (greatest (map (asked_by o s n w) (take i w.branches))) (cond c (count_behind s w n (get_or w.branches i b).place) 0)) x) same
    ∙ ap (λ m. with_most m x) (sym (greatest-more (asked_by o s n w) w.branches i b lt))

-- ---- one state in one more world

module _ (o : Orders) (s : Setup) (ws : List World) (w : World) (n : ℕ) where
  earlier : (m : ℕ) → IsSharedFrom o s ws n m → IsSharedFrom o s (ws ++ w ∷ []) n m
  earlier m h = record { world = h.world; met = Contains-append_left ws (w ∷ []) h.world h.met; two = h.two; number_is = h.number_is }

  here : 2 ≤ askers o s n w → IsSharedFrom o s (ws ++ w ∷ []) n (count_of w.counts (Some n))
  here two = record { world = w; met = Contains-push ws w; two = two; number_is = refl }

  earlier-any : (a : Option ℕ) → IfSome a (IsSharedFrom o s ws n) → IfSome a (IsSharedFrom o s (ws ++ w ∷ []) n)
  earlier-any None h = h
  earlier-any (Some m) h = earlier m h

  least-is : (a : Option ℕ) → IfSome a (IsSharedFrom o s ws n) → 2 ≤ askers o s n w → IsSharedFrom o s (ws ++ w ∷ []) n (least_with a (count_of w.counts (Some n)))
  least-is None h two = here two
  least-is (Some m) h two = by (nat_le m (count_of w.counts (Some n))) refl
    where
      by : (c : Bool) → nat_le m (count_of w.counts (Some n)) ≡ c → IsSharedFrom o s (ws ++ w ∷ []) n (min m (count_of w.counts (Some n)))
      by true e = let le : m ≤ count_of w.counts (Some n) = grind (arith, nat_tests, e) in subst (IsSharedFrom o s (ws ++ w ∷ []) n) (let q : m ≡ min m (count_of w.counts (Some n)) = omega (arith, le) in q) (earlier m h)
      by false e = let lt : count_of w.counts (Some n) < m = grind (arith, nat_tests, e) in subst (IsSharedFrom o s (ws ++ w ∷ []) n) (let q : count_of w.counts (Some n) ≡ min m (count_of w.counts (Some n)) = omega (arith, lt) in q) (here two)

  less-with : (a : Option ℕ) (k : ℕ) → IsNoLess a k → IsNoLess (Some (least_with a (count_of w.counts (Some n)))) k
  less-with None k h = let e : None ≡ Some h.0 = h.1.0 in absurd (cc)
  less-with (Some m) k h =
      let e : m ≡ h.0 = cc (h.1.0) in
      let le = h.1.1 in
      (min m (count_of w.counts (Some n)), (refl, omega (arith, e, le)))

  less-here : (a : Option ℕ) → IsNoLess (Some (least_with a (count_of w.counts (Some n)))) (count_of w.counts (Some n))
  less-here None = (count_of w.counts (Some n), (refl, omega arith))
  less-here (Some m) = (min m (count_of w.counts (Some n)), (refl, omega arith))

  -- the least number, where two branches ask now, or not
  abbrev from : Option ℕ → Bool → Option ℕ
  from a c = cond c (Some (least_with a (count_of w.counts (Some n)))) a

  shared-more : (a : Option ℕ) (c : Bool) → nat_le 2 (askers o s n w) ≡ c → IfSome a (IsSharedFrom o s ws n) → IfSome (from a c) (IsSharedFrom o s (ws ++ w ∷ []) n)
  shared-more a true e h = least-is a h (grind (arith, nat_tests, e))
  shared-more a false e h = earlier-any a h

  least-more : (a : Option ℕ) (c : Bool) → nat_le 2 (askers o s n w) ≡ c → ((v : World) → Contains ws v → 2 ≤ askers o s n v → IsNoLess a (count_of v.counts (Some n)))
      → (v : World) → Contains (ws ++ w ∷ []) v → 2 ≤ askers o s n v → IsNoLess (from a c) (count_of v.counts (Some n))
  least-more a c e h v there two = by (Contains-push_cases ws w v there) c e
    where
      by : Contains ws v ⊎ (w ≡ v) → (c : Bool) → nat_le 2 (askers o s n w) ≡ c → IsNoLess (from a c) (count_of v.counts (Some n))
      by (inl before) true q = less-with a (count_of v.counts (Some n)) (h v before two)
      by (inl before) false q = h v before two
      by (inr same) true q = subst (λ (z : World). IsNoLess (from a true) (count_of z.counts (Some n))) same (less-here a)
      by (inr same) false q =
          let enough : 2 ≤ askers o s n w = subst (λ (z : World). 2 ≤ askers o s n z) (sym same) two in
          let t : nat_le 2 (askers o s n w) ≡ true = grind (arith, nat_tests, enough) in
          absurd (both_ways (nat_le 2 (askers o s n w)) q t)

  any-more : (f : World → Bool) (b c : Bool) → b ≡ list_any f ws → c ≡ f w → (b || c) ≡ list_any f (ws ++ w ∷ [])
  any-more f b c e q = (λ i. e i || q i) ∙ ap (λ z. list_any f ws || z) (sym (or-false (f w))) ∙ sym (list_any-append f ws (w ∷ []))
    where
      or-false : (z : Bool) → (z || false) ≡ z
      or-false true = refl
      or-false false = refl

  pub seen-more : (ls : List (Option Look)) (x z : Sight) → AreLooks o s w ls → IsSeen o s ws n x → z ≡ with_most (asked_in o s n w) (noted n ls (count_of w.counts (Some n)) x) → IsSeen o s (ws ++ w ∷ []) n z
  seen-more ls x z looks h is = subst (IsSeen o s (ws ++ w ∷ []) n) (sym is) (record {
    entered = any-more (enters_in o s n) x.is_entered (list_any (look_enters n) ls) h.entered (any-like (look_enters n) (λ (b : Branch). enters o s w n b.place) ls w.branches looks.many (λ k d b l. (looks.each k b d l).enters_is n));
    cut_off = any-more (stops_in s n) x.is_cut_off (list_any (look_stops n) ls) h.cut_off (any-like (look_stops n) (λ (b : Branch). stops s w n b.place) ls w.branches looks.many (λ k d b l. (looks.each k b d l).stops_is n));
    most = ap (λ m. max m (asked_in o s n w)) h.most ∙ sym (ap greatest (map_push (asked_in o s n) ws w) ∙ greatest-push (map (asked_in o s n) ws) (asked_in o s n w));
    shared = shared-more x.shared_from (nat_le 2 (count_by (look_asks n) ls)) two h.shared;
    least = least-more x.shared_from (nat_le 2 (count_by (look_asks n) ls)) two h.least;
  })
    where
      two : nat_le 2 (askers o s n w) ≡ nat_le 2 (count_by (look_asks n) ls)
      two = ap (nat_le 2) (sym (count-like (look_asks n) (λ (b : Branch). asks o s w n b.place) ls w.branches looks.many (λ k d b l. (looks.each k b d l).asks_is n)))

-- ---- each state

-- what is noted in one world
pub all-more : (o : Orders) (s : Setup) (ws : List World) (w : World) (ls : List (Option Look)) (xs ys zs : List Sight) → AreLooks o s w ls → length ys ≡ length xs → length zs ≡ length ys
    → ((n : ℕ) (d : Sight) → n < length xs → get_or ys n d ≡ noted n ls (count_of w.counts (Some n)) (get_or xs n d))
    → ((n : ℕ) (d : Sight) → n < length ys → get_or zs n d ≡ with_most (asked_in o s n w) (get_or ys n d))
    → AreSeen o s ws xs → AreSeen o s (ws ++ w ∷ []) zs
all-more o s ws w ls xs ys zs looks ly lz notes asks h = record {
  many = lz ∙ ly ∙ h.many;
  each = λ n d l.
      let within : n < length xs = omega (arith, l, ly, lz) in
      seen-more o s ws w n ls (get_or xs n d) (get_or zs n d) looks (h.each n d within) (asks n d (omega (arith, l, lz)) ∙ ap (with_most (asked_in o s n w)) (notes n d within));
}

-- by the parts of a look at a world
pub seen-by-parts : (o : Orders) (s z : Setup) (ws : List World) (w v : World) (bound : Option ℕ) (turns first second third : List Earliest) (ls noting asking : List (Option Look)) (xs ys zs : List Sight)
    → z ≡ s → v ≡ w → turns ≡ earliest w.last w.branches → first ≡ turns → second ≡ turns → third ≡ turns → noting ≡ ls → asking ≡ ls
    → (first ≡ earliest v.last v.branches → IsBoundOf o z v bound)
    → (second ≡ earliest v.last v.branches → IsBoundOf o z v bound → AreLooks o z v ls)
    → length ys ≡ length xs → length zs ≡ length ys
    → ((n : ℕ) (d : Sight) → n < length xs → get_or ys n d ≡ noted n noting (count_of w.counts (Some n)) (get_or xs n d))
    → (third ≡ earliest w.last w.branches → AreLooks o z w asking → (n : ℕ) (d : Sight) → n < length ys → get_or zs n d ≡ with_most (asked_in o z n w) (get_or ys n d))
    → AreSeen o s ws xs → AreSeen o s (ws ++ w ∷ []) zs
seen-by-parts o s z ws w v bound turns first second third ls noting asking xs ys zs ez ev et e1 e2 e3 en ea bounds looks ly lz notes asks =
    all-more o s ws w ls xs ys zs here ly lz (λ n d l. notes n d l ∙ ap (λ ks. noted n ks (count_of w.counts (Some n)) (get_or xs n d)) en)
    (λ n d l. asks (e3 ∙ et) (subst (AreLooks o z w) (sym ea) there) n d l ∙ ap (λ (x : Setup). with_most (asked_in o x n w) (get_or ys n d)) ez)
  where
    turned : turns ≡ earliest v.last v.branches
    turned = et ∙ ap (λ (x : World). earliest x.last x.branches) (sym ev)

    there : AreLooks o z w ls
    there = subst (λ (x : World). AreLooks o z x ls) ev (looks (e2 ∙ turned) (bounds (e1 ∙ turned)))

    here : AreLooks o s w ls
    here = subst (λ (x : Setup). AreLooks o x w ls) ez there

-- the worlds so far, and one more
pub worlds-more : (ns : List Node) (i : ℕ) (n : Node) → i < length ns → n ≡ get_or ns i n → worlds_of (take (i + 1) ns) ≡ worlds_of (take i ns) ++ bare n.world ∷ []
worlds-more ns i n l at = map_more (λ (z : Node). bare z.world) ns i n l ∙ ap (λ (z : Node). worlds_of (take i ns) ++ bare z.world ∷ []) (sym at)
