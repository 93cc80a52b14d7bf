-- What is picked can be done.
use Rattle.std.proofs.Common.{ℕ, ◌≡◌, ◌≤◌, ◌<◌, ◌⊎◌, inl, inr, Bool, true, false, List, [], ◌∷◌, refl, sym, ◌∙◌, ap, arith, cond, length, max, min, Some, None}
use Rattle.std.specs.Prelude.{nat_lt, nat_le, is_none, Option}
use Rattle.std.proofs.lemmas.Bool.Decides.{nat_tests}
use Rattle.asl_step.specs.declared.record.Record.{Record}
use Rattle.asl_step.specs.declared.record.Record.TheVariants.{New, Ready, Pausing, Again, Forked, Done, Failed}
use Rattle.asl_run_branches.specs.Branches.{Branch, record_at, children_at, forker_at, is_stopped, is_busy}
use Rattle.asl_run_branches.specs.Trees.{Family, branches_of}
use Rattle.asl_run_branches.specs.Turns.{Limits, limit_of, is_crowded}
use Rattle.asl_run_state.specs.declared.refusal.Refusal.{Refusal}
use Rattle.asl_run_state.specs.declared.refusal.Refusal.TheVariants as refusal
use Rattle.asl_run_state.specs.World.{World, is_over, is_late}
use Rattle.asl_run_state.specs.Refusals.{refusal_if_full, refusal_before, refusal_by, refusal_at, refusal_of}
use Rattle.asl_run_state.specs.Picking.{refusal_with, first_of, first_at, awaited_by, lesser, least_of, Pick, Ended, Filled, Place, Moment, pick_of, pick, CanBeDone}
use Rattle.asl_run_state.proofs.Picks.{full-is, late-accepts, late-first}

free-by : (limits : Limits) (w : World) (t : ℕ) (p q : List ℕ) (rest : Option (List ℕ)) (o : Option Refusal) → refusal_with limits w q t ≡ o → cond (is_none o) (Some q) rest ≡ Some p → (rest ≡ Some p → refusal_with limits w p t ≡ None) → refusal_with limits w p t ≡ None
free-by limits w t p q rest None e h more = let same : q ≡ p = cc in rw (← same) e
free-by limits w t p q rest (Some r) e h more = more h

free-is : (limits : Limits) (w : World) (t : ℕ) (p : List ℕ) (bs : List Branch) → first_of limits w t bs ≡ Some p → refusal_with limits w p t ≡ None
free-is limits w t p [] h = (cc)
free-is limits w t p (b ∷ bs) h = free-by limits w t p b.place (first_of limits w t bs) (refusal_with limits w b.place t) refl h (free-is limits w t p bs)

-- a place is refused now only since it waits until u
record IsWaiting (limits : Limits) (w : World) (u : ℕ) : Type 0 where
  place : List ℕ
  waits : refusal_with limits w place w.last ≡ Some (refusal.NotYet u)

awaits-not-yet : (o : Option Refusal) (u : ℕ) → awaited_by o ≡ Some u → o ≡ Some (refusal.NotYet u)
awaits-not-yet None u h = (cc)
awaits-not-yet (Some refusal.Over) u h = (cc)
awaits-not-yet (Some refusal.NoSuchPlace) u h = (cc)
awaits-not-yet (Some refusal.Stopped) u h = (cc)
awaits-not-yet (Some refusal.Finished) u h = (cc)
awaits-not-yet (Some refusal.Busy) u h = (cc)
awaits-not-yet (Some refusal.Slots) u h = (cc)
awaits-not-yet (Some (refusal.NotYet v)) u h = let e : v ≡ u = cc in rw e refl
awaits-not-yet (Some refusal.HistoryFull) u h = (cc)
awaits-not-yet (Some refusal.OutOfMemory) u h = (cc)

-- the lesser of two moments is one of them
lesser-is : (a b : Option ℕ) (u : ℕ) → lesser a b ≡ Some u → (a ≡ Some u) ⊎ (b ≡ Some u)
lesser-is None b u h = inr h
lesser-is (Some m) None u h = inl h
lesser-is (Some m) (Some n) u h = by (nat_lt m n) refl
  where
    by : (c : Bool) → nat_lt m n ≡ c → (Some m ≡ Some u) ⊎ (Some n ≡ Some u)
    by true e = let q : min m n ≡ m = grind (arith, nat_tests, e) in inl (ap Some (sym q) ∙ h)
    by false e = let q : min m n ≡ n = grind (arith, nat_tests, e) in inr (ap Some (sym q) ∙ h)

waits-of : (limits : Limits) (w : World) (bs : List Branch) (u : ℕ) → least_of limits w bs ≡ Some u → IsWaiting limits w u
waits-of limits w [] u h = (cc)
waits-of limits w (b ∷ bs) u h = elim (lesser-is (awaited_by (refusal_with limits w b.place w.last)) (least_of limits w bs) u h) [
  | inl x ↦ record { place = b.place; waits = awaits-not-yet (refusal_with limits w b.place w.last) u x }
  | inr x ↦ waits-of limits w bs u x
]

-- what waits until u may step at u
not-full : (w : World) (u : ℕ) → nat_lt 24992 (length w.events) ≡ false → refusal_if_full w ≡ Some (refusal.NotYet u) → ⊥
not-full w u room h = let x : None ≡ Some (refusal.NotYet u) = sym (full-is w room) ∙ h in (cc)

until-is : (w : World) (until now u : ℕ) (c : Bool) → nat_lt now until ≡ c → nat_lt 24992 (length w.events) ≡ false → refusal_before until now w ≡ Some (refusal.NotYet u) → (until ≡ u) × (now < u)
until-is w until now u true e room h = let same : until ≡ u = let x : Some (refusal.NotYet until) ≡ Some (refusal.NotYet u) = rw e at h in cc in (same, (let l : now < until = grind (arith, nat_tests, e) in rw (← same) l))
until-is w until now u false e room h = absurd (not-full w u room (rw e at h))

then-open : (w : World) (a u : ℕ) → nat_lt 24992 (length w.events) ≡ false → refusal_before u (max a u) w ≡ None
then-open w a u room = let e : nat_lt (max a u) u ≡ false = grind (arith, nat_tests) in rw e (full-is w room)

record Later (w : World) (p : List ℕ) (now limit u : ℕ) (r : Record) : Type 0 where
  later : now < u
  free : refusal_by w p (max now u) limit r ≡ None

not-unless : (w : World) (u : ℕ) (c : Bool) (r : Refusal) → nat_lt 24992 (length w.events) ≡ false → awaited_by (Some r) ≡ None → cond c (Some r) (refusal_if_full w) ≡ Some (refusal.NotYet u) → ⊥
not-unless w u true r room a h = let x : None ≡ Some u = sym a ∙ ap awaited_by h in (cc)
not-unless w u false r room a h = not-full w u room h

later-by : (w : World) (p : List ℕ) (now limit u : ℕ) (r : Record) → nat_lt 24992 (length w.events) ≡ false → refusal_by w p now limit r ≡ Some (refusal.NotYet u) → Later w p now limit u r
later-by w p now limit u (New n x) room h = absurd (not-unless w u (is_crowded limit p w.branches) _ room refl h)
later-by w p now limit u (Ready n x) room h = absurd (not-full w u room h)
later-by w p now limit u (Pausing n x since until) room h = let k = until-is w until now u (nat_lt now until) refl room h in record { later = k.1; free = rw k.0 (then-open w now u room) }
later-by w p now limit u (Again n x since uses until) room h = let k = until-is w until now u (nat_lt now until) refl room h in record { later = k.1; free = rw k.0 (then-open w now u room) }
later-by w p now limit u (Forked n x since uses items) room h = absurd (not-unless w u (is_busy (children_at p w.branches)) _ room refl h)
later-by w p now limit u (Done x) room h = (cc)
later-by w p now limit u (Failed e) room h = (cc)

later-at : (w : World) (p : List ℕ) (now limit u : ℕ) (o : Option Record) → nat_lt 24992 (length w.events) ≡ false → refusal_at w p now limit o ≡ Some (refusal.NotYet u) → (now < u) × (refusal_at w p (max now u) limit o ≡ None)
later-at w p now limit u None room h = ((cc), (cc))
later-at w p now limit u (Some r) room h = by (is_stopped p w.branches) refl
  where
    by : (s : Bool) → is_stopped p w.branches ≡ s → (now < u) × (refusal_at w p (max now u) limit (Some r) ≡ None)
    by true e = let x : Some refusal.Stopped ≡ Some (refusal.NotYet u) = rw e at h in ((cc), (cc))
    by false e = let k = later-by w p now limit u r room (rw e at h) in (k.later, rw e k.free)

-- a world in which branches may step at the last moment
record Goes (w : World) : Type 0 where
  running : is_over w.outcome ≡ false
  early : is_late (max w.last w.last) w.deadline ≡ false
  room : nat_lt 24992 (length w.events) ≡ false

same-max : (a u : ℕ) → max (max a a) u ≡ max a u
same-max a u = omega arith

at-last : (limits : Limits) (w : World) (p : List ℕ) (o : Option Refusal) → Goes w → refusal_with limits w p w.last ≡ o → refusal_at w p (max w.last w.last) (limit_of limits (forker_at p w.branches)) (record_at p w.branches) ≡ o
unfolding refusal_of
at-last limits w p o g h = rw (g.running, g.early) at h

free-at : (limits : Limits) (w : World) (p : List ℕ) (u : ℕ) → Goes w → refusal_at w p (max w.last u) (limit_of limits (forker_at p w.branches)) (record_at p w.branches) ≡ None → refusal_with limits w p u ≡ None
unfolding refusal_of
free-at limits w p u g h = by (is_late (max w.last u) w.deadline) refl
  where
    by : (c : Bool) → is_late (max w.last u) w.deadline ≡ c → refusal_with limits w p u ≡ None
    by true e = rw (g.running, e) refl
    by false e = rw (g.running, e) h

later-of : (limits : Limits) (w : World) (p : List ℕ) (u : ℕ) → Goes w → refusal_with limits w p w.last ≡ Some (refusal.NotYet u) → (w.last < u) × (refusal_with limits w p u ≡ None)
later-of limits w p u g h =
    let k = later-at w p (max w.last w.last) (limit_of limits (forker_at p w.branches)) u (record_at p w.branches) g.room (at-last limits w p (Some (refusal.NotYet u)) g h) in
    let l : w.last < u = omega (arith, k.0) in
    (l, free-at limits w p u g (rw (same-max w.last u) at k.1))

-- at the moment at which its time is over, a step at any place is accepted
over-at : (limits : Limits) (w : World) (u : ℕ) → Goes w → w.deadline ≡ Some u → (w.last < u) × (refusal_with limits w [] u ≡ None)
over-at limits w u g d =
    let e : nat_le u (max w.last w.last) ≡ false = rw d at g.early in
    let late : is_late (max w.last u) w.deadline ≡ true = rw d (grind (arith, nat_tests)) in
    (grind (arith, nat_tests, e), late-accepts limits w [] u g.running late)

moment-done : (limits : Limits) (w : World) (u : ℕ) → Goes w → lesser (least_of limits w w.branches) w.deadline ≡ Some u → CanBeDone limits w (Moment u)
moment-done limits w u g h = elim (lesser-is (least_of limits w w.branches) w.deadline u h) [
  | inl x ↦ let k = waits-of limits w w.branches u x in let l = later-of limits w k.place u g k.waits in (l.0, (k.place, l.1))
  | inr x ↦ let l = over-at limits w u g x in (l.0, ([], l.1))
]

-- where no place may step, its time isn't over
in-time : (limits : Limits) (w : World) (f : Family) (c : Bool) → branches_of f ≡ w.branches → is_over w.outcome ≡ false → first_at limits w w.last ≡ None → is_late (max w.last w.last) w.deadline ≡ c → c ≡ false
in-time limits w f true e o n l = let x : Some [] ≡ None = sym (late-first limits w w.last f e o l) ∙ n in (cc)
in-time limits w f false e o n l = refl

-- a world in which, where no place may step, its time isn't over
abbrev pub IsEarly : Limits → World → Type 0
IsEarly limits w = first_at limits w w.last ≡ None → is_late (max w.last w.last) w.deadline ≡ false

pub early-at-root : (limits : Limits) (w : World) (f : Family) → branches_of f ≡ w.branches → is_over w.outcome ≡ false → IsEarly limits w
early-at-root limits w f e o n = in-time limits w f (is_late (max w.last w.last) w.deadline) e o n refl

picked-done : (limits : Limits) (w : World) (first : Option (List ℕ)) (least : Option ℕ) → IsEarly limits w → is_over w.outcome ≡ false → nat_lt 24992 (length w.events) ≡ false
    → first_at limits w w.last ≡ first → lesser (least_of limits w w.branches) w.deadline ≡ least → (pick_of first least ≡ Ended → is_over w.outcome ≡ true) → CanBeDone limits w (pick_of first least)
picked-done limits w (Some p) least early o room hf hl ends = free-is limits w w.last p w.branches hf
picked-done limits w None (Some u) early o room hf hl ends = moment-done limits w u (record { running = o; early = early hf; room = room }) hl
picked-done limits w None None early o room hf hl ends = ends refl

pick-done : (limits : Limits) (w : World) → IsEarly limits w → (pick limits w ≡ Ended → is_over w.outcome ≡ true) → CanBeDone limits w (pick limits w)
pick-done limits w early ends = by (is_over w.outcome) (nat_lt 24992 (length w.events)) refl refl
  where
    by : (c d : Bool) → is_over w.outcome ≡ c → nat_lt 24992 (length w.events) ≡ d → CanBeDone limits w (pick limits w)
    by true d ec ed = rw ec ec
    by false true ec ed = rw (ec, ed) ed
    by false false ec ed = rw (ec, ed) (picked-done limits w (first_at limits w w.last) (lesser (least_of limits w w.branches) w.deadline) early ec ed refl refl (λ h. ends (rw (ec, ed) h)))

-- so what is answered can be, where it doesn't say of an execution that runs that it is over
pub can : (limits : Limits) (w : World) (q : Pick) → IsEarly limits w → q ≡ pick limits w → (q ≡ Ended → is_over w.outcome ≡ true) → CanBeDone limits w q
can limits w q early is ends = rw is (pick-done limits w early (λ h. ends (is ∙ h)))
