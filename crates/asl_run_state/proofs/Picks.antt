-- What comes next is what the turns of the branches say.
use Rattle.std.proofs.Common.{ℕ, ◌≡◌, ◌≤◌, ◌<◌, ◌&&◌, Bool, true, false, not, List, [], ◌∷◌, refl, sym, ◌∙◌, ap, subst, arith, cond, length, map, max, min, Some, None}
use Rattle.std.specs.Prelude.{nat_lt, is_none, Option, option_map, if◌then◌else◌}
use Rattle.std.proofs.lemmas.Bool.Decides.{nat_tests}
use Rattle.asl_step.specs.declared.record.Record.{Record}
use Rattle.asl_step.specs.declared.record.Record.TheVariants.{New, Ready, Pausing, Again, Forked, Done, Failed}
use Rattle.asl_run_branches.specs.Branches.{Branch, record_at, children_at, forker_at, is_stopped, is_busy}
use Rattle.asl_run_branches.specs.Trees.{Family, Node, Spot, branch_of, branches_of, node_of, nodes_of, ArePlaced}
use Rattle.asl_run_branches.specs.Turns.{Limits, limit_of, is_crowded, due_by, due_of, due_at, Due, dues_of, dues_among, Turn, sooner, turn_at, soonest}
use Rattle.asl_run_branches.proofs.Turning.{IsLate, late-soonest, now-first, none-sooner}
use Rattle.asl_run_state.specs.declared.refusal.Refusal.{Refusal}
use Rattle.asl_run_state.specs.declared.refusal.Refusal.TheVariants as refusal
use Rattle.asl_run_state.specs.World.{World, is_over, is_late}
use Rattle.asl_run_state.specs.Refusals.{refusal_if_full, refusal_before, refusal_by, refusal_at, refusal_of}
use Rattle.asl_run_state.specs.Picking.{refusal_with, first_of, first_at, awaited_by, lesser, least_of, Pick, Ended, Filled, Place, Moment, pick_of, pick, CanBeDone}
use Rattle.asl_run_state.proofs.Accepting.{accepted-room}

-- ---- each branch is seen at its place

spots-placed : (limits : Limits) (bs : List Branch) (ss : List Spot) → ArePlaced (map node_of ss)
    → map {B = Due} (λ (n : Node). (n.held.place, due_at limits bs n.place)) (map node_of ss) ≡ map {B = Due} (λ (b : Branch). (b.place, due_at limits bs b.place)) (map branch_of ss)
spots-placed limits bs [] a = refl
spots-placed limits bs (s ∷ ss) a = λ i. let d : Due = (a.0 i, due_at limits bs (s.number ∷ s.deeper)) in d ∷ spots-placed limits bs ss a.1 i

pub dues-placed : (limits : Limits) (f : Family) → ArePlaced (nodes_of f) → dues_of limits f ≡ dues_among limits (branches_of f)
dues-placed limits f a = λ i. let d : Due = (a.0 i, due_at limits (branches_of f) []) in d ∷ spots-placed limits (branches_of f) f.below a.1 i

-- ---- a refusal, by the moment from which on the branch may step

-- it may step now
abbrev is_due : ℕ → Option ℕ → Bool
is_due now None = false
is_due now (Some until) = not (nat_lt now until)

-- it waits
abbrev waits : ℕ → Option ℕ → Option ℕ
waits now None = None
waits now (Some until) = if nat_lt now until then Some until else None

record IsAnswer (o : Option Refusal) (now : ℕ) (due : Option ℕ) : Type 0 where
  accepts : is_none o ≡ is_due now due
  awaits : awaited_by o ≡ waits now due

now-or-never : (now : ℕ) → nat_lt now 0 ≡ false
now-or-never now = grind (arith, nat_tests)

at-once : (w : World) (now : ℕ) → refusal_if_full w ≡ None → IsAnswer (refusal_if_full w) now (Some 0)
at-once w now room = record { accepts = rw (room, now-or-never now) refl; awaits = rw (room, now-or-never now) refl }

unless : (w : World) (now : ℕ) (c : Bool) (r : Refusal) → refusal_if_full w ≡ None → awaited_by (Some r) ≡ None → IsAnswer (cond c (Some r) (refusal_if_full w)) now (cond c None (Some 0))
unless w now true r room a = record { accepts = refl; awaits = a }
unless w now false r room a = at-once w now room

until-then : (w : World) (now until : ℕ) (c : Bool) → nat_lt now until ≡ c → refusal_if_full w ≡ None → IsAnswer (refusal_before until now w) now (Some until)
until-then w now until true e room = record { accepts = rw e refl; awaits = rw e refl }
until-then w now until false e room = record { accepts = rw (e, room) refl; awaits = rw (e, room) refl }

by-record : (w : World) (p : List ℕ) (now limit : ℕ) (r : Record) → refusal_if_full w ≡ None → IsAnswer (refusal_by w p now limit r) now (due_by (is_crowded limit p w.branches) (is_busy (children_at p w.branches)) r)
by-record w p now limit (New n x) room = unless w now (is_crowded limit p w.branches) _ room refl
by-record w p now limit (Ready n x) room = at-once w now room
by-record w p now limit (Pausing n x since until) room = until-then w now until (nat_lt now until) refl room
by-record w p now limit (Again n x since uses until) room = until-then w now until (nat_lt now until) refl room
by-record w p now limit (Forked n x since uses items) room = unless w now (is_busy (children_at p w.branches)) _ room refl
by-record w p now limit (Done x) room = record { accepts = refl; awaits = refl }
by-record w p now limit (Failed e) room = record { accepts = refl; awaits = refl }

by-stopped : (w : World) (p : List ℕ) (now limit : ℕ) (r : Record) (s : Bool) → is_stopped p w.branches ≡ s → refusal_if_full w ≡ None → IsAnswer (refusal_at w p now limit (Some r)) now (cond s None (due_by (is_crowded limit p w.branches) (is_busy (children_at p w.branches)) r))
by-stopped w p now limit r true e room = record { accepts = rw e refl; awaits = rw e refl }
by-stopped w p now limit r false e room = let a = by-record w p now limit r room in record { accepts = rw e a.accepts; awaits = rw e a.awaits }

no-branch : (s : Bool) (w : World) (p : List ℕ) (now limit : ℕ) (c b : Bool) → IsAnswer (refusal_at w p now limit None) now (cond s None (due_of c b None))
no-branch true w p now limit c b = record { accepts = refl; awaits = refl }
no-branch false w p now limit c b = record { accepts = refl; awaits = refl }

by-place : (w : World) (p : List ℕ) (now limit : ℕ) (o : Option Record) → refusal_if_full w ≡ None → IsAnswer (refusal_at w p now limit o) now (cond (is_stopped p w.branches) None (due_of (is_crowded limit p w.branches) (is_busy (children_at p w.branches)) o))
by-place w p now limit None room = no-branch (is_stopped p w.branches) w p now limit (is_crowded limit p w.branches) (is_busy (children_at p w.branches))
by-place w p now limit (Some r) room = by-stopped w p now limit r (is_stopped p w.branches) refl room

answered : (limits : Limits) (w : World) (p : List ℕ) (t : ℕ) → is_over w.outcome ≡ false → is_late (max w.last t) w.deadline ≡ false → refusal_if_full w ≡ None → IsAnswer (refusal_with limits w p t) (max w.last t) (due_at limits w.branches p)
unfolding refusal_of
answered limits w p t running early room =
    let a = by-place w p (max w.last t) (limit_of limits (forker_at p w.branches)) (record_at p w.branches) room in
    record { accepts = rw (running, early) a.accepts; awaits = rw (running, early) a.awaits }

-- ---- over a list of branches

abbrev first_due : ℕ → List Due → Option (List ℕ)
first_due now [] = None
first_due now (d ∷ ds) = if is_due now d.1 then Some d.0 else first_due now ds

abbrev least_due : ℕ → List Due → Option ℕ
least_due now [] = None
least_due now (d ∷ ds) = lesser (waits now d.1) (least_due now ds)

abbrev dues : Limits → World → List Branch → List Due
dues limits w bs = map (λ (b : Branch). (b.place, due_at limits w.branches b.place)) bs

first-is : (limits : Limits) (w : World) (t : ℕ) (bs : List Branch) → is_over w.outcome ≡ false → is_late (max w.last t) w.deadline ≡ false → refusal_if_full w ≡ None → first_of limits w t bs ≡ first_due (max w.last t) (dues limits w bs)
first-is limits w t [] running early room = refl
first-is limits w t (b ∷ bs) running early room =
    let a = answered limits w b.place t running early room in
    rw (a.accepts, first-is limits w t bs running early room) refl

least-is : (limits : Limits) (w : World) (bs : List Branch) → is_over w.outcome ≡ false → is_late (max w.last w.last) w.deadline ≡ false → refusal_if_full w ≡ None → least_of limits w bs ≡ least_due (max w.last w.last) (dues limits w bs)
least-is limits w [] running early room = refl
least-is limits w (b ∷ bs) running early room =
    let a = answered limits w b.place w.last running early room in
    rw (a.awaits, least-is limits w bs running early room) refl

-- ---- by the turn that comes first

abbrev pub place_now : ℕ → Option Turn → Option (List ℕ)
place_now now None = None
place_now now (Some t) = if nat_lt now t.1 then None else Some t.0

abbrev pub moment_later : ℕ → Option Turn → Option ℕ
moment_later now None = None
moment_later now (Some t) = if nat_lt now t.1 then Some t.1 else None

-- a turn that comes later, before other turns
later-first : (now m : ℕ) (p : List ℕ) (o : Option Turn) → now < m → place_now now o ≡ place_now now (sooner (Some (p, m)) o)
later-first now m p None l = let e : nat_lt now m ≡ true = grind (arith, nat_tests, l) in rw e refl
later-first now m p (Some y) l = by (nat_lt y.1 m) refl
  where
    by : (c : Bool) → nat_lt y.1 m ≡ c → place_now now (Some y) ≡ place_now now (cond (nat_lt y.1 m) (Some y) (Some (p, m)))
    by true e = rw e refl
    by false e =
        let a : nat_lt now y.1 ≡ true = grind (arith, nat_tests, l, e) in
        let b : nat_lt now m ≡ true = grind (arith, nat_tests, l) in
        rw (e, a, b) refl

later-least : (now m : ℕ) (p : List ℕ) (o : Option Turn) → now < m → place_now now o ≡ None → lesser (Some m) (moment_later now o) ≡ moment_later now (sooner (Some (p, m)) o)
later-least now m p None l n = let e : nat_lt now m ≡ true = grind (arith, nat_tests, l) in rw e refl
later-least now m p (Some y) l n = by (nat_lt now y.1) (nat_lt y.1 m) refl refl
  where
    by : (d c : Bool) → nat_lt now y.1 ≡ d → nat_lt y.1 m ≡ c → lesser (Some m) (moment_later now (Some y)) ≡ moment_later now (cond (nat_lt y.1 m) (Some y) (Some (p, m)))
    by false c e f = let x : Some y.0 ≡ None = rw e at n in absurd (cc)
    by true true e f = let q : min m y.1 ≡ y.1 = grind (arith, nat_tests, f) in rw (e, f, e) (ap (λ z. Some z) q)
    by true false e f =
        let q : min m y.1 ≡ m = grind (arith, nat_tests, f) in
        let b : nat_lt now m ≡ true = grind (arith, nat_tests, l) in
        rw (e, f, b) (ap (λ z. Some z) q)

first-cases : (now : ℕ) (p : List ℕ) (m : ℕ) (o : Option Turn) (first : Option (List ℕ)) (c : Bool) → nat_lt now m ≡ c → IsLate now o → first ≡ place_now now o → cond (not c) (Some p) first ≡ place_now now (sooner (Some (p, max now m)) o)
first-cases now p m o first true e late h =
    let l : now < m = grind (arith, nat_tests, e) in
    let q : max now m ≡ m = omega arith in
    rw q (h ∙ later-first now m p o l)
first-cases now p m o first false e late h =
    let l : m ≤ now = grind (arith, nat_tests, e) in
    let q : max now m ≡ now = omega arith in
    let z : nat_lt now now ≡ false = grind (arith, nat_tests) in
    rw (q, now-first now (p, now) o (omega arith) late, z) refl

first-now : (now : ℕ) (ds : List Due) → first_due now ds ≡ place_now now (soonest now ds)
first-now now [] = refl
first-now now ((p, None) ∷ ds) = first-now now ds ∙ ap (place_now now) (sym (none-sooner (soonest now ds)))
first-now now ((p, Some m) ∷ ds) = first-cases now p m (soonest now ds) (first_due now ds) (nat_lt now m) refl (late-soonest now ds) (first-now now ds)

least-cases : (now : ℕ) (p : List ℕ) (m : ℕ) (o : Option Turn) (first : Option (List ℕ)) (least : Option ℕ) (c : Bool) → nat_lt now m ≡ c → first ≡ place_now now o → (first ≡ None → least ≡ moment_later now o)
    → cond (not c) (Some p) first ≡ None → lesser (cond c (Some m) None) least ≡ moment_later now (sooner (Some (p, max now m)) o)
least-cases now p m o first least true e h more none =
    let l : now < m = grind (arith, nat_tests, e) in
    let q : max now m ≡ m = omega arith in
    rw (q, more none) (later-least now m p o l (sym h ∙ none))
least-cases now p m o first least false e h more none = (cc)

least-later : (now : ℕ) (ds : List Due) → first_due now ds ≡ None → least_due now ds ≡ moment_later now (soonest now ds)
least-later now [] none = refl
least-later now ((p, None) ∷ ds) none = least-later now ds none ∙ ap (moment_later now) (sym (none-sooner (soonest now ds)))
least-later now ((p, Some m) ∷ ds) none = least-cases now p m (soonest now ds) (first_due now ds) (least_due now ds) (nat_lt now m) refl (first-now now ds) (least-later now ds) none

-- ---- so of a world

pub full-is : (w : World) → nat_lt 24992 (length w.events) ≡ false → refusal_if_full w ≡ None
full-is w e = rw e refl

-- what the code knows of a world in which branches may step
pub record IsOpen (w : World) (now : ℕ) : Type 0 where
  pub running : is_over w.outcome ≡ false
  pub early : is_late now w.deadline ≡ false
  pub room : nat_lt 24992 (length w.events) ≡ false

pub not-true : (c : Bool) → not c ≡ true → c ≡ false
not-true true h = (cc)
not-true false h = refl

pub running-is : (w : World) (b : Bool) → b ≡ not (is_over w.outcome) → b ≡ true → is_over w.outcome ≡ false
running-is w b e t = not-true (is_over w.outcome) (sym e ∙ t)

pub over-is : (w : World) (b : Bool) → b ≡ not (is_over w.outcome) → b ≡ false → is_over w.outcome ≡ true
over-is w b e t = un (is_over w.outcome) (sym e ∙ t)
  where
    un : (c : Bool) → not c ≡ false → c ≡ true
    un true h = refl
    un false h = (cc)

pub open-is : (w : World) (now : ℕ) (r l f : Bool) → r ≡ not (is_over w.outcome) → r ≡ true → l ≡ is_late now w.deadline → l ≡ false → f ≡ nat_lt 24992 (length w.events) → f ≡ false → IsOpen w now
open-is w now r l f er tr el fl ef ff = record { running = running-is w r er tr; early = sym el ∙ fl; room = sym ef ∙ ff }

first-open : (limits : Limits) (w : World) (t : ℕ) → IsOpen w (max w.last t) → first_at limits w t ≡ place_now (max w.last t) (soonest (max w.last t) (dues_among limits w.branches))
first-open limits w t o = first-is limits w t w.branches o.running o.early (full-is w o.room) ∙ first-now (max w.last t) (dues_among limits w.branches)

-- no place may step where the execution is over
over-refuses : (limits : Limits) (w : World) (p : List ℕ) (t : ℕ) → is_over w.outcome ≡ true → refusal_with limits w p t ≡ Some refusal.Over
unfolding refusal_of
over-refuses limits w p t o = rw o refl

none-over : (limits : Limits) (w : World) (t : ℕ) (bs : List Branch) → is_over w.outcome ≡ true → first_of limits w t bs ≡ None
none-over limits w t [] o = refl
none-over limits w t (b ∷ bs) o = rw (over-refuses limits w b.place t o) (none-over limits w t bs o)

pub first-over : (limits : Limits) (w : World) (t : ℕ) → is_over w.outcome ≡ true → None ≡ first_at limits w t
first-over limits w t o = sym (none-over limits w t w.branches o)

-- any place may where its time is over
pub late-accepts : (limits : Limits) (w : World) (p : List ℕ) (t : ℕ) → is_over w.outcome ≡ false → is_late (max w.last t) w.deadline ≡ true → refusal_with limits w p t ≡ None
unfolding refusal_of
late-accepts limits w p t o l = rw (o, l) refl

first-head : (limits : Limits) (w : World) (t : ℕ) (bs : List Branch) (f : Family) → branches_of f ≡ bs → refusal_with limits w [] t ≡ None → first_of limits w t bs ≡ Some []
first-head limits w t bs f e a = ap (first_of limits w t) (sym e) ∙ rw a refl

pub late-first : (limits : Limits) (w : World) (t : ℕ) (f : Family) → branches_of f ≡ w.branches → is_over w.outcome ≡ false → is_late (max w.last t) w.deadline ≡ true → first_at limits w t ≡ Some []
late-first limits w t f e o l = first-head limits w t w.branches f e (late-accepts limits w [] t o l)

-- the place of a tree's root
root-place : (f : Family) → ArePlaced (nodes_of f) → f.head.place ≡ []
root-place f a = a.0

pub first-late : (limits : Limits) (w : World) (t : ℕ) (f : Family) (p : List ℕ) (r l : Bool) → branches_of f ≡ w.branches → ArePlaced (nodes_of f) → p ≡ f.head.place → r ≡ not (is_over w.outcome) → r ≡ true → l ≡ is_late (max w.last t) w.deadline → l ≡ true → Some p ≡ first_at limits w t
first-late limits w t f p r l e a hp er tr el tl = ap Some (hp ∙ root-place f a) ∙ sym (late-first limits w t f e (running-is w r er tr) (sym el ∙ tl))

-- nor where its history is full
full-refuses : (limits : Limits) (w : World) (p : List ℕ) (t : ℕ) (o : Option Refusal) → is_late (max w.last t) w.deadline ≡ false → nat_lt 24992 (length w.events) ≡ true → refusal_with limits w p t ≡ o → is_none o ≡ false
full-refuses limits w p t (Some r) l f h = refl
full-refuses limits w p t None l f h =
    let few : length w.events ≤ 24992 = accepted-room w p t (limit_of limits (forker_at p w.branches)) l h in
    let no : nat_lt 24992 (length w.events) ≡ false = grind (arith, nat_tests, few) in
    let x : true ≡ false = sym f ∙ no in (cc)

none-full : (limits : Limits) (w : World) (t : ℕ) (bs : List Branch) → is_late (max w.last t) w.deadline ≡ false → nat_lt 24992 (length w.events) ≡ true → first_of limits w t bs ≡ None
none-full limits w t [] l f = refl
none-full limits w t (b ∷ bs) l f = rw (full-refuses limits w b.place t (refusal_with limits w b.place t) l f refl) (none-full limits w t bs l f)

pub first-full : (limits : Limits) (w : World) (t : ℕ) (l f : Bool) → l ≡ is_late (max w.last t) w.deadline → l ≡ false → f ≡ nat_lt 24992 (length w.events) → f ≡ true → None ≡ first_at limits w t
first-full limits w t l f el fl ef tf = sym (none-full limits w t w.branches (sym el ∙ fl) (sym ef ∙ tf))

pub first-none : {T : Type 0} (limits : Limits) (w : World) (t : ℕ) (turn : T → Turn) (o : Option T) → IsOpen w (max w.last t) → option_map turn o ≡ soonest (max w.last t) (dues_among limits w.branches) → o ≡ None → None ≡ first_at limits w t
first-none limits w t turn o k s n = sym (first-open limits w t k ∙ ap (place_now (max w.last t)) (sym s ∙ ap (option_map turn) n))

pub first-later : {T : Type 0} (limits : Limits) (w : World) (t : ℕ) (turn : T → Turn) (o : Option T) (x : T) (a b : ℕ) → IsOpen w (max w.last t) → option_map turn o ≡ soonest (max w.last t) (dues_among limits w.branches) → o ≡ Some x
    → a ≡ max w.last t → b ≡ (turn x).1 → a < b → None ≡ first_at limits w t
first-later limits w t turn o x a b k s n ha hb l =
    let c : nat_lt (max w.last t) (turn x).1 ≡ true = grind (arith, nat_tests, ha, hb, l) in
    sym (first-open limits w t k ∙ ap (place_now (max w.last t)) (sym s ∙ ap (option_map turn) n) ∙ rw c refl)

pub first-here : {T : Type 0} (limits : Limits) (w : World) (t : ℕ) (turn : T → Turn) (o : Option T) (x : T) (a b : ℕ) → IsOpen w (max w.last t) → option_map turn o ≡ soonest (max w.last t) (dues_among limits w.branches) → o ≡ Some x
    → a ≡ max w.last t → b ≡ (turn x).1 → b ≤ a → Some (turn x).0 ≡ first_at limits w t
first-here limits w t turn o x a b k s n ha hb l =
    let c : nat_lt (max w.last t) (turn x).1 ≡ false = grind (arith, nat_tests, ha, hb, l) in
    sym (first-open limits w t k ∙ ap (place_now (max w.last t)) (sym s ∙ ap (option_map turn) n) ∙ rw c refl)

-- ---- what is picked, by the turn that comes first

abbrev pick_by : ℕ → Option ℕ → Option Turn → Pick
pick_by now deadline None = pick_of None deadline
pick_by now deadline (Some t) = if nat_lt now t.1 then pick_of None (lesser (Some t.1) deadline) else Place t.0

pick-turn : (now : ℕ) (deadline : Option ℕ) (s : Option Turn) (least : Option ℕ) → (place_now now s ≡ None → least ≡ moment_later now s) → pick_of (place_now now s) (lesser least deadline) ≡ pick_by now deadline s
pick-turn now deadline None least h = rw (h refl) refl
pick-turn now deadline (Some t) least h = by (nat_lt now t.1) refl
  where
    by : (c : Bool) → nat_lt now t.1 ≡ c → pick_of (place_now now (Some t)) (lesser least deadline) ≡ pick_by now deadline (Some t)
    by true e = let l : least ≡ Some t.1 = h (rw e refl) ∙ rw e refl in rw (e, l) refl
    by false e = rw e refl

pick-is : (limits : Limits) (w : World) → IsOpen w (max w.last w.last) → pick limits w ≡ pick_by (max w.last w.last) w.deadline (soonest (max w.last w.last) (dues_among limits w.branches))
pick-is limits w o =
    let now : ℕ = max w.last w.last in
    let ds : List Due = dues_among limits w.branches in
    let first : first_at limits w w.last ≡ place_now now (soonest now ds) = first-open limits w w.last o in
    let least : place_now now (soonest now ds) ≡ None → least_of limits w w.branches ≡ moment_later now (soonest now ds) = λ n. least-is limits w w.branches o.running o.early (full-is w o.room) ∙ least-later now ds (first-now now ds ∙ n) in
    rw (o.running, o.room, first) (pick-turn now w.deadline (soonest now ds) (least_of limits w w.branches) least)

-- at the moment that the code knows as the last one
pub last-open : (w : World) (last : ℕ) → last ≡ w.last → IsOpen w (max w.last last) → IsOpen w (max w.last w.last)
last-open w last e o = subst (λ (z : ℕ). IsOpen w (max w.last z)) e o

pub next-late : (limits : Limits) (w : World) (f : Family) (p : List ℕ) (r l full : Bool) (last : ℕ) → branches_of f ≡ w.branches → ArePlaced (nodes_of f) → p ≡ f.head.place → r ≡ not (is_over w.outcome) → r ≡ true → full ≡ nat_lt 24992 (length w.events) → full ≡ false → last ≡ w.last
    → l ≡ is_late (max w.last last) w.deadline → l ≡ true → Place p ≡ pick limits w
next-late limits w f p r l full last e a hp er tr ef ff hl el tl =
    let running : is_over w.outcome ≡ false = running-is w r er tr in
    let room : nat_lt 24992 (length w.events) ≡ false = sym ef ∙ ff in
    let late : is_late (max w.last w.last) w.deadline ≡ true = subst (λ (z : ℕ). is_late (max w.last z) w.deadline ≡ true) hl (sym el ∙ tl) in
    let first : first_at limits w w.last ≡ Some [] = late-first limits w w.last f e running late in
    ap Place (hp ∙ root-place f a) ∙ sym (rw (running, room, first) refl)

pub next-later : {T : Type 0} (limits : Limits) (w : World) (turn : T → Turn) (o : Option T) (x : T) (last a b m : ℕ) → last ≡ w.last → IsOpen w (max w.last last)
    → option_map turn o ≡ soonest (max w.last last) (dues_among limits w.branches) → o ≡ Some x → a ≡ last → b ≡ (turn x).1 → a < b → Some m ≡ lesser (Some (turn x).1) w.deadline → Moment m ≡ pick limits w
next-later limits w turn o x last a b m hl k s some ha hb lt hm =
    let s' : option_map turn o ≡ soonest (max w.last w.last) (dues_among limits w.branches) = subst (λ (z : ℕ). option_map turn o ≡ soonest (max w.last z) (dues_among limits w.branches)) hl s in
    let c : nat_lt (max w.last w.last) (turn x).1 ≡ true = grind (arith, nat_tests, ha, hb, hl, lt) in
    sym (pick-is limits w (last-open w last hl k) ∙ ap (pick_by (max w.last w.last) w.deadline) (sym s' ∙ ap (option_map turn) some) ∙ rw (c, ← hm) refl)

pub next-here : {T : Type 0} (limits : Limits) (w : World) (turn : T → Turn) (o : Option T) (x : T) (last a b : ℕ) → last ≡ w.last → IsOpen w (max w.last last)
    → option_map turn o ≡ soonest (max w.last last) (dues_among limits w.branches) → o ≡ Some x → a ≡ last → b ≡ (turn x).1 → b ≤ a → Place (turn x).0 ≡ pick limits w
next-here limits w turn o x last a b hl k s some ha hb le =
    let s' : option_map turn o ≡ soonest (max w.last w.last) (dues_among limits w.branches) = subst (λ (z : ℕ). option_map turn o ≡ soonest (max w.last z) (dues_among limits w.branches)) hl s in
    let c : nat_lt (max w.last w.last) (turn x).1 ≡ false = grind (arith, nat_tests, ha, hb, hl, le) in
    sym (pick-is limits w (last-open w last hl k) ∙ ap (pick_by (max w.last w.last) w.deadline) (sym s' ∙ ap (option_map turn) some) ∙ rw c refl)
