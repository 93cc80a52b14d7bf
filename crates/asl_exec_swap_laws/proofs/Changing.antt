-- Steps that may change places do.
use Rattle.std.proofs.Common.{ℕ, zero, suc, ◌≡◌, ◌≤◌, ◌==◌, Bool, true, false, not, List, refl, sym, ◌∙◌, ap, subst, arith, cond, length, max, option_map, Some, None, Option}
use Rattle.std.specs.Prelude.{nat_lt}
use Rattle.std.specs.Option.{option_and_then}
use Rattle.std.proofs.lemmas.Bool.{and_parts, not-true, both_ways, false_from_ne_true, eqb-true, le-ltb, leb-true}
use Rattle.asl_json_data.specs.Data.{Data, Pairs, no_members, member, pairs}
use Rattle.asl_json.specs.Same.{bytes_eq}
use Rattle.asl_json.specs.private.SameLaws.{bytes_refl}
use Rattle.asl_history.specs.Places.{is_prefix}
use Rattle.asl_def.specs.Machines.{number_at, state_number, state_object, states_of}
use Rattle.asl_step.specs.declared.record.Record.{Record}
use Rattle.asl_step.specs.declared.record.Record.TheVariants.{New, Ready, Pausing, Again, Forked, Done, Failed}
use Rattle.asl_step.specs.Records.{state_in}
use Rattle.asl_run_branches.specs.Branches.{record_at, children_at, is_busy}
use Rattle.asl_run_branches.specs.Turns.{is_crowded}
use Rattle.asl_run_branches.proofs.Linking.{same-eq}
use Rattle.asl_run_state.specs.declared.refusal.Refusal.{Refusal}
use Rattle.asl_run_state.specs.World.{World, events_after, world_with}
use Rattle.asl_run_state.specs.Refusals.{refusal_if_full, refusal_by}
use Rattle.asl_run_state.proofs.Telling.{events-length}
use Rattle.asl_run_input.specs.declared.setup.Setup.{Setup}
use Rattle.asl_run_input.specs.declared.step_at.StepAt.{StepAt}
use Rattle.asl_exec.specs.Steps.{facts_of, number_in, object_in, invokes_by, seen_at, effect_in, refusal_in, step}
use Rattle.asl_exec.proofs.Going.{does, next, slots_at, IsReady, GoesOn, step-is, so-goes}
use Rattle.asl_exec.proofs.Accepting.{effect-bounded, seen-is}
use Rattle.asl_exec.specs.Exchanges.{are_apart, goes_on, invoked_by, are_one_name, invoke_one, are_exchangeable, AreAlike, AreExchanged, IsOneEach}
use Rattle.asl_exec_swap_laws.proofs.Apart.{IsApart, apart-sym}
use Rattle.asl_exec_swap_laws.proofs.Leaving.{record-stays, children-stay, forker-stays, iteration-stays, branches-commute}
use Rattle.asl_exec_swap_laws.proofs.Fewer.{all-at, not-stopped, not-crowded, is_undone}
use Rattle.asl_exec_swap_laws.proofs.Telling.{Differ, count-stays, counts-commute, told-commutes}

-- ---- what it may read stays, and it is accepted later

unless : (b : Bool) (x : Refusal) (o : Option Refusal) → cond b (Some x) o ≡ None → b ≡ false
unless true x o h = (cc)
unless false x o h = refl

pub with-room : (u : World) → length u.events ≤ 24992 → refusal_if_full u ≡ None
with-room u room = rw (le-ltb 24992 (length u.events) room) refl

pub ready-later : (w u : World) (q : List ℕ) (now slots : ℕ) (r : Record) → children_at q u.branches ≡ children_at q w.branches → (is_crowded slots q w.branches ≡ false → is_crowded slots q u.branches ≡ false) → length u.events ≤ 24992 → refusal_by w q now slots r ≡ None → refusal_by u q now slots r ≡ None
ready-later w u q now slots (New n x) same less room h = rw (less (unless (is_crowded slots q w.branches) _ (refusal_if_full w) h)) (with-room u room)
ready-later w u q now slots (Ready n x) same less room h = with-room u room
ready-later w u q now slots (Pausing n x since until) same less room h = rw (unless (nat_lt now until) _ (refusal_if_full w) h) (with-room u room)
ready-later w u q now slots (Again n x since uses until) same less room h = rw (unless (nat_lt now until) _ (refusal_if_full w) h) (with-room u room)
ready-later w u q now slots (Forked n x since uses items) same less room h = rw (same, unless (is_busy (children_at q w.branches)) _ (refusal_if_full w) h) (with-room u room)
ready-later w u q now slots (Done x) same less room h = h
ready-later w u q now slots (Failed e) same less room h = h

-- a branch that isn't refused isn't done
pub undone-by : (w : World) (p : List ℕ) (now slots : ℕ) (r : Record) → refusal_by w p now slots r ≡ None → is_undone r ≡ true
undone-by w p now slots (New n x) h = refl
undone-by w p now slots (Ready n x) h = refl
undone-by w p now slots (Pausing n x since until) h = refl
undone-by w p now slots (Again n x since uses until) h = refl
undone-by w p now slots (Forked n x since uses items) h = refl
undone-by w p now slots (Done x) h = (cc)
undone-by w p now slots (Failed e) h = (cc)

-- ---- states of two names have two numbers

name_at : ℕ → Pairs → Option (List ℕ)
name_at i no_members = None
name_at zero (member k d ms) = Some k
name_at (suc i) (member k d ms) = name_at i ms

named : (k : List ℕ) (ms : Pairs) (i : ℕ) → number_at k ms ≡ Some i → name_at i ms ≡ Some k
unfolding name_at
named k no_members i h = (cc)
named k (member l d ms) i h = by (bytes_eq k l) refl (named k ms) h
  where
    further : (o : Option ℕ) → number_at k ms ≡ o → ((j : ℕ) → number_at k ms ≡ Some j → name_at j ms ≡ Some k) → option_map suc o ≡ Some i → name_at i (member l d ms) ≡ Some k
    further None e more h = (cc)
    further (Some j) e more h = let z : suc j ≡ i = cc in rw (← z) (more j e)

    by : (c : Bool) → bytes_eq k l ≡ c → ((j : ℕ) → number_at k ms ≡ Some j → name_at j ms ≡ Some k) → cond c (Some 0) (option_map suc (number_at k ms)) ≡ Some i → name_at i (member l d ms) ≡ Some k
    by true e more h = let z : 0 ≡ i = cc in rw (← z, same-eq k l e) refl
    by false e more h = further (number_at k ms) refl more h

name-is : (d : Data) (o : Option (List ℕ)) (k : ℕ) → option_and_then (λ n. state_number n d) o ≡ Some k → o ≡ name_at k (pairs (states_of d))
name-is d None k h = (cc)
name-is d (Some n) k h = sym (named n (pairs (states_of d)) k h)

one-self : (d : Data) (o : Option (List ℕ)) (k : ℕ) → option_and_then (λ n. state_number n d) o ≡ Some k → are_one_name o o ≡ true
one-self d None k h = (cc)
one-self d (Some n) k h = bytes_refl n

invoked-is : (d : Data) (r : Record) → invokes_by (object_in d r) ≡ true → invoked_by d (Some r) ≡ state_in r
invoked-is d r h = rw h refl

names-differ : (d : Data) (r m : Record) → are_one_name (invoked_by d (Some r)) (invoked_by d (Some m)) ≡ false → invokes_by (object_in d r) ≡ true → Differ (number_in d r) (number_in d m)
names-differ d r m h i k x y =
    let same : state_in r ≡ state_in m = name-is d (state_in r) k x ∙ sym (name-is d (state_in m) k y) in
    let j : invokes_by (object_in d m) ≡ true = ap (λ o. invokes_by (option_and_then (λ n. state_object n d) o)) (sym same) ∙ i in
    both_ways _ h (rw (invoked-is d r i, invoked-is d m j, same) (one-self d (state_in m) k y))

one-swapped : (a b : Option (List ℕ)) → are_one_name a b ≡ false → are_one_name b a ≡ false
one-swapped None None h = refl
one-swapped None (Some m) h = refl
one-swapped (Some n) None h = refl
one-swapped (Some n) (Some m) h = false_from_ne_true (bytes_eq m n) (λ e. both_ways (bytes_eq n m) h (rw (same-eq m n e) (bytes_refl n)))

-- steps of these invoke no state in common
abbrev pub InvokeApart : Setup → Record → Record → Type 0
InvokeApart s r m = are_one_name (invoked_by s.machine (Some r)) (invoked_by s.machine (Some m)) ≡ false

pub raises-apart : (s : Setup) (w : World) (p : List ℕ) (now : ℕ) (r m : Record) → InvokeApart s r m → (does s w p now r).raises ≡ true → Differ (number_in s.machine r) (number_in s.machine m)
raises-apart s w p now r m h i = names-differ s.machine r m h ((effect-bounded s.machine (facts_of s) (seen_at s.machine s.case w p now r)).raises i)

-- ---- two steps

module _ (s : Setup) (w : World) (one : IsOneEach w.branches) (room : length w.events ≤ 24984) (now : ℕ) where
  later : (p q : List ℕ) (r m : Record) → IsApart p q → GoesOn s w p now r → GoesOn s w q now m → IsReady s (next s w p now r) q now m
  later p q r m a g h =
      let e = does s w p now r in
      let forker = forker-stays p e.after e.children q w.branches a.left in
      let undone = all-at p is_undone r w.branches one g.is_ready.there (undone-by w p now (slots_at s w p) r g.is_ready.ready) in
      let few = (effect-bounded s.machine (facts_of s) (seen_at s.machine s.case w p now r)).few in
      record {
        running = rw g.silent h.is_ready.running;
        early = h.is_ready.early;
        there = record-stays p e.after e.children q w.branches a.left ∙ h.is_ready.there;
        free = not-stopped p q e.after e.children w.branches a.left g.whole h.is_ready.free;
        ready = rw forker (ready-later w (next s w p now r) q now (slots_at s w q) m
            (children-stay p e.after e.children q w.branches a)
            (not-crowded p q e.after e.children (slots_at s w q) w.branches a.left undone)
            (omega (arith, few, room, events-length p now e.events w.events))
            h.is_ready.ready);
      }

  same-seen : (p q : List ℕ) (r m : Record) → IsApart p q → ((does s w p now r).raises ≡ true → Differ (number_in s.machine r) (number_in s.machine m)) → seen_at s.machine s.case (next s w p now r) q now m ≡ seen_at s.machine s.case w q now m
  same-seen p q r m a d =
      let e = does s w p now r in
      seen-is s.machine s.case w q now m (seen_at s.machine s.case (next s w p now r) q now m) refl refl
      (children-stay p e.after e.children q w.branches a)
      (forker-stays p e.after e.children q w.branches a.left)
      (iteration-stays p e.after e.children q w.branches a.left)
      refl
      (count-stays (number_in s.machine r) (number_in s.machine m) e.raises w.counts d)
      refl refl

  -- the step at q behind the one at p
  behind : (p q : List ℕ) (t : ℕ) (r m : Record) → max w.last t ≡ now → IsApart p q → GoesOn s w p now r → GoesOn s w q now m → ((does s w p now r).raises ≡ true → Differ (number_in s.machine r) (number_in s.machine m))
      → (refusal_in s (step s w p t) q t ≡ None) × (step s (step s w p t) q t ≡ world_with q (number_in s.machine m) now (does s w q now m) (next s w p now r))
  behind p q t r m e a g h d =
      let u = next s w p now r in
      let is = (step-is s w p t now r e g.is_ready).1 in
      let x = step-is s u q t now m (omega (arith, e)) (later p q r m a g h) in (
        rw is x.0,
        ap (λ z. step s z q t) is ∙ x.1
            ∙ ap (λ v. world_with q (number_in s.machine m) now (effect_in s.machine (facts_of s) v) u) (same-seen p q r m a d),
      )

  both-ways : (p q : List ℕ) (t : ℕ) (r m : Record) → max w.last t ≡ now → IsApart p q → GoesOn s w p now r → GoesOn s w q now m
      → InvokeApart s r m
      → (refusal_in s (step s w p t) q t ≡ None) × (refusal_in s (step s w q t) p t ≡ None) × AreAlike (step s (step s w p t) q t) (step s (step s w q t) p t)
  both-ways p q t r m e a g h names =
      let d = raises-apart s w p now r m names in
      let c = raises-apart s w q now m r (one-swapped (invoked_by s.machine (Some r)) (invoked_by s.machine (Some m)) names) in
      let x = behind p q t r m e a g h d in
      let y = behind q p t m r e (apart-sym p q a) h g c in
      let f = does s w p now r in
      let k = does s w q now m in
      let same : AreAlike (world_with q (number_in s.machine m) now k (next s w p now r)) (world_with p (number_in s.machine r) now f (next s w q now m)) = record {
        branches = branches-commute p q f.after k.after f.children k.children w.branches a;
        counts = counts-commute (number_in s.machine r) (number_in s.machine m) f.raises k.raises w.counts (λ u v. d u);
        outcome = rw (g.silent, h.silent) refl;
        last = refl;
        deadline = refl;
        many = omega (arith, events-length p now f.events w.events, events-length q now k.events w.events, events-length q now k.events (events_after p now f.events w.events), events-length p now f.events (events_after q now k.events w.events));
        told = λ o. told-commutes o p q now f.events k.events w.events a;
      } in
      (x.0, y.0, rw (x.1, y.1) same)

names-at : (s : Setup) (w : World) (p q : List ℕ) (r m : Record) → record_at p w.branches ≡ Some r → record_at q w.branches ≡ Some m → invoke_one s w p q ≡ false → InvokeApart s r m
names-at s w p q r m e f h = rw (e, f) at h

-- ---- all together

pub exchange : (s : Setup) (w : World) (a b : StepAt) → IsOneEach w.branches → are_exchangeable s w a b ≡ true → AreExchanged s w a b
exchange s w a b one x =
    let p = a.place in
    let q = b.place in
    let t = a.moment in
    let x0 = and_parts (are_apart p q) _ x in
    let x1 = and_parts (a.moment == b.moment) _ x0.1 in
    let x2 = and_parts (goes_on s w p t) _ x1.1 in
    let x3 = and_parts (goes_on s w q b.moment) _ x2.1 in
    let x4 = and_parts (not (invoke_one s w p q)) _ x3.1 in
    let sides = and_parts (not (is_prefix p q)) _ x0.0 in
    let apart : IsApart p q = record { left = not-true _ sides.0; right = not-true _ sides.1 } in
    let at_one : t ≡ b.moment = eqb-true t b.moment x1.0 in
    let g = so-goes s w p t x2.0 in
    let h = so-goes s w q t (subst (λ u. goes_on s w q u ≡ true) (sym at_one) x3.0) in
    let r = g.0 in
    let m = h.0 in
    let names = names-at s w p q r m g.1.is_ready.there h.1.is_ready.there (not-true _ x4.0) in
    let done = both-ways s w one (leb-true _ _ x4.1) (max w.last t) p q t r m refl apart g.1 h.1 names in
    let both = subst (λ u. (refusal_in s (step s w p t) q u ≡ None) × (refusal_in s (step s w q u) p t ≡ None) × AreAlike (step s (step s w p t) q u) (step s (step s w q u) p t)) at_one done in
    record { second = both.0; first = both.1; alike = both.2 }
