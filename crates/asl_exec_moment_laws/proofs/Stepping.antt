-- One step in two worlds that differ in moments.
use Rattle.std.proofs.Common.{ℕ, ◌≡◌, ◌≤◌, Bool, true, false, List, [], refl, sym, ◌∙◌, ap, arith, cond, length, max, subst, Option, Some, None}
use Rattle.std.specs.Prelude.{nat_lt}
use Rattle.std.specs.Option.{option_and_then}
use Rattle.std.proofs.lemmas.Bool.{ltb-false, leb-false, le-ltb, lt-leb}
use Rattle.asl_json_data.specs.Data.{Data}
use Rattle.asl_def.specs.Machines.{state_object, state_number}
use Rattle.asl_step.specs.declared.effect.Children.TheVariants.{Kept}
use Rattle.asl_step.specs.declared.effect.Effect.{Effect}
use Rattle.asl_step.specs.declared.facts.Facts.{Facts}
use Rattle.asl_step.specs.declared.record.Record.{Record}
use Rattle.asl_step.specs.declared.record.Record.TheVariants.{New, Ready, Pausing, Again, Forked, Done, Failed}
use Rattle.asl_step.specs.Records.{state_in}
use Rattle.asl_step.specs.Seen.{Seen}
use Rattle.asl_step_reads.specs.Reading.{reads}
use Rattle.asl_step_reads.specs.Steps.{clock_keys, timeless_record, timeless, timeless_effect}
use Rattle.asl_step_reads.proofs.Inside.{states_read_no_more}
use Rattle.asl_step_reads.proofs.Clock.{moments}
use Rattle.asl_run_branches.specs.Branches.{record_at}
use Rattle.asl_run_branches.specs.Earliest.{due_from}
use Rattle.asl_run_branches.specs.Turns.{limit_of, is_full as is_taken}
use Rattle.asl_run_state.specs.declared.refusal.Refusal.{Refusal}
use Rattle.asl_run_state.specs.declared.refusal.Refusal.TheVariants.{Slots, Busy, HistoryFull}
use Rattle.asl_run_state.specs.World.{World, count_of, is_over, is_late, counts_after, outcome_after}
use Rattle.asl_run_state.specs.Refusals.{refusal_if_full, refusal_by}
use Rattle.asl_run_state.proofs.Telling.{events-length}
use Rattle.asl_run_input.specs.declared.setup.Setup.{Setup}
use Rattle.asl_exec.specs.Steps.{facts_of, number_in, object_in, invokes_by, limits_in, seen_at, effect_by}
use Rattle.asl_exec.proofs.Going.{does, next, slots_at, IsReady}
use Rattle.asl_exec_moment_laws.specs.Moments.{DifferInMoments}
use Rattle.asl_exec_moment_laws.proofs.Until.{until_in, waits-no-longer}
use Rattle.asl_exec_moment_laws.proofs.Reading.{state-stays, children-same, busy-same, undone-same, stopped-same, iteration-same, forker-same}
use Rattle.asl_exec_moment_laws.proofs.Changing.{AreSooner, after-same, sooner-after}

-- ---- what it does

-- no text of the state reads when it was entered
abbrev IsUnread : Option Data → Type 0
IsUnread None = Unit {0}
IsUnread (Some o) = reads clock_keys o ≡ false

object-unread : (d : Data) (r : Record) → reads clock_keys d ≡ false → IsUnread (object_in d r)
object-unread d r unread = by (state_in r)
  where
    at : (n : List ℕ) (o : Option Data) → state_object n d ≡ o → IsUnread o
    at n None e = tt
    at n (Some o) e = states_read_no_more clock_keys d n o unread e

    by : (n : Option (List ℕ)) → IsUnread (option_and_then (λ n. state_object n d) n)
    by None = tt
    by (Some n) = at n (state_object n d) refl

object-does : (o : Option Data) (f : Facts) (u v : Seen) → IsUnread o → timeless u ≡ timeless v → timeless_effect (effect_by o f u) ≡ timeless_effect (effect_by o f v)
object-does None f u v unread same = λ i. record { after = (same i).current; children = Kept; raises = false; events = []; outcome = None }
object-does (Some o) f u v unread same = moments o f u v unread same

object-waits : (o : Option Data) (f : Facts) (u v : Seen) → IsUnread o → timeless u ≡ timeless v → u.moment ≤ v.moment → until_in u.current ≤ until_in v.current → until_in (effect_by o f u).after ≤ until_in (effect_by o f v).after
object-waits None f u v unread same early less = less
object-waits (Some o) f u v unread same early less = waits-no-longer o f u v unread same early less

module _ (s : Setup) (unread : reads clock_keys s.machine ≡ false) (w v : World) (alike : DifferInMoments w v) (p : List ℕ) (n m : ℕ) (r q : Record) (same : timeless_record r ≡ timeless_record q) where
  state-is : state_in r ≡ state_in q
  state-is = sym (state-stays r) ∙ ap state_in same ∙ state-stays q

  object-is : object_in s.machine r ≡ object_in s.machine q
  object-is = ap (λ (o : Option (List ℕ)). option_and_then (λ (k : List ℕ). state_object k s.machine) o) state-is

  number-is : number_in s.machine r ≡ number_in s.machine q
  number-is = ap (λ (o : Option (List ℕ)). option_and_then (λ (k : List ℕ). state_number k s.machine) o) state-is

  seen-same : timeless (seen_at s.machine s.case w p n r) ≡ timeless (seen_at s.machine s.case v p m q)
  seen-same =
      let children = children-same p w.branches v.branches alike.branches in
      let forker = forker-same p w.branches v.branches alike.branches in
      let iteration = iteration-same p w.branches v.branches alike.branches in
      λ i. record {
        place = p;
        current = same i;
        children = children i;
        forker = forker i;
        iteration = iteration i;
        invokes = invokes_by (object-is i);
        count = count_of (alike.counts i) (number-is i);
        case = s.case;
        moment = 0;
      }

  does-same : timeless_effect (does s w p n r) ≡ timeless_effect (does s v p m q)
  does-same =
      object-does (object_in s.machine r) (facts_of s) (seen_at s.machine s.case w p n r) (seen_at s.machine s.case v p m q) (object-unread s.machine r unread) seen-same
      ∙ ap (λ (o : Option Data). timeless_effect (effect_by o (facts_of s) (seen_at s.machine s.case v p m q))) object-is

  does-waits : m ≤ n → until_in q ≤ until_in r → until_in (does s v p m q).after ≤ until_in (does s w p n r).after
  does-waits early less =
      subst (λ (o : Option Data). until_in (does s v p m q).after ≤ until_in (effect_by o (facts_of s) (seen_at s.machine s.case w p n r)).after) (sym object-is)
      (object-waits (object_in s.machine q) (facts_of s) (seen_at s.machine s.case v p m q) (seen_at s.machine s.case w p n r) (object-unread s.machine q unread) (sym seen-same) early less)

  -- the worlds that it leaves differ in moments alone
  pub next-alike : DifferInMoments (next s w p n r) (next s v p m q)
  next-alike =
      let e = does s w p n r in
      let g = does s v p m q in
      let h : timeless_effect e ≡ timeless_effect g = does-same in
      let told : length e.events ≡ length g.events = λ i. length (h i).events in
      record {
        branches = after-same p e.after g.after e.children g.children w.branches v.branches (λ i. (h i).after) (λ i. (h i).children) alike.branches;
        counts = λ i. counts_after (number-is i) (h i).raises (alike.counts i);
        many = omega (arith, told, alike.many, events-length p n e.events w.events, events-length p m g.events v.events);
        deadline = alike.deadline;
        outcome = λ i. outcome_after (h i).outcome (alike.outcome i);
      }

  -- and where it is taken no later, and its branch waited no longer, no branch waits longer behind it
  pub next-sooner : m ≤ n → until_in q ≤ until_in r → AreSooner v.branches w.branches → AreSooner (next s v p m q).branches (next s w p n r).branches
  next-sooner early less h =
      let e = does s w p n r in
      let g = does s v p m q in
      sooner-after p g.after e.after g.children e.children v.branches w.branches (does-waits early less) (ap (λ (x : Effect). x.children) (sym does-same)) h

-- ---- whether it is accepted

unless : (b : Bool) (x : Refusal) (o : Option Refusal) → cond b (Some x) o ≡ None → b ≡ false
unless true x o h = (cc)
unless false x o h = refl

-- what is accepted doesn't wait; nor is it refused for another reason than the moment
pub record IsFree (w : World) (p : List ℕ) (now slots : ℕ) (r : Record) : Type 0 where
  pub waited : until_in r ≤ now
  pub free : refusal_by w p 0 slots (timeless_record r) ≡ None

waited-for : (w : World) (p : List ℕ) (now slots until : ℕ) (x : Refusal) → cond (nat_lt now until) (Some x) (refusal_if_full w) ≡ None → (until ≤ now) × (refusal_if_full w ≡ None)
waited-for w p now slots until x h =
    let e = unless (nat_lt now until) x (refusal_if_full w) h in
    (ltb-false now until e, rw e at h)

is-free : (w : World) (p : List ℕ) (now slots : ℕ) (r : Record) → refusal_by w p now slots r ≡ None → IsFree w p now slots r
is-free w p now slots (New n x) h = record { waited = omega arith; free = h }
is-free w p now slots (Ready n x) h = record { waited = omega arith; free = h }
is-free w p now slots (Pausing n x since until) h = let a = waited-for w p now slots until _ h in record { waited = a.0; free = a.1 }
is-free w p now slots (Again n x since uses until) h = let a = waited-for w p now slots until _ h in record { waited = a.0; free = a.1 }
is-free w p now slots (Forked n x since uses items) h = record { waited = omega arith; free = h }
is-free w p now slots (Done x) h = (cc)
is-free w p now slots (Failed e) h = (cc)

so-accepted : (w : World) (p : List ℕ) (now slots : ℕ) (r : Record) → IsFree w p now slots r → refusal_by w p now slots r ≡ None
so-accepted w p now slots (New n x) h = h.free
so-accepted w p now slots (Ready n x) h = h.free
so-accepted w p now slots (Pausing n x since until) h = rw (le-ltb now until h.waited) h.free
so-accepted w p now slots (Again n x since uses until) h = rw (le-ltb now until h.waited) h.free
so-accepted w p now slots (Forked n x since uses items) h = h.free
so-accepted w p now slots (Done x) h = h.free
so-accepted w p now slots (Failed e) h = h.free

full-same : (w v : World) → DifferInMoments w v → refusal_if_full w ≡ refusal_if_full v
full-same w v alike = λ i. cond (nat_lt 24992 (alike.many i)) (Some HistoryFull) None

refused-same : (w v : World) → DifferInMoments w v → (p : List ℕ) (slots : ℕ) (r : Record) → refusal_by w p 0 slots (timeless_record r) ≡ refusal_by v p 0 slots (timeless_record r)
refused-same w v alike p slots (New n x) = let undone = undone-same p w.branches v.branches alike.branches in let full = full-same w v alike in λ i. cond (is_taken slots (undone i)) (Some Slots) (full i)
refused-same w v alike p slots (Ready n x) = full-same w v alike
refused-same w v alike p slots (Pausing n x since until) = full-same w v alike
refused-same w v alike p slots (Again n x since uses until) = full-same w v alike
refused-same w v alike p slots (Forked n x since uses items) = let busy = busy-same p w.branches v.branches alike.branches in let full = full-same w v alike in λ i. cond (busy i) (Some Busy) (full i)
refused-same w v alike p slots (Done x) = refl
refused-same w v alike p slots (Failed e) = refl

slots-same : (s : Setup) (w v : World) → DifferInMoments w v → (p : List ℕ) → slots_at s w p ≡ slots_at s v p
slots-same s w v alike p = ap (limit_of (limits_in s.machine)) (forker-same p w.branches v.branches alike.branches)

pub ready-too : (s : Setup) (w v : World) → DifferInMoments w v → (p : List ℕ) (n m : ℕ) (r q : Record) → IsReady s w p n r → record_at p v.branches ≡ Some q → timeless_record r ≡ timeless_record q → until_in q ≤ m → is_late m v.deadline ≡ false → IsReady s v p m q
ready-too s w v alike p n m r q a there same waited early =
    let free = is-free w p n (slots_at s w p) r a.ready in
    let open_is : refusal_by v p 0 (slots_at s v p) (timeless_record q) ≡ None =
    ap (λ (x : Record). refusal_by v p 0 (slots_at s v p) x) (sym same)
    ∙ ap (λ (k : ℕ). refusal_by v p 0 k (timeless_record r)) (sym (slots-same s w v alike p))
    ∙ sym (refused-same w v alike p (slots_at s w p) r) ∙ free.free
    in record {
      running = ap is_over (sym alike.outcome) ∙ a.running;
      early = early;
      there = there;
      free = sym (stopped-same p w.branches v.branches alike.branches) ∙ a.free;
      ready = so-accepted v p m (slots_at s v p) q (record { waited = waited; free = open_is });
    }

pub waits-till : (s : Setup) (w : World) (p : List ℕ) (n : ℕ) (r : Record) → IsReady s w p n r → until_in r ≤ n
waits-till s w p n r a = (is-free w p n (slots_at s w p) r a.ready).waited

-- ---- the earliest moment

pub due-is : (last : ℕ) (r : Record) → due_from last r ≡ max last (until_in r)
due-is last (New n x) = omega arith
due-is last (Ready n x) = omega arith
due-is last (Pausing n x since until) = refl
due-is last (Again n x since uses until) = refl
due-is last (Forked n x since uses items) = omega arith
due-is last (Done x) = omega arith
due-is last (Failed e) = omega arith

-- what isn't late isn't at an earlier moment
pub earlier : (m n : ℕ) (d : Option ℕ) → m ≤ n → is_late n d ≡ false → is_late m d ≡ false
earlier m n None h e = refl
earlier m n (Some d) h e = let l = leb-false d n e in lt-leb d m (omega arith)
