-- How often all states together were invoked: once more for each step that invokes a service.
use Rattle.std.proofs.Common.{ℕ, suc, ◌≡◌, ◌<◌, ◌+◌, Bool, true, false, List, [], ◌∷◌, refl, sym, ◌∙◌, ap, subst, arith, length, get_or, set, max, Some, None, Option}
use Rattle.std.specs.Prelude.{sum}
use Rattle.std.specs.Option.{option_and_then}
use Rattle.std.proofs.lemmas.List.{length-set, length-replicate}
use Rattle.std.proofs.lemmas.List.Sums.{sum_by-set}
use Rattle.asl_json_data.specs.Data.{Data, Pairs, no_members, member, pairs}
use Rattle.asl_json.specs.Same.{bytes_eq}
use Rattle.asl_json.specs.Meaning.{value_at}
use Rattle.asl_def.specs.Machines.{number_at, state_number, state_object, state_count, states_of}
use Rattle.asl_def.proofs.Wholes.{found_within}
use Rattle.asl_step.specs.declared.record.Record.{Record}
use Rattle.asl_step.specs.Records.{state_in}
use Rattle.asl_run_branches.specs.Branches.{record_at}
use Rattle.asl_run_state.specs.Bare.{bare}
use Rattle.asl_run_state.specs.World.{World, is_late, raised, counts_after}
use Rattle.asl_run_input.specs.declared.setup.Setup.{Setup}
use Rattle.asl_exec.specs.Steps.{facts_of, seen_at, number_in, object_in, invokes_by, refusal_in, moved_on, step, opening}
use Rattle.asl_exec.proofs.Accepting.{effect-bounded, step_taken, step_late}
use Rattle.asl_exec.proofs.Going.{does}
use Rattle.asl_explore.specs.Orders.{due}
use Rattle.asl_explore.proofs.Steady.{asked}
use Rattle.asl_explore.proofs.Asking.{asks_at, asks-taken, asks-late}
use Rattle.asl_explore.proofs.Carrying.{after_bare, ArePrompt, asks}

-- ---- a state that is there has a number

numbered : (k : List ℕ) (ms : Pairs) (d : Data) → value_at k ms ≡ Some d → (n : ℕ) × (number_at k ms ≡ Some n)
numbered k no_members d h = (cc)
numbered k (member l x ms) d h = by (bytes_eq k l) refl h (numbered k ms d)
  where
    by : (b : Bool) → bytes_eq k l ≡ b → value_at k (member l x ms) ≡ Some d → (value_at k ms ≡ Some d → (n : ℕ) × (number_at k ms ≡ Some n)) → (n : ℕ) × (number_at k (member l x ms) ≡ Some n)
    by true e h more = (0, rw e refl)
    by false e h more = let x = more (rw e at h) in (suc x.0, rw (e, x.1) refl)

abbrev HasNumber : Data → Option ℕ → Type 0
HasNumber d o = (n : ℕ) × ((o ≡ Some n) × (n < state_count d))

-- so has one that invokes a service
invoking-numbered : (d : Data) (r : Record) → invokes_by (object_in d r) ≡ true → HasNumber d (number_in d r)
invoking-numbered d r h = by (state_in r) h
  where
    object : (n : List ℕ) (o : Option Data) → state_object n d ≡ o → invokes_by o ≡ true → HasNumber d (state_number n d)
    object n None e h = (cc)
    object n (Some x) e h = let k = numbered n (pairs (states_of d)) x e in (k.0, (k.1, found_within (λ (i : ℕ). i) (Some k.0) n d (sym k.1)))

    by : (o : Option (List ℕ)) → invokes_by (option_and_then (λ n. state_object n d) o) ≡ true → HasNumber d (option_and_then (λ n. state_number n d) o)
    by None h = (cc)
    by (Some n) h = object n (state_object n d) refl h

-- ---- counts

-- there is one for each state
abbrev pub AreAll : Setup → List ℕ → Type 0
AreAll s cs = length cs ≡ state_count s.machine

pub all-opening : (s : Setup) → AreAll s (opening s).counts
all-opening s = length-replicate (state_count s.machine) 0

raised-all : (s : Setup) (n : Option ℕ) (cs : List ℕ) → AreAll s cs → AreAll s (raised n cs)
raised-all s None cs h = h
raised-all s (Some n) cs h = length-set cs n (get_or cs n 0 + 1) ∙ h

after-all : (s : Setup) (n : Option ℕ) (raises : Bool) (cs : List ℕ) → AreAll s cs → AreAll s (counts_after n raises cs)
after-all s n true cs h = raised-all s n cs h
after-all s n false cs h = h

raised-sum : (s : Setup) (o : Option ℕ) (cs : List ℕ) → AreAll s cs → HasNumber s.machine o → sum (raised o cs) ≡ sum cs + 1
raised-sum s o cs h x = subst (λ (z : Option ℕ). sum (raised z cs) ≡ sum cs + 1) (sym x.1.0) one
  where
    one : sum (set cs x.0 (get_or cs x.0 0 + 1)) ≡ sum cs + 1
    one =
        let lt = x.1.1 in
        let e = sum_by-set (λ (k : ℕ). k) cs x.0 (get_or cs x.0 0 + 1) 0 (omega (arith, lt, h)) in
        omega (arith, e)

after-sum : (s : Setup) (o : Option ℕ) (raises : Bool) (cs : List ℕ) → AreAll s cs → (raises ≡ true → HasNumber s.machine o) → sum (counts_after o raises cs) ≡ sum cs + asked raises
after-sum s o true cs h x = raised-sum s o cs h (x refl)
after-sum s o false cs h x = omega arith

-- ---- a step

module _ (s : Setup) (w : World) (p : List ℕ) (all : AreAll s w.counts) where
  -- so many more invocations, and a count for each state still
  abbrev IsCountedOn : World → ℕ → Type 0
  IsCountedOn v n = AreAll s v.counts × (sum v.counts ≡ sum w.counts + n)

  moved : (o : Option Record) → is_late (max w.last (due w p)) w.deadline ≡ false → record_at p w.branches ≡ o → IsCountedOn (moved_on s w p (max w.last (due w p)) o) (asks_at s w p)
  moved None l e = let a : asks_at s w p ≡ 0 = asks-taken s w p None l e in (all, omega (arith, a))
  moved (Some r) l e =
      let f = does s w p (max w.last (due w p)) r in
      let a : asks_at s w p ≡ asked f.raises = asks-taken s w p (Some r) l e in
      let n = number_in s.machine r in
      (after-all s n f.raises w.counts all, after-sum s n f.raises w.counts all (λ h. invoking-numbered s.machine r (invokes-there h)) ∙ ap (λ k. sum w.counts + k) (sym a))
    where
      invokes-there : (does s w p (max w.last (due w p)) r).raises ≡ true → invokes_by (object_in s.machine r) ≡ true
      invokes-there h = (effect-bounded s.machine (facts_of s) (seen_at s.machine s.case w p (max w.last (due w p)) r)).raises h

  accepted : refusal_in s w p (due w p) ≡ None → IsCountedOn (step s w p (due w p)) (asks_at s w p)
  accepted h = by (is_late (max w.last (due w p)) w.deadline) refl
    where
      by : (c : Bool) → is_late (max w.last (due w p)) w.deadline ≡ c → IsCountedOn (step s w p (due w p)) (asks_at s w p)
      by true l = let a : asks_at s w p ≡ 0 = asks-late s w p l in subst (λ (v : World). IsCountedOn v (asks_at s w p)) (sym (step_late s w p (due w p) h l)) (all, omega (arith, a))
      by false l = subst (λ (v : World). IsCountedOn v (asks_at s w p)) (sym (step_taken s w p (due w p) h l)) (moved (record_at p w.branches) l refl)

-- ---- an order

pub summed : (s : Setup) (w : World) (ps : List (List ℕ)) → AreAll s w.counts → ArePrompt s (bare w) ps → AreAll s (after_bare s (bare w) ps).counts × (sum (after_bare s (bare w) ps).counts ≡ sum w.counts + asks s (bare w) ps)
summed s w [] all prompt = (all, omega arith)
summed s w (p ∷ ps) all prompt =
    let x = accepted s (bare w) p all prompt.0.0.1 in
    let y = summed s (step s (bare w) p (due w p)) ps x.0 prompt.1 in
    let here = x.1 in
    let there = y.1 in
    (y.0, omega (arith, here, there))
