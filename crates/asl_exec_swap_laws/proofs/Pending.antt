-- A world in which a branch is about to take a step.
use Rattle.std.proofs.Common.{ℕ, ◌≡◌, ◌⊎◌, inl, inr, true, false, List, [], refl, sym, subst, Some, None, Option}
use Rattle.asl_json_data.specs.Data.{Data}
use Rattle.asl_json.specs.declared.value.Json.{Json}
use Rattle.asl_step.specs.Bounds.{are_kept}
use Rattle.asl_step.specs.Records.{is_failed}
use Rattle.asl_step.specs.Rows.{idle}
use Rattle.asl_step.specs.declared.effect.Children.TheVariants.{Removed}
use Rattle.asl_step.specs.declared.effect.Effect.{Effect}
use Rattle.asl_step.specs.declared.effect.Ended.{Ended}
use Rattle.asl_step.specs.declared.record.Record.{Record}
use Rattle.asl_step.specs.declared.record.Record.TheVariants.{New, Ready, Pausing, Again, Forked, Done, Failed}
use Rattle.asl_run_branches.specs.Branches.{record_at, children_at}
use Rattle.asl_run_state.specs.Bare.{bare}
use Rattle.asl_run_state.specs.World.{World, is_over, is_late, outcome_after, world_with}
use Rattle.asl_run_state.specs.Refusals.{refusal_by}
use Rattle.asl_run_input.specs.declared.setup.Setup.{Setup}
use Rattle.asl_exec.specs.Steps.{facts_of, number_in, object_in, seen_at}
use Rattle.asl_exec.specs.Exchanges.{IsOneEach}
use Rattle.asl_exec.proofs.Going.{does, next, slots_at}
use Rattle.asl_exec_swap_laws.proofs.OneEach.{one-after}
use Rattle.asl_exec_swap_laws.proofs.Effects.{effect-made, effect-takes}
use Rattle.asl_exec_swap_laws.proofs.Rooted.{is_joining, IsRooted}
use Rattle.asl_exec_swap_laws.proofs.Rooting.{IsFit, rooted-after}

-- a world without its history in which a branch does this, or will once nothing stops it
pub record IsPending (s : Setup) (u : World) (p : List ℕ) (r : Record) (e : Effect) : Type 0 where
  pub running : is_over u.outcome ≡ false
  pub early : is_late u.last u.deadline ≡ false
  pub untold : u.events ≡ []
  pub there : record_at p u.branches ≡ Some r
  pub ready : refusal_by u p u.last (slots_at s u p) r ≡ None
  pub so : does s u p u.last r ≡ e
  pub rooted : IsRooted u.branches
  pub each : IsOneEach u.branches

-- the world where it has done it
abbrev pub ahead : Setup → World → List ℕ → Record → Effect → World
ahead s u p r e = bare (world_with p (number_in s.machine r) u.last e u)

-- the world after a step, without its history
abbrev pub after : Setup → World → List ℕ → Record → World
after s u q m = bare (next s u q u.last m)

pub none-over : (e : Option Ended) → e ≡ None → (o : Rattle.asl_run_state.specs.declared.outcome.Outcome.Outcome) → outcome_after e o ≡ o
none-over e h o = rw h refl

pub unfinished-by : (w : World) (p : List ℕ) (now slots : ℕ) (r : Record) → refusal_by w p now slots r ≡ None → is_failed r ≡ false
unfinished-by w p now slots (New n x) h = refl
unfinished-by w p now slots (Ready n x) h = refl
unfinished-by w p now slots (Pausing n x since until) h = refl
unfinished-by w p now slots (Again n x since uses until) h = refl
unfinished-by w p now slots (Forked n x since uses items) h = refl
unfinished-by w p now slots (Done x) h = (cc)
unfinished-by w p now slots (Failed e) h = (cc)

-- ---- what holds of each effect

fit : (s : Setup) (u : World) (q : List ℕ) (now : ℕ) (m : Record) → IsFit m (does s u q now m).after (does s u q now m).children
fit s u q now m = record { made = effect-made (object_in s.machine m) (facts_of s) (seen_at s.machine s.case u q now m); kept = λ k j. by m refl k j }
  where
    kept-so : (e : Effect) (n : List ℕ) (x : Json) (since : ℕ) (uses : List ℕ) (items : List Data) → (e.children ≡ Removed) ⊎ (e ≡ idle (Forked n x since uses items)) → are_kept e.children ≡ true → is_joining e.after ≡ true
    kept-so e n x since uses items (inl is) k = let y : false ≡ true = rw is at k in absurd (cc)
    kept-so e n x since uses items (inr is) k = rw is refl

    by : (o : Record) → m ≡ o → are_kept (does s u q now m).children ≡ true → is_joining m ≡ true → is_joining (does s u q now m).after ≡ true
    by (New n x) h k j = let y : false ≡ true = rw h at j in absurd (cc)
    by (Ready n x) h k j = let y : false ≡ true = rw h at j in absurd (cc)
    by (Pausing n x since until) h k j = let y : false ≡ true = rw h at j in absurd (cc)
    by (Again n x since uses until) h k j = let y : false ≡ true = rw h at j in absurd (cc)
    by (Forked n x since uses items) h k j =
        let P : Record → Type 0 = λ o. are_kept (does s u q now o).children ≡ true → is_joining (does s u q now o).after ≡ true in
        let f : P (Forked n x since uses items) = kept-so (does s u q now (Forked n x since uses items)) n x since uses items
        (effect-takes (facts_of s) (seen_at s.machine s.case u q now (Forked n x since uses items)) n x since uses items (object_in s.machine (Forked n x since uses items)) (children_at q u.branches)) in
        subst P (sym h) f k
    by (Done x) h k j = let y : false ≡ true = rw h at j in absurd (cc)
    by (Failed e) h k j = let y : false ≡ true = rw h at j in absurd (cc)

-- so a step leaves branches rooted, and one at each place
pub rooted-next : (s : Setup) (u : World) (q : List ℕ) (now : ℕ) (m : Record) → record_at q u.branches ≡ Some m → IsRooted u.branches → IsRooted (next s u q now m).branches
rooted-next s u q now m there w = rooted-after q m (does s u q now m).after u.branches w there (does s u q now m).children (fit s u q now m)

pub each-next : (s : Setup) (u : World) (q : List ℕ) (now : ℕ) (m : Record) → IsOneEach u.branches → IsOneEach (next s u q now m).branches
each-next s u q now m one = one-after q (does s u q now m).after (does s u q now m).children u.branches one
