-- What comes next: the place that may step, or the moment that is awaited.
use Rattle.std.specs.Prelude.{ℕ, ◌≡◌, ◌<◌, true, List, [], ◌∷◌, min, if◌then◌else◌, is_none, Option, Some, None}
use Rattle.asl_run_branches.specs.Branches.{Branch, forker_at}
use Rattle.asl_run_branches.specs.Turns.{Limits, limit_of}
use Rattle.asl_run_state.specs.World.{World, is_over}
use Rattle.asl_run_state.specs.Refusals.{refusal_of, is_full}
use Rattle.asl_run_state.specs.Lines.{awaited}
use Rattle.asl_run_state.specs.declared.refusal.Refusal.{Refusal}
use Rattle.asl_run_state.specs.declared.next.Next.{Next}
use Rattle.asl_run_state.specs.declared.next.Next.TheVariants.{Over, Full, Step, At}

-- why a step at a place is refused, where Maps run so many iterations at once
abbrev pub refusal_with : Limits → World → List ℕ → ℕ → Option Refusal
refusal_with limits w p t = refusal_of w p t (limit_of limits (forker_at p w.branches))

-- the first of these branches whose place isn't refused at a moment
abbrev pub first_of : Limits → World → ℕ → List Branch → Option (List ℕ)
first_of limits w t [] = None
first_of limits w t (b ∷ bs) =
    if is_none (refusal_with limits w b.place t) then Some b.place else first_of limits w t bs

-- the first place that isn't refused at a moment
abbrev pub first_at : Limits → World → ℕ → Option (List ℕ)
first_at limits w t = first_of limits w t w.branches

-- the moment that a refused place waits for
abbrev pub awaited_by : Option Refusal → Option ℕ
awaited_by None = None
awaited_by (Some r) = awaited r

abbrev pub lesser : Option ℕ → Option ℕ → Option ℕ
lesser None n = n
lesser (Some m) None = Some m
lesser (Some m) (Some n) = Some (min m n)

-- the least moment that one of these branches waits for
abbrev pub least_of : Limits → World → List Branch → Option ℕ
least_of limits w [] = None
least_of limits w (b ∷ bs) =
    lesser (awaited_by (refusal_with limits w b.place w.last)) (least_of limits w bs)

-- what comes next: nothing, since the execution is over or its history full; a step at a place; or
-- a moment
pub data Pick : Type 0 where
  Ended : Pick
  Filled : Pick
  Place : (p : List ℕ) → Pick
  Moment : (t : ℕ) → Pick

abbrev pub pick_of : Option (List ℕ) → Option ℕ → Pick
pick_of (Some p) m = Place p
pick_of None (Some t) = Moment t
pick_of None None = Ended

-- the first place that isn't refused at the last moment; else the least moment that a branch waits
-- for, or at which the execution's
-- time is over
abbrev pub pick : Limits → World → Pick
pick limits w =
    if is_over w.outcome then Ended
    else (if is_full w then Filled
    else pick_of (first_at limits w w.last) (lesser (least_of limits w w.branches) w.deadline))

-- what is picked can be done: it says that the execution is over or its history full only where
-- that is so; a step at its place isn't
-- refused; and at its moment, which is later than the last one, a step at some place isn't
abbrev pub CanBeDone : Limits → World → Pick → Type 0
CanBeDone limits w Ended = is_over w.outcome ≡ true
CanBeDone limits w Filled = is_full w ≡ true
CanBeDone limits w (Place p) = refusal_with limits w p w.last ≡ None
CanBeDone limits w (Moment t) = (w.last < t) × ((p : List ℕ) × (refusal_with limits w p t ≡ None))

-- the answer of a call
abbrev pub picked : Next → Pick
picked Over = Ended
picked Full = Filled
picked (Step p) = Place p.now
picked (At t) = Moment t
