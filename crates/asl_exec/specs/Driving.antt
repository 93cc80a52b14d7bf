-- Runs without a list of steps: what comes next is stepped.
use Rattle.std.specs.Prelude.{ℕ, zero, suc, ◌+◌, if◌then◌else◌, List, Option, Some, None, is_some}
use Rattle.asl_run_branches.specs.Turns.{Limits}
use Rattle.asl_run_branches.specs.Trees.{one_if}
use Rattle.asl_run_state.specs.World.{World, is_over}
use Rattle.asl_run_state.specs.Refusals.{is_full}
use Rattle.asl_run_state.specs.Picking.{Pick, Ended, Filled, Place, Moment, pick, first_at}
use Rattle.asl_run_input.specs.declared.setup.Setup.{Setup}
use Rattle.asl_exec.specs.declared.driving.Ended.{Ended as End}
use Rattle.asl_exec.specs.declared.driving.Ended.TheVariants.{Over, Full, Limit}
use Rattle.asl_exec.specs.Steps.{limits_in, step}

-- a step: its place and its moment
abbrev pub Chosen : Type 0
Chosen = List ℕ × ℕ

abbrev pub at_moment : ℕ → Option (List ℕ) → Option Chosen
at_moment t None = None
at_moment t (Some p) = Some (p, t)

-- the step that comes next: at the place picked and the last moment, or at the moment picked and
-- the first place that isn't refused then
abbrev pub chosen_by : Limits → World → Pick → Option Chosen
chosen_by limits w Ended = None
chosen_by limits w Filled = None
chosen_by limits w (Place p) = Some (p, w.last)
chosen_by limits w (Moment t) = at_moment t (first_at limits w t)

abbrev pub chosen : Setup → World → Option Chosen
chosen s w = chosen_by (limits_in s.machine) w (pick (limits_in s.machine) w)

-- the world after that step, where one comes next
abbrev pub after : Setup → World → Option Chosen → World
after s w None = w
after s w (Some x) = step s w x.0 x.1

-- after so many steps, or as many as there are
abbrev pub driven : ℕ → Setup → World → World
driven zero s w = w
driven (suc n) s w = driven n s (after s w (chosen s w))

-- how many these are
abbrev pub driven_steps : ℕ → Setup → World → ℕ
driven_steps zero s w = 0
driven_steps (suc n) s w = one_if (is_some (chosen s w)) + driven_steps n s (after s w (chosen s w))

-- at most so many are taken where nothing else is said
unfoldable pub most_steps : ℕ
most_steps = 10000

-- how a driven run ends
abbrev pub end_of : World → End
end_of w = if is_over w.outcome then Over else (if is_full w then Full else Limit)
