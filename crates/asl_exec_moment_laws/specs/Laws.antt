-- Laws of steps at other moments, over all executions of definitions that don't read the clock.
use Rattle.std.specs.Prelude.{◌≡◌, ◌⊎◌, false, List, ℕ, None, IsSome}
use Rattle.asl_run_state.specs.declared.outcome.Outcome.TheVariants.{TimedOut}
use Rattle.asl_run_state.specs.World.{World}
use Rattle.asl_run_state.specs.Bare.{bare}
use Rattle.asl_run_input.specs.declared.setup.Setup.{Setup}
use Rattle.asl_run_input.specs.declared.step_at.StepAt.{StepAt}
use Rattle.asl_exec.specs.Steps.{deadline_of, opening, refusal_in, step, world_after}
use Rattle.asl_step_reads.specs.Reading.{reads}
use Rattle.asl_step_reads.specs.Steps.{clock_keys}
use Rattle.asl_exec_moment_laws.specs.Orders.{due, after_order}
use Rattle.asl_exec_moment_laws.specs.Moments.{DifferInMoments}

-- What any steps lead to, whatever their moments: the execution's time is over, which needs a time
-- limit; or an order of branches, each of which steps as early as it may, leads to the same but for
-- moments, and so to the same outcome.
abbrev pub MomentsMayBeAny : Type 0
MomentsMayBeAny =
    (s : Setup) (l : List StepAt) → reads clock_keys s.machine ≡ false
    → (((world_after s (opening s) l).outcome ≡ TimedOut) × IsSome (deadline_of s))
    ⊎ ((ps : List (List ℕ))
    × DifferInMoments (world_after s (opening s) l) (after_order s (opening s) ps))

-- Worlds that differ in moments alone do so after each order of branches, where no time limit ends
-- them.
abbrev pub MomentsStayAside : Type 0
MomentsStayAside =
    (s : Setup) (w v : World) (ps : List (List ℕ)) → reads clock_keys s.machine ≡ false
    → w.deadline ≡ None → DifferInMoments w v
    → DifferInMoments (after_order s w ps) (after_order s v ps)

-- In two such worlds the same branches may step, each at its earliest moment.
abbrev pub OpenPlacesStay : Type 0
OpenPlacesStay =
    (s : Setup) (w v : World) (p : List ℕ) → w.deadline ≡ None → DifferInMoments w v
    → refusal_in s w p (due w p) ≡ None → refusal_in s v p (due v p) ≡ None

-- The same of worlds without their histories: each step leaves such worlds again, so a search may
-- take one of them for the other.
abbrev pub BareWorldsStayAside : Type 0
BareWorldsStayAside =
    (s : Setup) (w v : World) (p : List ℕ) → reads clock_keys s.machine ≡ false
    → w.deadline ≡ None → DifferInMoments (bare w) (bare v)
    → DifferInMoments (bare (step s (bare w) p (due w p))) (bare (step s (bare v) p (due v p)))
