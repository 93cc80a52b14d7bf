-- Orders of branches: which branch steps, one after another, each at the earliest moment at which it
-- may.
use Rattle.std.specs.Prelude.{ℕ, List, [], ◌∷◌, Option, Some, None}
use Rattle.asl_step.specs.declared.record.Record.{Record}
use Rattle.asl_run_branches.specs.Branches.{record_at}
use Rattle.asl_run_branches.specs.Earliest.{due_from}
use Rattle.asl_run_state.specs.World.{World}
use Rattle.asl_run_input.specs.declared.setup.Setup.{Setup}
use Rattle.asl_exec.specs.Steps.{step}

abbrev pub due_of : ℕ → Option Record → ℕ
due_of last None = last
due_of last (Some r) = due_from last r

-- the earliest moment at which the branch at a place may step
abbrev pub due : World → List ℕ → ℕ
due w p = due_of w.last (record_at p w.branches)

-- the world after the branches at these places stepped, one after another; one that may not step is
-- refused, and changes nothing
abbrev pub after_order : Setup → World → List (List ℕ) → World
after_order s w [] = w
after_order s w (p ∷ ps) = after_order s (step s w p (due w p)) ps
