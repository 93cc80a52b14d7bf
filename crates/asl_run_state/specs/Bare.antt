-- Worlds without their histories.
use Rattle.std.specs.Prelude.{ℕ, List, [], map}
use Rattle.asl_run_branches.specs.Branches.{Branch}
use Rattle.asl_run_branches.specs.Earliest.{due_from}
use Rattle.asl_run_branches.specs.declared.earliest.Earliest.{Earliest}
use Rattle.asl_run_state.specs.World.{World}

-- a world without its history
abbrev pub bare : World → World
bare w = record w { events = [] }

-- each branch, and the earliest moment from the last one on at which it may step
abbrev pub earliest : ℕ → List Branch → List Earliest
earliest last bs =
    map (λ (b : Branch). record { place = b.place; moment = due_from last b.current }) bs
