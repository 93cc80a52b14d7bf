-- The branches of a tree, with the earliest moments at which they may step.
use Rattle.std.specs.Prelude.{ℕ, max, List, ◌∷◌, map}
use Rattle.asl_step.specs.declared.record.Record.{Record}
use Rattle.asl_step.specs.declared.record.Record.TheVariants.{Pausing, Again}
use Rattle.asl_run_branches.specs.Trees.{Held, Spot, Family}
use Rattle.asl_run_branches.specs.declared.earliest.Earliest.{Earliest}

-- from the last moment on, the earliest at which a branch that is doing this may step
abbrev pub due_from : ℕ → Record → ℕ
due_from last (Pausing n x since until) = max last until
due_from last (Again n x since uses until) = max last until
due_from last _ = last

-- what the frames of a tree hold, in the order of their places
abbrev pub helds_of : Family → List Held
helds_of f = f.head ∷ map (λ (s : Spot). s.held) f.below

abbrev pub earliest_of : ℕ → Held → Earliest
earliest_of last h = record { place = h.place; moment = due_from last h.current }
