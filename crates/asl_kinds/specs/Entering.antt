-- A state that is entered, and that something is told.
use Rattle.std.specs.Prelude.{◌<◌, ◌≡◌, Bool, true, false, length}
use Rattle.asl_step.specs.declared.effect.Effect.{Effect}
use Rattle.asl_step.specs.declared.record.Record.{Record}
use Rattle.asl_step.specs.declared.record.Record.TheVariants.{New, Ready}

-- the branch is about to enter its state; not where a state is retried, goes on behind a pause, or joins its branches
abbrev pub is_entering : Record → Bool
is_entering (New n x) = true
is_entering (Ready n x) = true
is_entering _ = false

abbrev pub IsEntering : Record → Type 0
IsEntering r = is_entering r ≡ true

-- it tells of one event at least
abbrev pub IsTold : Effect → Type 0
IsTold e = 0 < length e.events
