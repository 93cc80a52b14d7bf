-- Steps that differ in what no text of their state reads.
use Rattle.std.specs.Prelude.{ℕ, [], ◌∷◌, codes, map}
use Rattle.asl_step.specs.declared.effect.Effect.{Effect}
use Rattle.asl_step.specs.declared.record.Record.{Record}
use Rattle.asl_step.specs.declared.record.Record.TheVariants.{New, Ready, Pausing, Again, Forked, Done, Failed}
use Rattle.asl_step.specs.Seen.{Seen}
use Rattle.asl_step_reads.specs.Reading.{Keys}

-- ---- how often the state was invoked before

-- where a Task reads it: in the token by which its service would answer
abbrev pub token_keys : Keys
token_keys = codes "Task" ∷ codes "Token" ∷ []

-- the same, where it was invoked so often
abbrev pub with_count : Seen → ℕ → Seen
with_count v n = record v { count = n }

-- ---- moments

-- where a text reads when its state was entered
abbrev pub clock_keys : Keys
clock_keys = codes "State" ∷ codes "EnteredTime" ∷ []

-- a record without its moments
abbrev pub timeless_record : Record → Record
timeless_record (New n x) = New n x
timeless_record (Ready n x) = Ready n x
timeless_record (Pausing n x since until) = Pausing n x 0 0
timeless_record (Again n x since uses until) = Again n x 0 uses 0
timeless_record (Forked n x since uses items) = Forked n x 0 uses items
timeless_record (Done x) = Done x
timeless_record (Failed e) = Failed e

-- what a step reads, without moments
abbrev pub timeless : Seen → Seen
timeless v = record v {
  current = timeless_record v.current;
  children = map timeless_record v.children;
  moment = 0;
}

-- an effect without moments; branches that it makes have none
abbrev pub timeless_effect : Effect → Effect
timeless_effect e = record e { after = timeless_record e.after }
