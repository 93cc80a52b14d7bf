-- What a walk makes of the first faults that it meets.
use Rattle.std.specs.Prelude.{List, [], ◌∷◌, Option, Some, None, Bool, nat_lt, option_map, if◌then◌else◌}
use Rattle.asl_def_schema.specs.declared.fault.FaultKind.{FaultKind}
use Rattle.asl_def_schema.specs.declared.fault.Step.{Step}
use Rattle.asl_def_schema.specs.Demands.{Demand, number_of}
use Rattle.asl_def_schema.specs.Claims.{heres}
use Rattle.asl_def_schema.specs.First.{Found, Answers}

abbrev pub under_step : Step → Found → Found
under_step s f = (f.0, s ∷ f.1)

-- the same of demands at one place
abbrev pub at_root : FaultKind → Found
at_root k = (k, [])

abbrev pub Judges : List Demand → Option FaultKind → Type 0
Judges qs o = Answers (heres qs) (option_map at_root o)

abbrev pub sooner : Option FaultKind → Option FaultKind → Option FaultKind
sooner None b = b
sooner (Some a) None = Some a
sooner (Some a) (Some b) = if nat_lt (number_of b) (number_of a) then Some b else Some a

abbrev pub unless : Bool → FaultKind → Option FaultKind
unless b k = if b then None else Some k
