-- A fault that is passed on.
use Rattle.std.proofs.Common.{ap}
use Rattle.std.specs.Prelude.{Err}
use Rattle.asl_json_data.specs.Results.{◌>>=◌}
use Rattle.asl_intrinsic_functions.specs.declared.fault.EvalFault.{EvalFault}
use Rattle.asl_intrinsic_functions.specs.declared.fault.EvalFault.TheVariants.{Fails, PathMissing, OutOfMemory}
use Rattle.asl_intrinsic_functions.specs.Outcome.{Outcome}
use Rattle.asl_intrinsic_functions.specs.Gives.{Gives}

-- the fault of what comes first is the fault of the whole
pub passes : {X Y Z W : Type 0} (v : X → Y) (w : Z → W) (o : Outcome Y) (f : Y → Outcome W) (e : EvalFault) → Gives v o (Err e) → Gives w (o >>= f) (Err e)
passes v w o f (Fails r) h = ap (λ z. (z >>= f)) h
passes v w o f PathMissing h = ap (λ z. (z >>= f)) h
passes v w o f OutOfMemory h = tt
