-- A fault that is passed on.
use Rattle.std.proofs.Common.{ap}
use Rattle.std.specs.Prelude.{Err}
use Rattle.asl_json_data.specs.Results.{◌>>=◌}
use Rattle.asl_template.specs.declared.fill.FillFault.{FillFault}
use Rattle.asl_template.specs.declared.fill.FillFault.TheVariants.{PathFails, IntrinsicFails, OutOfMemory}
use Rattle.asl_template.specs.Filling.{Outcome}
use Rattle.asl_template.specs.Gives.{Gives}

-- the fault of what comes first is the fault of the whole
pub passes : {X Y Z W : Type 0} (v : X → Y) (w : Z → W) (o : Outcome Y) (f : Y → Outcome W) (e : FillFault) → Gives v o (Err e) → Gives w (o >>= f) (Err e)
passes v w o f (PathFails k) h = ap (λ z. (z >>= f)) h
passes v w o f (IntrinsicFails k r) h = ap (λ z. (z >>= f)) h
passes v w o f OutOfMemory h = tt
