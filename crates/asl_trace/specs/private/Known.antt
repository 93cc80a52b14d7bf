-- What is kept of a step until it is taken.
use Rattle.std.specs.Prelude.{Bool, ◌≡◌, Option, Some, None, Ok, Err}
use Rattle.asl_choice.specs.Truth.{Verdict}
use Rattle.asl_step.specs.declared.facts.Facts.{Facts}
use Rattle.asl_step.specs.Seen.{Seen}
use Rattle.asl_run_input.specs.declared.setup.Setup.{Setup}
use Rattle.asl_exec.specs.Steps.{object_in}
use Rattle.asl_trace.specs.declared.deciding.Staged.{Staged}
use Rattle.asl_trace.specs.declared.deciding.Staged.TheVariants as staged
use Rattle.asl_trace.specs.declared.tree.Shows.{Shows}
use Rattle.asl_trace.specs.declared.tree.Shows.TheVariants.{Changes, Stages}
use Rattle.asl_trace.specs.declared.tree.Before.{Before}
use Rattle.asl_trace.specs.Deciding.{deciding_in, wanted_in}

-- of which states the stages are wanted
abbrev pub staged_by : Shows → Staged
staged_by Changes = staged.Handling
staged_by Stages = staged.All

-- whether a rule holds, where that can be said
abbrev pub said : Verdict → Option Bool
said (Ok b) = Some b
said (Err e) = None

-- it is what the step might read, what decides in it, and the stages that are wanted
pub record IsKnown (sort : Staged) (f : Facts) (s : Setup) (v : Seen) (b : Before) : Type 0 where
  pub moment_is : b.moment ≡ v.moment
  pub doing_is : b.doing ≡ v.current
  pub count_is : b.count ≡ v.count
  pub deciding_is : b.decided.deciding ≡ deciding_in (object_in s.machine v.current) f v
  pub stages_are : b.decided.stages.items ≡ wanted_in sort (object_in s.machine v.current) f v
