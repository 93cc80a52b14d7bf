use Rattle.std.proofs.Common.{◌≡◌, drop}
use Rattle.asl_trace_data.specs.Stages.{raised_in}
use Rattle.asl_trace_data.proofs.stage.raised_in.Given as goal

-- no stage so far raises one
abbrev pub invariant-loop-stage : goal.invariant-loop-stage
invariant-loop-stage l = raised_in (drop l.stage-index l.stages) ≡ raised_in l.stages
