use Rattle.std.proofs.Common.{◌≡◌, ◌++◌, None, drop, string_bytes, option_map}
use Rattle.asl_trace_data.specs.Lines.{stages_text}
use Rattle.asl_trace_data.proofs.lines.put_stages.Given as goal

-- the lines so far, then those of the rest, are those of all
abbrev pub invariant-loop-stage : goal.invariant-loop-stage
invariant-loop-stage l = string_bytes l.out ++ stages_text l.lead (option_map (λ x. x.now) l.before) (drop l.stage-index l.stages) ≡ string_bytes l.fn.out ++ stages_text l.lead None l.stages
