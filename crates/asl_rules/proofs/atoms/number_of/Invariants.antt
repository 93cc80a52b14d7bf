use Rattle.std.proofs.Common.{◌≡◌, drop}
use Rattle.asl_rules.specs.Tasks.{number_of}
use Rattle.asl_rules.proofs.atoms.number_of.Given as goal

-- none of those so far has it
abbrev pub invariant-loop-task : goal.invariant-loop-task
invariant-loop-task l = number_of (drop l.task-index l.tasks) l.name ≡ number_of l.tasks l.name
