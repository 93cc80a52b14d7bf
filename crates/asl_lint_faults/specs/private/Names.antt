-- States as the code has them.
use Rattle.std.specs.Prelude.{ℕ, List, reverse}
use Rattle.asl_def_schema.specs.declared.fault.Step.{Step}
use Rattle.asl_lint_faults.specs.declared.states.Named.TheInside.{Inside}

abbrev pub named : Inside → List ℕ × List Step
named a = (a.name, reverse a.steps.items)
