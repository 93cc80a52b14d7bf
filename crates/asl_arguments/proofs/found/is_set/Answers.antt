use Rattle.std.proofs.Common.{◌∙◌, ap}
use Rattle.asl_arguments.specs.Given.{is_set}
use Rattle.asl_arguments.proofs.found.is_set.Goals as goal

pub returns-in-Some : goal.returns-in-Some
returns-in-Some c = c.eq.ensures ∙ ap is_set c.in-Some.ensures

pub returns-in-None : goal.returns-in-None
returns-in-None c = ap is_set c.in-None.ensures
