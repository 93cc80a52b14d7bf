-- The steps to a value as the walk keeps them.
use Rattle.std.specs.Prelude.{List, [], ◌∷◌}
use Rattle.std.specs.Fmt.{decimal}
use Rattle.asl_def_schema.specs.declared.fault.Step.{Step}
use Rattle.asl_def_schema.specs.Claims.{step}
use Rattle.asl_lint_warnings.specs.declared.trail.Trail.{Trail, Root, Member', Item'}

abbrev pub steps_of : Trail → List Step
steps_of Root = []
steps_of (Member' at name p outer) = step at name.now ∷ steps_of outer
steps_of (Item' at p outer) = step at (decimal at) ∷ steps_of outer
