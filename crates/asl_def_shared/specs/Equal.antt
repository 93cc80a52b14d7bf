-- Lists of machines inside states are equal where their machines are.
use Rattle.std.specs.Prelude.{List, Bool}
use Rattle.std.specs.Cmp.Lexicographic.{pointwise}
use Rattle.asl_def_shared.specs.declared.body.Body.{Body}
use Rattle.asl_def_shared.specs.contracts.body.BodyPartialEq.TheImpl as bodies

abbrev pub body_equal : Body → Body → Bool
body_equal = (bodies.ghosts).eq

abbrev pub bodies_equal : List Body → List Body → Bool
bodies_equal = pointwise body_equal
