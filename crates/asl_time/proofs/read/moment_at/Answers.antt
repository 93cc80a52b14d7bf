use Rattle.std.proofs.Common.{arith, ◌≤◌}
use Rattle.std.proofs.lemmas.Option.{IfSome_then}
use Rattle.jiff_core.proofs.SignedLemmas.{signed_casts}
use Rattle.asl_time.proofs.Moments.{some_same, both, where_some}
use Rattle.asl_time.proofs.read.moment_at.Goals as goal

pub returns-then-millis-lt0-clause-only : goal.returns-then-millis-lt0-clause-only
returns-then-millis-lt0-clause-only c m l e = absurd (omega (arith, signed_casts))

pub returns-clause-found : goal.returns-clause-found
returns-clause-found c = IfSome_then c.of_millis.result c.of_millis.ensures.value (λ m e. omega (arith, signed_casts))

pub returns-clause-bound : goal.returns-clause-bound
returns-clause-bound c = both c.of_millis.result _ _ (λ m. m ≤ 253402300799999) c.of_millis.ensures.value (where_some c.of_millis.result _ c.of_millis.ensures.found.0) (λ m e l. omega arith)

pub returns-clause-only : goal.returns-clause-only
returns-clause-only c m l e =
    some_same c.of_millis.result m (IfSome_then c.of_millis.result c.of_millis.ensures.value (λ x f. omega (arith, signed_casts))) (c.of_millis.ensures.found.1 (omega (arith, signed_casts)))
