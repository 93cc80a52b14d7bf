use Rattle.asl_def_schema.specs.declared.sort.Sort.TheVariants.{Definition}
use Rattle.asl_def_schema.specs.Claims.{claims, outside}
use Rattle.asl_def_fault_laws.proofs.Ordering.{order_claims, in_order}
use Rattle.asl_def_fault_laws.proofs.Saying.{answers_told}
use Rattle.asl_def_fault_laws.proofs.Only.{one_told}
use Rattle.asl_def_fault_laws.proofs.laws.the_first_fault_is_told.Goals as goal

pub returns-clause-order : goal.returns-clause-order
returns-clause-order c = λ d front mid back a b e. in_order (claims outside Definition d) front mid back a b (order_claims outside Definition d) e

pub returns-clause-first : goal.returns-clause-first
returns-clause-first c = λ d o h. answers_told d o h

pub returns-clause-only : goal.returns-clause-only
returns-clause-only c = λ d o p t u. one_told d o p t u
