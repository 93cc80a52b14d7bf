use Rattle.std.proofs.Common.{refl}
use Rattle.asl_path.specs.private.Steps.{steps}
use Rattle.asl_path.proofs.Spelling.{meaning, meaningless}
use Rattle.asl_path.proofs.Judging.{fault_once, path_faultless}
use Rattle.asl_path.proofs.laws.a_path_has_one_meaning.Goals as goal

pub returns-clause-meaning : goal.returns-clause-meaning
returns-clause-meaning c = λ root ss t h. meaning root ss t h

pub returns-clause-nothing : goal.returns-clause-nothing
returns-clause-nothing c = λ t h. meaningless t h (steps t) refl

pub returns-clause-fault : goal.returns-clause-fault
returns-clause-fault c = λ t at h. record { only = λ other g. fault_once t other at g h; none = path_faultless t at h }
