use Rattle.asl_path.specs.private.Steps.{steps}
use Rattle.asl_path.proofs.Spelling.{there_by, last_by, same_by, rest_by, place_by}
use Rattle.asl_path.proofs.Passing.{path_passes}
use Rattle.asl_path.proofs.laws.reading_and_putting_agree.Goals as goal

pub returns-clause-there : goal.returns-clause-there
returns-clause-there c = λ t v r w h. there_by (steps t) v r w h

pub returns-clause-last : goal.returns-clause-last
returns-clause-last c = λ t v q r w h. last_by (steps t) v q r w h

pub returns-clause-same : goal.returns-clause-same
returns-clause-same c = λ t v r h. same_by (steps t) v r h

pub returns-clause-place : goal.returns-clause-place
returns-clause-place c = λ t v q r h. place_by (steps t) v q r h

pub returns-clause-rest : goal.returns-clause-rest
returns-clause-rest c = λ a b ss us t o h g apart v r w e. rest_by ss us (steps t) (steps o) a b (path_passes a ss t h) (path_passes b us o g) apart v r w e
