use Rattle.asl_intrinsic.proofs.Passing.{one_tree}
use Rattle.asl_intrinsic.proofs.Answering.{meaning, wrong_elsewhere}
use Rattle.asl_intrinsic.proofs.laws.a_call_has_one_meaning.Goals as goal

pub returns-clause-tree : goal.returns-clause-tree
returns-clause-tree c = λ a b t g h. one_tree a b t g h

pub returns-clause-meaning : goal.returns-clause-meaning
returns-clause-meaning c = λ a t h f. meaning a t h f

pub returns-clause-wrong : goal.returns-clause-wrong
returns-clause-wrong c = λ t h. wrong_elsewhere t h
