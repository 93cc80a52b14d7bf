use Rattle.asl_kinds.proofs.Counting.{counted}
use Rattle.asl_kinds.proofs.raising.count_of.Goals as goal

pub returns-in-Some : goal.returns-in-Some
returns-in-Some c = rw c.in-Some.is (counted c.as_slice.result.now _ c.as_slice.ensures)
