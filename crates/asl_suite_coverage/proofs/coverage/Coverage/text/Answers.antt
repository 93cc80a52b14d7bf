use Rattle.asl_suite_coverage.proofs.coverage.Coverage.text.Goals as goal

pub returns : goal.returns
returns c = rw c.deref.ensures.value at c.text_of.ensures
