use Rattle.std.proofs.Common.{◌∙◌, arith}
use Rattle.asl_words.specs.Asked.{test_by}
use Rattle.asl_words.proofs.Marks.{marked}
use Rattle.asl_words.proofs.meaning.test_number.Goals as goal

pub returns-in-Some : goal.returns-in-Some
returns-in-Some c =
    c.number_from_one.ensures ∙ (rw c.in-Some.is at (marked 35 test_by (omega arith) c.args.text.now c.split_once.result c.split_once.ensures.cases))

pub returns-in-None : goal.returns-in-None
returns-in-None c = rw c.in-None.is at (marked 35 test_by (omega arith) c.args.text.now c.split_once.result c.split_once.ensures.cases)
