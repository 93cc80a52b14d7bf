use Rattle.std.proofs.Common.{◌∙◌, arith}
use Rattle.asl_words.specs.Asked.{shard_by}
use Rattle.asl_words.proofs.Marks.{marked}
use Rattle.asl_words.proofs.meaning.shard_in.Goals as goal

pub returns-in-Some : goal.returns-in-Some
returns-in-Some c =
    c.shard_by.ensures ∙ (rw c.in-Some.is at (marked 47 shard_by (omega arith) c.args.text.now c.split_once.result c.split_once.ensures.cases))

pub returns-in-None : goal.returns-in-None
returns-in-None c = rw c.in-None.is at (marked 47 shard_by (omega arith) c.args.text.now c.split_once.result c.split_once.ensures.cases)
