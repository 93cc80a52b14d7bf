use Rattle.std.proofs.Common.{length}
use Rattle.asl_words.proofs.meaning.+has_case_mark.Given as goal

abbrev pub decreases-has_case_mark : goal.decreases-has_case_mark
decreases-has_case_mark l = length l.bytes.now
