use Rattle.asl_suite_file.proofs.StepsRead.{spelled_in, in_spelled}
use Rattle.asl_suite_file.proofs.stepping.lines_spell_their_steps.Goals as goal

pub returns : goal.returns
returns c = λ line s. (spelled_in line s, in_spelled line s)
