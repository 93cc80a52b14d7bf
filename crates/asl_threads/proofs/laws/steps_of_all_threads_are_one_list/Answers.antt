use Rattle.asl_threads.proofs.OneList.{steps-are-one-list}
use Rattle.asl_threads.proofs.laws.steps_of_all_threads_are_one_list.Goals as goal

pub returns : goal.returns
returns c = steps-are-one-list
