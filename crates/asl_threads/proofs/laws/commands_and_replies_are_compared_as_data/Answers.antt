use Rattle.asl_step.proofs.Equalities.{record_decides}
use Rattle.asl_threads.proofs.Equalities.{command_decides, reply_decides}
use Rattle.asl_threads.proofs.laws.commands_and_replies_are_compared_as_data.Goals as goal

pub returns-clause-commands : goal.returns-clause-commands
returns-clause-commands c = command_decides

pub returns-clause-replies : goal.returns-clause-replies
returns-clause-replies c = reply_decides

pub returns-clause-records : goal.returns-clause-records
returns-clause-records c = record_decides
