use Rattle.asl_check.proofs.Printing.{printed, printed_no_longer, one_machine}
use Rattle.asl_check.proofs.laws.what_is_printed_is_accepted.Goals as goal

pub returns-clause-printed : goal.returns-clause-printed
returns-clause-printed c = printed

pub returns-clause-no_longer : goal.returns-clause-no_longer
returns-clause-no_longer c = printed_no_longer

pub returns-clause-one : goal.returns-clause-one
returns-clause-one c = one_machine
