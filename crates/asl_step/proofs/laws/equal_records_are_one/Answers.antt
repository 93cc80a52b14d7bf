use Rattle.asl_step.proofs.Equalities.{place_decides, error_decides, uses_decides, record_decides}
use Rattle.asl_step.proofs.laws.equal_records_are_one.Goals as goal

pub returns-clause-place : goal.returns-clause-place
returns-clause-place c = place_decides

pub returns-clause-error : goal.returns-clause-error
returns-clause-error c = error_decides

pub returns-clause-uses : goal.returns-clause-uses
returns-clause-uses c = uses_decides

pub returns-clause-record : goal.returns-clause-record
returns-clause-record c = record_decides
