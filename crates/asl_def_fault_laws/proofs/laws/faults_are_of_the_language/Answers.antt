use Rattle.asl_def_schema.specs.declared.fault.FaultKind.TheVariants as kind
use Rattle.asl_def_fault_laws.proofs.Saying.{said}
use Rattle.asl_def_fault_laws.proofs.laws.faults_are_of_the_language.Goals as goal

pub returns-clause-not_object : goal.returns-clause-not_object
returns-clause-not_object c = said kind.NotObject

pub returns-clause-missing : goal.returns-clause-missing
returns-clause-missing c = said kind.Missing

pub returns-clause-unknown : goal.returns-clause-unknown
returns-clause-unknown c = said kind.UnknownField

pub returns-clause-unsupported : goal.returns-clause-unsupported
returns-clause-unsupported c = said kind.Unsupported

pub returns-clause-wrong_type : goal.returns-clause-wrong_type
returns-clause-wrong_type c = said kind.WrongType

pub returns-clause-range : goal.returns-clause-range
returns-clause-range c = said kind.Range

pub returns-clause-both : goal.returns-clause-both
returns-clause-both c = said kind.Both

pub returns-clause-neither : goal.returns-clause-neither
returns-clause-neither c = said kind.Neither

pub returns-clause-no_target : goal.returns-clause-no_target
returns-clause-no_target c = said kind.NoTarget

pub returns-clause-duplicate : goal.returns-clause-duplicate
returns-clause-duplicate c = said kind.DuplicateState

pub returns-clause-all : goal.returns-clause-all
returns-clause-all c = said kind.AllNotLast

pub returns-clause-path : goal.returns-clause-path
returns-clause-path c = said kind.Path

pub returns-clause-expression : goal.returns-clause-expression
returns-clause-expression c = said kind.Expression

pub returns-clause-nesting : goal.returns-clause-nesting
returns-clause-nesting c = said kind.Nesting
