use Rattle.asl_json.specs.View.{data_of}
use Rattle.asl_def.proofs.Refusing.{accepted, refused}
use Rattle.asl_def.proofs.machine.parse.Goals as goal

pub build-requires : goal.build-requires
build-requires c = accepted (data_of c.args.definition.now) _ c.in-None.is c.in_ok-fault.ensures

pub returns-in-Some-clause-only : goal.returns-in-Some-clause-only
returns-in-Some-clause-only c = λ a. absurd (refused (data_of c.args.definition.now) _ c.in-Some.fault c.in-Some.is c.in_ok-fault.ensures a)
