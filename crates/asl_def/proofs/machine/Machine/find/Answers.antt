use Rattle.asl_def_shared.specs.Bodies.{machine_of}
use Rattle.asl_def.proofs.Wholes.{state_named, state_numbered, found_within}
use Rattle.asl_def.proofs.machine.Machine.find.Goals as goal

pub returns-clause-number : goal.returns-clause-number
returns-clause-number c = rw (← c.parts.ensures.shown) (state_numbered _ c.args.name.now c.parts.result.now.table c.parts.result.now.heading c.parts.result.now.root c.parts.ensures.whole c.find.ensures.number)

pub returns-clause-within : goal.returns-clause-within
returns-clause-within c = rw (← c.parts.ensures.shown) (found_within (λ f. f.0) c.find.result c.args.name.now (machine_of c.parts.result.now.table c.parts.result.now.heading c.parts.result.now.root) (state_numbered _ c.args.name.now c.parts.result.now.table c.parts.result.now.heading c.parts.result.now.root c.parts.ensures.whole c.find.ensures.number))

pub returns-clause-object : goal.returns-clause-object
returns-clause-object c = rw (← c.parts.ensures.shown) (state_named (λ f. f.1.now) c.find.result c.args.name.now c.parts.result.now.table c.parts.result.now.heading c.parts.result.now.root c.parts.ensures.whole c.find.ensures.state)
