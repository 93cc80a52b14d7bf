use Rattle.std.proofs.Common.{subst, []}
use Rattle.asl_json.specs.View.{data_of}
use Rattle.asl_def_schema.specs.declared.sort.Sort.TheVariants.{Definition}
use Rattle.asl_def_schema.specs.States.{Finds, states_in}
use Rattle.asl_def_judge.proofs.definition.doubled.Goals as goal

pub returns-in-Ok : goal.returns-in-Ok
returns-in-Ok c = (subst (Finds [] (states_in Definition (data_of c.args.definition.now))) c.in-Ok.is (c.in_ok-with_states.ensures [] c.no_names.ensures)).0

pub returns : goal.returns
returns c = subst (Finds [] (states_in Definition (data_of c.args.definition.now))) c.in-Err.is (c.in_ok-with_states.ensures [] c.no_names.ensures)
