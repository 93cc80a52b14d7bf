use Rattle.asl_path.proofs.Judging.{read_spells}
use Rattle.asl_path.proofs.Spelling.{only_memory}
use Rattle.asl_path.proofs.path.RefPath.read.Goals as goal

pub returns-in-Ok-from_str-clause-found : goal.returns-in-Ok-from_str-clause-found
returns-in-Ok-from_str-clause-found c = record { root = c.in-Ok.root; steps = c.in-Ok.steps.items; spelled = read_spells c.args.text.now c.in-Ok.root c.in-Ok.steps.items c.in-Ok.ensures }

pub returns-in-Err-clause-only : goal.returns-in-Err-clause-only
returns-in-Err-clause-only c = only_memory c.args.text.now c.fault_of.result c.fault_of.ensures
