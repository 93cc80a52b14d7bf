use Rattle.asl_def_states.proofs.Items.{machine_of}
use Rattle.asl_def_states.proofs.map.Map.item_processor.Goals as goal

pub returns : goal.returns
returns c t k among = machine_of t c.args.self.now _ k c.machine.ensures among
