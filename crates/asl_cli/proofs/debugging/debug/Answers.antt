use Rattle.asl_cli.proofs.debugging.debug.Goals as goal

pub returns-in-None : goal.returns-in-None
returns-in-None g c = rw c.in-None.is (rw c.look_of-look.ensures at c.debug_typed.ensures)
