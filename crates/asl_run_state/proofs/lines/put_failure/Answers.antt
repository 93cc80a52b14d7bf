use Rattle.asl_run_state.proofs.lines.put_failure.Goals as goal

pub returns-clause-ok : goal.returns-clause-ok
returns-clause-ok c = rw c.in_ok-output.ensures at c.put_data.ensures.ok
