use Rattle.asl_cli.proofs.debugging.setup_of.Goals as goal

pub returns-in-Ok-clause-found : goal.returns-in-Ok-clause-found
returns-in-Ok-clause-found c =
    let one = rw c.as_slice.ensures.value at c.in-Ok.ensures.found in
    let two = rw c.as_slice-2.ensures.value at one in
    let three = rw c.as_str.ensures.value at two in
    rw c.as_slice-3.ensures.value at three
