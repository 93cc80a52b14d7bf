use Rattle.asl_cli.specs.Beginnings.{texts_in}
use Rattle.asl_cli.proofs.debugging.setup_in.Goals as goal

pub returns-in-Ok-setup_of-clause-found : goal.returns-in-Ok-setup_of-clause-found
returns-in-Ok-setup_of-clause-found g c = (
  record {
    texts = texts_in c.in-Ok.beginning;
    begins = c.in-Ok.ensures.begins;
    accepted = c.in-Ok-setup_of.ensures.found;
  },
  c.into_chosen.ensures,
)
