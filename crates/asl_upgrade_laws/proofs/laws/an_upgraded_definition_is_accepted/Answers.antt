use Rattle.asl_def.proofs.Upgrading.{upgraded_twice, accepted_upgraded, canonical_upgraded}
use Rattle.asl_upgrade_laws.proofs.Reading.{upgraded_read}
use Rattle.asl_upgrade_laws.proofs.laws.an_upgraded_definition_is_accepted.Goals as goal

pub returns-clause-stays : goal.returns-clause-stays
returns-clause-stays c = upgraded_twice

pub returns-clause-accepted : goal.returns-clause-accepted
returns-clause-accepted c = accepted_upgraded

pub returns-clause-canonical : goal.returns-clause-canonical
returns-clause-canonical c = canonical_upgraded

pub returns-clause-read : goal.returns-clause-read
returns-clause-read c = upgraded_read
