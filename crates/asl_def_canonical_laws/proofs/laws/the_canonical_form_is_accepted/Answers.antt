use Rattle.asl_def_schema.specs.declared.sort.Sort.TheVariants.{Definition}
use Rattle.asl_def_canonical_laws.proofs.Accepted.{accepted_canonical}
use Rattle.asl_def_canonical_laws.proofs.Twice.{canonical_twice}
use Rattle.asl_def_canonical_laws.proofs.Length.{no_longer, no_deeper}
use Rattle.asl_def_canonical_laws.proofs.Keys.{keys_canon}
use Rattle.asl_def_canonical_laws.proofs.laws.the_canonical_form_is_accepted.Goals as goal

pub returns-clause-accepted : goal.returns-clause-accepted
returns-clause-accepted c = λ d keys a. accepted_canonical d keys a

pub returns-clause-stays : goal.returns-clause-stays
returns-clause-stays c = λ d. canonical_twice d

pub returns-clause-no_longer : goal.returns-clause-no_longer
returns-clause-no_longer c = λ d. no_longer Definition d

pub returns-clause-no_deeper : goal.returns-clause-no_deeper
returns-clause-no_deeper c = λ d. no_deeper Definition d

pub returns-clause-keys : goal.returns-clause-keys
returns-clause-keys c = λ d keys. keys_canon Definition d keys
