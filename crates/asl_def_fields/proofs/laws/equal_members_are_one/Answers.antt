use Rattle.asl_def_fields.specs.private.EqualLaws.{texts_exact, items_exact, names_exact}
use Rattle.asl_def_fields.proofs.Exact.{path_exact, path_or_call_exact, mode_exact, config_exact, jitter_exact, retrier_exact}
use Rattle.asl_def_fields.proofs.laws.equal_members_are_one.Goals as goal

pub returns-clause-path : goal.returns-clause-path
returns-clause-path c = path_exact

pub returns-clause-path_or_call : goal.returns-clause-path_or_call
returns-clause-path_or_call c = path_or_call_exact

pub returns-clause-count : goal.returns-clause-count
returns-clause-count c = texts_exact

pub returns-clause-rate : goal.returns-clause-rate
returns-clause-rate c = texts_exact

pub returns-clause-delay_limit : goal.returns-clause-delay_limit
returns-clause-delay_limit c = texts_exact

pub returns-clause-stamp : goal.returns-clause-stamp
returns-clause-stamp c = texts_exact

pub returns-clause-mode : goal.returns-clause-mode
returns-clause-mode c = mode_exact

pub returns-clause-config : goal.returns-clause-config
returns-clause-config c = config_exact

pub returns-clause-jitter : goal.returns-clause-jitter
returns-clause-jitter c = jitter_exact

pub returns-clause-names : goal.returns-clause-names
returns-clause-names c = names_exact

pub returns-clause-retrier : goal.returns-clause-retrier
returns-clause-retrier c = retrier_exact

pub returns-clause-retriers : goal.returns-clause-retriers
returns-clause-retriers c = items_exact
