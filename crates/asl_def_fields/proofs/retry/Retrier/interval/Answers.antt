use Rattle.std.proofs.Common.{refl, ap, ◌∙◌}
use Rattle.std.specs.Prelude.{codes, option_map}
use Rattle.asl_json_data.specs.Data.{number}
use Rattle.asl_def_fields.proofs.Names.{named}
use Rattle.asl_def_fields.specs.Retries.{whole_or}
use Rattle.asl_def_fields.specs.Shown.{retrier_members}
use Rattle.asl_def_fields.proofs.retry.Retrier.interval.Goals as goal

pub returns-clause-value : goal.returns-clause-value
returns-clause-value c = c.count_or.ensures.value ∙ ap (whole_or 1) (named (codes "IntervalSeconds") (option_map number c.args.self.now.interval) (retrier_members c.args.self.now) refl)
