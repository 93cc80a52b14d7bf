use Rattle.asl_json.specs.View.{data_of}
use Rattle.asl_choice.proofs.Stamped.{stamp_says}
use Rattle.asl_choice.proofs.comparison.Comparison.is_met.Goals as goal

pub returns-in-Timestamp : goal.returns-in-Timestamp
returns-in-Timestamp c = stamp_says c.args.self.now c.in-Timestamp.order c.in-Timestamp.stamp c.moment.result (data_of c.args.value.now) (data_of c.args.input.now) (data_of c.args.context.now) c.moment_of.result c.moments.result c.is_so-in-Timestamp.result c.in-Timestamp.is c.moment.ensures c.moment_of.ensures c.moments.ensures c.is_so-in-Timestamp.ensures
