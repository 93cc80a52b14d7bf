use Rattle.asl_json.specs.View.{data_of}
use Rattle.asl_check.proofs.Printing.{fitting}
use Rattle.asl_check.proofs.laws.what_is_printed_of_a_value_is_accepted.Goals as goal

pub returns : goal.returns
returns c = fitting (data_of c.args.value.now) c.every_value_is_sound.ensures.sound c.every_value_is_sound.ensures.keys
