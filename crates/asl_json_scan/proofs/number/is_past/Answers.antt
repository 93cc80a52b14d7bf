use Rattle.asl_json_data.proofs.Numerals.{part_is_numeral}
use Rattle.asl_json_scan.proofs.number.is_past.Goals as goal

pub is_over-requires : goal.is_over-requires
is_over-requires c = part_is_numeral c.args.part c.args.spelled.now c.requires.1 c.requires.0
