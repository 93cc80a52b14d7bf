use Rattle.asl_time.proofs.FieldMoments.{stamp_in, moment_is}
use Rattle.asl_time.proofs.read.a_text_has_the_moment_of_its_fields.Goals as goal

pub returns : goal.returns
returns c t m = (moment_is t m, stamp_in t m)
