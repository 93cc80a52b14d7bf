use Rattle.asl_time.proofs.StampTexts.{IsStampOf-stamp_of}
use Rattle.asl_time.proofs.print.stamps_show_their_moments.Goals as goal

pub returns : goal.returns
returns c = IsStampOf-stamp_of
