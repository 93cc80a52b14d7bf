use Rattle.std.proofs.Common.{arith}
use Rattle.asl_words.proofs.Numbers.{in_bounds, unread}
use Rattle.asl_words.proofs.meaning.number_in.Goals as goal

pub returns-in_default : goal.returns-in_default
returns-in_default c = unread c.args.least c.args.greatest c.args.text.now c.parse.result c.parse.ensures.value.0 c.in_default.field-0 c.in_default.is

pub returns : goal.returns
returns c =
    in_bounds c.args.least c.args.greatest c.args.text.now c.parse.result c.parse.ensures.value.0 c.in-Ok.number c.in-Ok.is
    (omega (arith, c.from.ensures, c.if-number-from.false)) (omega (arith, c.from-else-number-from.ensures, c.if-from-number.false))
