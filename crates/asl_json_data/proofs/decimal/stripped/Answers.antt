use Rattle.asl_json_data.proofs.Figures.{stripped_fraction, stripped_integer}
use Rattle.asl_json_data.proofs.decimal.stripped.Goals as goal

pub returns-then-decimals-gt0 : goal.returns-then-decimals-gt0
returns-then-decimals-gt0 c =
    let f = c.significant_len-decimals in
    stripped_fraction c.args.integer.now c.args.fraction.now f.result c.if-decimals-gt0.true f.ensures.within f.ensures.zeros f.ensures.last

pub returns : goal.returns
returns c =
    let f = c.significant_len-decimals in
    let i = c.significant_len in
    stripped_integer c.args.integer.now c.args.fraction.now i.result f.result c.if-decimals-gt0.false f.ensures.zeros i.ensures.within i.ensures.zeros i.ensures.last
