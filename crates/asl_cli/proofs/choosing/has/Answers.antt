use Rattle.std.proofs.lemmas.Str.Pattern.{contains_text}
use Rattle.asl_cli.proofs.Having.{is_has}
use Rattle.asl_cli.proofs.choosing.has.Goals as goal

pub returns : goal.returns
returns c =
    is_has c.contains.result c.args.word.now c.args.text.now
    (contains_text c.contains.result c.args.word.now c.args.text.now c.contains.ensures.cases)
