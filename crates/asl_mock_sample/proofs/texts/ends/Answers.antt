use Rattle.std.proofs.lemmas.Str.Pattern.{ends_text}
use Rattle.asl_mock_sample.proofs.texts.ends.Goals as goal

pub returns : goal.returns
returns c = ends_text c.ends_with.result c.args.word.now c.args.text.now c.ends_with.ensures.cases
