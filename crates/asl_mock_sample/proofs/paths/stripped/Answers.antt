use Rattle.asl_mock_sample.proofs.Stripping.{stripped_of}
use Rattle.asl_mock_sample.proofs.paths.stripped.Goals as goal

pub returns : goal.returns
returns c = stripped_of c.args.word.now c.args.text.now c.strip_prefix.result c.strip_prefix.ensures.cases
