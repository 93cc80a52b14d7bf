use Rattle.std.proofs.Common.{◌≡◌, drop, map}
use Rattle.asl_json.specs.View.{data_of}
use Rattle.asl_mock_sample.specs.Merging.{anything}
use Rattle.asl_mock_sample.specs.Templates.{arguments_wants}
use Rattle.asl_mock_sample.proofs.templates.arguments_wants.Given as goal

abbrev pub invariant-loop-argument : goal.invariant-loop-argument
invariant-loop-argument l = arguments_wants l.root (data_of l.leaf) (data_of l.wants) (map (λ t. t.now) (drop l.argument-index l.arguments)) ≡ arguments_wants l.root (data_of l.leaf) anything (map (λ t. t.now) l.arguments)
