use Rattle.std.proofs.Common.{ap, ◌∙◌, not}
use Rattle.asl_def_judge.proofs.Counting.{items_nonempty}
use Rattle.asl_lint_warnings.proofs.handling.is_nonempty.Goals as goal

pub returns : goal.returns
returns c = ap not c.is_empty.ensures ∙ items_nonempty c.args.names.now
