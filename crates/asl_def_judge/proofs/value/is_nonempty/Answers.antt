use Rattle.std.proofs.Common.{ap, ◌∙◌, not}
use Rattle.asl_json_data.specs.Data.{chain}
use Rattle.asl_def_schema.specs.Claims.{is_nonempty}
use Rattle.asl_def_judge.proofs.Counting.{items_nonempty}
use Rattle.asl_def_judge.proofs.value.is_nonempty.Goals as goal

pub returns : goal.returns
returns c = ap not c.is_empty.ensures ∙ items_nonempty c.values.result.now ∙ ap (λ ds. is_nonempty (chain ds)) c.values.ensures
