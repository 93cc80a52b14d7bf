use Rattle.std.proofs.Common.{ap, ◌∙◌}
use Rattle.std.specs.Prelude.{nat_le}
use Rattle.asl_json_data.specs.Data.{chain}
use Rattle.asl_def_schema.specs.Claims.{item_count}
use Rattle.asl_def_judge.proofs.Counting.{items_counted}
use Rattle.asl_def_judge.proofs.value.is_short.Goals as goal

pub returns : goal.returns
returns c = ap (λ n. nat_le n 999999999) (items_counted c.values.result.now ∙ ap (λ ds. item_count (chain ds)) c.values.ensures)
