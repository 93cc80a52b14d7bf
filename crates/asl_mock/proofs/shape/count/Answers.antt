use Rattle.std.proofs.Common.{◌∙◌, ap, sym}
use Rattle.asl_json.specs.View.{data_of}
use Rattle.asl_mock.specs.Form.{members_count}
use Rattle.asl_mock.proofs.Below.{counted}
use Rattle.asl_mock.proofs.shape.count.Goals as goal

pub returns-in-Dict : goal.returns-in-Dict
returns-in-Dict c = counted c.members.result.now c.in-Dict.members c.members.ensures.members ∙ ap (λ v. members_count (data_of v)) (sym c.in-Dict.is)
