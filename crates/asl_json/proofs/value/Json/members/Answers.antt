use Rattle.std.proofs.Common.{◌∙◌, ap, sym}
use Rattle.asl_json.specs.Access.{member_list}
use Rattle.asl_json.specs.View.{data_of, unpaired-pairs}
use Rattle.asl_json.proofs.value.Json.members.Goals as goal

pub returns-in-Dict-clause-listed : goal.returns-in-Dict-clause-listed
returns-in-Dict-clause-listed c = c.members.ensures.members ∙ sym (unpaired-pairs c.in-Dict.members) ∙ ap (λ v. member_list (data_of v)) (sym c.in-Dict.is)
