use Rattle.std.proofs.Common.{ap, sym, ◌∙◌, ◌∷◌}
use Rattle.asl_json_data.specs.Data.{pairs}
use Rattle.asl_json.specs.View.{data_of, members_of}
use Rattle.asl_def_schema.specs.private.Code.{row_of}
use Rattle.asl_def_schema.specs.Claims.{step}
use Rattle.asl_def_judge.proofs.Walking.{row_told, not_there}
use Rattle.asl_def_judge.proofs.walk.lack.Goals as goal

pub returns : goal.returns
returns c =
    let ms = pairs (members_of c.args.members.now) in
    let r = row_of c.args.row in
    row_told c.args.at r ms c.in_ok-under.field-0 c.name-2.result.now (sym c.is_needed.ensures ∙ c.if-not-is_needed.false) (not_there (λ v. data_of v.now) c.find.result c.is_some.result c.name.result.now r.name ms c.find.ensures c.is_some.ensures c.if-is_some.false c.name.ensures) c.name-2.ensures (c.in_ok-under.ensures ∙ ap (λ f. (f.0, step c.args.at c.name-2.result.now ∷ f.1)) c.here.ensures)
