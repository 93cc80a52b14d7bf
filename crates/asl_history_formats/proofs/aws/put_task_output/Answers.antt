use Rattle.std.proofs.Common.{◌∙◌, ◌++◌, ap}
use Rattle.std.specs.Prelude.{codes, string_bytes}
use Rattle.std.proofs.lemmas.Result.{on_ok_weaker}
use Rattle.asl_json.specs.declared.value.Json.{Json}
use Rattle.asl_json.specs.View.{data_of}
use Rattle.asl_writing.specs.Appends.{Appends}
use Rattle.asl_writing.proofs.Pieces.{right}
use Rattle.asl_history_formats.specs.Aws.{said, resource_told}
use Rattle.asl_history_formats.proofs.aws.put_task_output.Goals as goal

pub returns : goal.returns
returns c =
    let before = string_bytes c.args.out.now in
    let told = string_bytes c.put_resource.new.out in
    let continued = string_bytes c.push_str.new.self in
    let whole = string_bytes c.put_said.new.out in
    let first : Appends before (resource_told c.args.resource.now) told = record { is = c.in_ok-put_resource.ensures } in
    let second : Appends told (codes ",") continued = record { is = c.in_ok-push_str.ensures.bytes } in
    on_ok_weaker
    c.put_said.result
    (λ h. let last : Appends continued (said (codes "output") (data_of c.args.event.now.body)) whole = record { is = h ∙ ap (λ (x : Json). continued ++ said (codes "output") (data_of x)) c.deref.ensures } in (right first (right second last)).is)
    c.put_said.ensures
