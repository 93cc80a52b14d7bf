use Rattle.std.specs.Prelude.{codes, string_bytes}
use Rattle.std.proofs.lemmas.Result.{on_ok_weaker}
use Rattle.asl_json_data.specs.Compact.{quoted}
use Rattle.asl_writing.specs.Appends.{Appends}
use Rattle.asl_writing.proofs.Pieces.{right}
use Rattle.asl_history_formats.specs.Resources.{resource_type, resource_name}
use Rattle.asl_history_formats.specs.Aws.{resource_told}
use Rattle.asl_history_formats.proofs.aws.put_resource.Goals as goal

pub returns : goal.returns
unfolding resource_told
returns c =
    let r = c.args.resource.now in
    let before = string_bytes c.args.out.now in
    let opened = string_bytes c.push_str.new.self in
    let typed = string_bytes c.put_resource_type.new.out in
    let continued = string_bytes c.push_str-2.new.self in
    let whole = string_bytes c.put_resource_name.new.out in
    let first : Appends before (codes "\"resourceType\":") opened = record { is = c.in_ok-push_str.ensures.bytes } in
    let second : Appends opened (quoted (resource_type r)) typed = record { is = c.in_ok-put_resource_type.ensures } in
    let third : Appends typed (codes ",\"resource\":") continued = record { is = c.in_ok-push_str-2.ensures.bytes } in
    on_ok_weaker
    c.put_resource_name.result
    (λ h. let last : Appends continued (quoted (resource_name r)) whole = record { is = h } in (right first (right second (right third last))).is)
    c.put_resource_name.ensures
