use Rattle.std.proofs.Common.{string_bytes}
use Rattle.std.specs.Prelude.{codes}
use Rattle.asl_json_data.specs.Compact.{quoted}
use Rattle.asl_json_rpc.specs.Printing.{message_member}
use Rattle.asl_json_rpc.proofs.Adding.{three, pushed}
use Rattle.asl_json_rpc.proofs.printing.put_told.Goals as goal

pub returns : goal.returns
unfolding message_member
returns c =
    let late = string_bytes c.put_quoted.new.out in
    let new = string_bytes c.push_str-2.new.self in
    three c.push_str-2.result (codes ",\"message\":") (quoted c.args.message.now) (codes "}}") (string_bytes c.args.out.now) (string_bytes c.push_str.new.self) late new c.in_ok-push_str.ensures.bytes c.in_ok-put_quoted.ensures.ok
    (pushed c.push_str-2.result (codes "}}") late new c.push_str-2.ensures.bytes)
