use Rattle.std.proofs.Common.{string_bytes}
use Rattle.std.specs.Prelude.{codes}
use Rattle.asl_json_data.specs.Compact.{quoted}
use Rattle.asl_json_rpc.specs.Printing.{version_text, method_text}
use Rattle.asl_json_rpc.proofs.Adding.{three}
use Rattle.asl_json_rpc.proofs.printing.put_method.Goals as goal

pub returns : goal.returns
unfolding method_text
returns c =
    three c.put_quoted.result version_text (codes ",\"method\":") (quoted c.args.method.now) (string_bytes c.args.out.now) (string_bytes c.put_version.new.out) (string_bytes c.push_str.new.self) (string_bytes c.put_quoted.new.out) c.in_ok-put_version.ensures c.in_ok-push_str.ensures.bytes
    c.put_quoted.ensures.ok
