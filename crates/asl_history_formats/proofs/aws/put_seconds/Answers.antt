use Rattle.std.specs.Prelude.{codes, string_bytes}
use Rattle.std.specs.Fmt.{decimal}
use Rattle.std.proofs.lemmas.Result.{on_ok_weaker}
use Rattle.asl_writing.specs.Appends.{Appends}
use Rattle.asl_writing.proofs.Pieces.{right}
use Rattle.asl_history_formats.specs.Aws.{seconds_told}
use Rattle.asl_history_formats.proofs.aws.put_seconds.Goals as goal

pub returns : goal.returns
unfolding seconds_told
returns c =
    let before = string_bytes c.args.out.now in
    let opened = string_bytes c.push_str.new.self in
    let named = string_bytes c.push_str-2.new.self in
    let continued = string_bytes c.push_str-3.new.self in
    let whole = string_bytes c.put_decimal.new.out in
    let first : Appends before (codes ",\"") opened = record { is = c.in_ok-push_str.ensures.bytes } in
    let second : Appends opened c.args.name.now named = record { is = c.in_ok-push_str-2.ensures.bytes } in
    let third : Appends named (codes "InSeconds\":") continued = record { is = c.in_ok-push_str-3.ensures.bytes } in
    on_ok_weaker
    c.put_decimal.result
    (λ h. let last : Appends continued (decimal c.args.seconds) whole = record { is = h } in (right first (right second (right third last))).is)
    c.put_decimal.ensures.ok
