use Rattle.std.proofs.Common.{◌∙◌, ◌++◌, ap, List, ℕ}
use Rattle.std.specs.Prelude.{codes, string_bytes}
use Rattle.std.specs.Fmt.{decimal}
use Rattle.std.proofs.lemmas.Result.{on_ok_weaker}
use Rattle.asl_json_data.specs.Compact.{quoted}
use Rattle.asl_writing.specs.Appends.{Appends}
use Rattle.asl_writing.proofs.Pieces.{right}
use Rattle.asl_run_notes.proofs.line.put_answer.Goals as goal

pub returns : goal.returns
returns c =
    let v = c.args.invocation.now in
    let before = string_bytes c.args.out.now in
    let opened = string_bytes c.push_str.new.self in
    let numbered = string_bytes c.put_decimal.new.out in
    let continued = string_bytes c.push_str-2.new.self in
    let whole = string_bytes c.put_quoted.new.out in
    let first : Appends before (codes " no answer ") opened = record { is = c.in_ok-push_str.ensures.bytes } in
    let second : Appends opened (decimal v.number) numbered = record { is = c.in_ok-put_decimal.ensures.ok } in
    let third : Appends numbered (codes " of the Task ") continued = record { is = c.in_ok-push_str-2.ensures.bytes } in
    on_ok_weaker
    c.put_quoted.result
    (λ h. let last : Appends continued (quoted v.state) whole = record { is = h ∙ ap (λ (t : List ℕ). continued ++ quoted t) c.as_str.ensures } in (right first (right second (right third last))).is)
    c.put_quoted.ensures.ok
