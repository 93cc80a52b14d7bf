use Rattle.std.proofs.Common.{◌∙◌, ◌∷◌, ap, arith, drop, inr, map, sym}
use Rattle.asl_command_line.proofs.Rows.{headed, read_on, unnamed, unread_on}
use Rattle.asl_command_line.proofs.reading.read_behind.Goals as goal

pub returns-in-Some-clause-ok : goal.returns-in-Some-clause-ok
returns-in-Some-clause-ok g c =
    let rest = map g.S.AsStr.text (drop 1 c.args.words.now) in
    let whole = headed g.S.AsStr.text c.args.words.now c.name-item.result (omega arith) c.name-item.is ∙ ap (λ t. t ∷ rest) (sym c.as_str.ensures) in
    read_on (map g.S.AsStr.text c.args.words.now) c.as_str.result.now rest c.args.screen whole c.in-Some.row.now c.read_command.result c.in-Some.ensures.named c.read_command.ensures.ok

pub returns-in-Some-clause-err : goal.returns-in-Some-clause-err
returns-in-Some-clause-err g c =
    let rest = map g.S.AsStr.text (drop 1 c.args.words.now) in
    let whole = headed g.S.AsStr.text c.args.words.now c.name-item.result (omega arith) c.name-item.is ∙ ap (λ t. t ∷ rest) (sym c.as_str.ensures) in
    unread_on (map g.S.AsStr.text c.args.words.now) c.as_str.result.now rest c.args.screen whole c.in-Some.row.now c.read_command.result c.in-Some.ensures.named c.read_command.ensures.err

pub returns-in-None-clause-err : goal.returns-in-None-clause-err
returns-in-None-clause-err g c =
    let rest = map g.S.AsStr.text (drop 1 c.args.words.now) in
    let whole = headed g.S.AsStr.text c.args.words.now c.name-item.result (omega arith) c.name-item.is ∙ ap (λ t. t ∷ rest) (sym c.as_str.ensures) in
    inr (unnamed (map g.S.AsStr.text c.args.words.now) c.as_str.result.now rest c.args.screen whole c.in-None.ensures.named)
