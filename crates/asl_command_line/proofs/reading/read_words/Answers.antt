use Rattle.std.proofs.Common.{◌-◌, arith, drop, length, map, take}
use Rattle.asl_command_line.proofs.Rows.{behind_first, read_top, unread_top}
use Rattle.asl_command_line.proofs.reading.read_words.Goals as goal

pub returns-in-len1-up-clause-ok : goal.returns-in-len1-up-clause-ok
returns-in-len1-up-clause-ok g c =
    let first = behind_first g.S.AsStr.text c.args.words.now (omega arith) in
    read_top (map g.S.AsStr.text c.args.words.now) first.0 (map g.S.AsStr.text (take (length c.args.words.now - 1) (drop 1 c.args.words.now))) c.args.screen first.1 c.read_behind.result c.read_behind.ensures.ok

pub returns-in-len1-up-clause-err : goal.returns-in-len1-up-clause-err
returns-in-len1-up-clause-err g c =
    let first = behind_first g.S.AsStr.text c.args.words.now (omega arith) in
    unread_top (map g.S.AsStr.text c.args.words.now) first.0 (map g.S.AsStr.text (take (length c.args.words.now - 1) (drop 1 c.args.words.now))) c.args.screen first.1 c.read_behind.result c.read_behind.ensures.err
