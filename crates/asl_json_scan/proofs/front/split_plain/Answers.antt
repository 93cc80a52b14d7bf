use Rattle.std.proofs.Common.{sym}
use Rattle.std.proofs.lemmas.List.{take_rest, take-append-drop}
use Rattle.asl_json_scan.proofs.Fronts.{no_plain_at, plain_boundary}
use Rattle.asl_json_scan.proofs.front.split_plain.Goals as goal

pub returns-clause-parts : goal.returns-clause-parts
returns-clause-parts c = rw take_rest (sym (take-append-drop c.plain_len-end.result c.args.bytes.now))

pub returns-clause-stops : goal.returns-clause-stops
returns-clause-stops c = rw take_rest (no_plain_at c.args.bytes.now c.plain_len-end.result c.plain_len-end.ensures.stops)

pub returns-clause-utf8 : goal.returns-clause-utf8
returns-clause-utf8 c = λ u. rw take_rest (plain_boundary c.args.bytes.now c.plain_len-end.result u c.plain_len-end.ensures.within c.plain_len-end.ensures.stops)
