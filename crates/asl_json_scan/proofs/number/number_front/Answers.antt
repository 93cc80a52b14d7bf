use Rattle.std.proofs.Common.{subst}
use Rattle.std.proofs.lemmas.Bool.Decides.{Decides-at}
use Rattle.std.proofs.lemmas.List.{take_more}
use Rattle.std.specs.Prelude.{take, slice_index}
use Rattle.asl_json_data.specs.Number.{IsNumeralFront}
use Rattle.asl_json_data.specs.private.NumberParts.{may_end}
use Rattle.asl_json_data.proofs.Numerals.{part_front, part_decides, stops_dead}
use Rattle.asl_json_scan.proofs.number.number_front.Goals as goal

pub returns-clause-alive : goal.returns-clause-alive
returns-clause-alive c = let front = c.longest_number-end in part_front front.result.1 (take front.result.0 c.args.bytes.now) front.ensures.part

pub returns-clause-dead : goal.returns-clause-dead
returns-clause-dead c = λ lt f.
    let front = c.longest_number-end in
    let bytes = c.args.bytes.now in
    let n = front.result.0 in
    stops_dead front.result.1 (take n bytes) (slice_index bytes n) front.ensures.part (front.ensures.stops lt) (subst IsNumeralFront (take_more bytes n 0 lt) f)

pub returns-clause-whole : goal.returns-clause-whole
returns-clause-whole c =
    let front = c.longest_number-end in
    Decides-at c.may_end.result (may_end front.result.1) c.may_end.ensures (part_decides front.result.1 (take front.result.0 c.args.bytes.now) front.ensures.part)
