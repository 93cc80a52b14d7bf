use Rattle.std.proofs.Common.{sym, ◌∙◌}
use Rattle.asl_json.specs.View.{data_of}
use Rattle.asl_json_read.proofs.Faulting.{IsCut, cut_has, cut_read, cut_open, cut_fits, cut_is, cut_first}
use Rattle.asl_json_read.proofs.judging.malformed.Goals as goal

pub returns-in_default-clause-fault : goal.returns-in_default-clause-fault
returns-in_default-clause-fault c =
    let cut : IsCut c.args.bytes.now c.args.end = record { end_is = c.requires.end_is; inside = c.requires.inside; small = c.requires.small } in
    cut_has c.args.bytes.now c.args.end cut

pub returns-in_default-clause-first : goal.returns-in_default-clause-first
returns-in_default-clause-first c =
    let cut : IsCut c.args.bytes.now c.args.end = record { end_is = c.requires.end_is; inside = c.requires.inside; small = c.requires.small } in
    cut_read c.args.bytes.now c.args.end (data_of c.in_default.field-0) cut c.in_default.ensures

pub returns-then-is_at_end-clause-fault : goal.returns-then-is_at_end-clause-fault
returns-then-is_at_end-clause-fault c =
    let cut : IsCut c.args.bytes.now c.args.end = record { end_is = c.requires.end_is; inside = c.requires.inside; small = c.requires.small } in
    cut_has c.args.bytes.now c.args.end cut

pub returns-then-is_at_end-clause-first : goal.returns-then-is_at_end-clause-first
returns-then-is_at_end-clause-first c =
    let cut : IsCut c.args.bytes.now c.args.end = record { end_is = c.requires.end_is; inside = c.requires.inside; small = c.requires.small } in
    cut_open c.args.bytes.now c.args.end c.in-Err.stop cut c.in-Err.ensures (sym c.is_at_end.ensures ∙ c.if-is_at_end.true)

pub placed-requires : goal.placed-requires
placed-requires c =
    let cut : IsCut c.args.bytes.now c.args.end = record { end_is = c.requires.end_is; inside = c.requires.inside; small = c.requires.small } in
    cut_fits c.args.bytes.now c.args.end c.in-Err.stop cut c.in-Err.ensures

pub returns-clause-fault : goal.returns-clause-fault
returns-clause-fault c =
    let cut : IsCut c.args.bytes.now c.args.end = record { end_is = c.requires.end_is; inside = c.requires.inside; small = c.requires.small } in
    rw c.placed.ensures (cut_is c.args.bytes.now c.args.end c.in-Err.stop cut c.in-Err.ensures (sym c.is_at_end.ensures ∙ c.if-is_at_end.false))

pub returns-clause-first : goal.returns-clause-first
returns-clause-first c =
    let cut : IsCut c.args.bytes.now c.args.end = record { end_is = c.requires.end_is; inside = c.requires.inside; small = c.requires.small } in
    rw c.placed.ensures (cut_first c.args.bytes.now c.args.end c.in-Err.stop cut c.in-Err.ensures (sym c.is_at_end.ensures ∙ c.if-is_at_end.false))
