use Rattle.std.proofs.Common.{arith}
use Rattle.asl_json.specs.View.{data_of}
use Rattle.asl_json_scan.proofs.Documents.{reads_of}
use Rattle.asl_json_read.proofs.Faulting.{IsJudged, all_fits, all_is, all_first, all_only, all_faultless, same_value}
use Rattle.asl_json_read.proofs.judging.read.Goals as goal

pub placed-requires : goal.placed-requires
placed-requires c =
    let judged : IsJudged c.args.bytes.now c.in-Err-whole.stop = record { utf8 = c.in_default.ensures.cases.1; small = omega arith; fails = c.in-Err-whole.ensures } in
    all_fits c.args.bytes.now c.in-Err-whole.stop judged

pub returns-in-Ok-clause-found : goal.returns-in-Ok-clause-found
returns-in-Ok-clause-found c = record { fits = omega arith; utf8 = c.in_default.ensures.cases.1; reads = reads_of c.args.bytes.now (data_of c.in-Ok.value) c.in-Ok.ensures }

pub returns-in-Ok-clause-only : goal.returns-in-Ok-clause-only
returns-in-Ok-clause-only c = λ v h. same_value c.args.bytes.now (data_of c.in-Ok.value) v c.in-Ok.ensures h.reads

pub returns-in-Ok-clause-faultless : goal.returns-in-Ok-clause-faultless
returns-in-Ok-clause-faultless c = all_faultless c.args.bytes.now (data_of c.in-Ok.value) c.in_default.ensures.cases.1 (omega arith) c.in-Ok.ensures

pub returns-in-Err-whole-clause-only : goal.returns-in-Err-whole-clause-only
returns-in-Err-whole-clause-only c = λ v h.
    let judged : IsJudged c.args.bytes.now c.in-Err-whole.stop = record { utf8 = c.in_default.ensures.cases.1; small = omega arith; fails = c.in-Err-whole.ensures } in
    rw c.placed.ensures (all_only c.args.bytes.now c.in-Err-whole.stop v judged h.reads)

pub returns-in-Err-whole-clause-fault : goal.returns-in-Err-whole-clause-fault
returns-in-Err-whole-clause-fault c =
    let judged : IsJudged c.args.bytes.now c.in-Err-whole.stop = record { utf8 = c.in_default.ensures.cases.1; small = omega arith; fails = c.in-Err-whole.ensures } in
    rw c.placed.ensures (all_is c.args.bytes.now c.in-Err-whole.stop judged)

pub returns-in-Err-whole-clause-first : goal.returns-in-Err-whole-clause-first
returns-in-Err-whole-clause-first c =
    let judged : IsJudged c.args.bytes.now c.in-Err-whole.stop = record { utf8 = c.in_default.ensures.cases.1; small = omega arith; fails = c.in-Err-whole.ensures } in
    rw c.placed.ensures (all_first c.args.bytes.now c.in-Err-whole.stop judged)
