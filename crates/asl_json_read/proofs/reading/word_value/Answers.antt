use Rattle.std.proofs.Common.{◌∙◌, true, false}
use Rattle.std.proofs.lemmas.Result.{err_from_is_err_and}
use Rattle.asl_json_data.specs.Data.{null, boolean}
use Rattle.asl_json_scan.proofs.Stretches.{null_begins, true_begins, false_begins, value_halts, fails_along}
use Rattle.asl_json_read.proofs.reading.word_value.Goals as goal

pub returns-in_err-rest-clause-run : goal.returns-in_err-rest-clause-run
returns-in_err-rest-clause-run c = λ st n q l o b w.
    let p = err_from_is_err_and c.from_residual.result c.from_residual.ensures.1 in
    rw (p.1, p.2) (fails_along c.in_err-rest.field-0.0 _ _ (null_begins st c.args.bytes.now c.in-Some.inside.now c.in-Some.ensures.found) (c.in_err-rest.ensures.run (null) st))

pub returns-in-Some-clause-run : goal.returns-in-Some-clause-run
returns-in-Some-clause-run c = λ st n q l o b w. null_begins st c.args.bytes.now c.in-Some.inside.now c.in-Some.ensures.found ∙ c.in_ok-rest.ensures.run (null) st

pub returns-in_err-rest-2-clause-run : goal.returns-in_err-rest-2-clause-run
returns-in_err-rest-2-clause-run c = λ st n q l o b w.
    let p = err_from_is_err_and c.from_residual-in_err-rest-2.result c.from_residual-in_err-rest-2.ensures.1 in
    rw (p.1, p.2) (fails_along c.in_err-rest-2.field-0.0 _ _ (true_begins st c.args.bytes.now c.in-Some-after_byte.inside.now c.in-Some-after_byte.ensures.found) (c.in_err-rest-2.ensures.run (boolean true) st))

pub returns-in-Some-after_byte-clause-run : goal.returns-in-Some-after_byte-clause-run
returns-in-Some-after_byte-clause-run c = λ st n q l o b w. true_begins st c.args.bytes.now c.in-Some-after_byte.inside.now c.in-Some-after_byte.ensures.found ∙ c.in_ok-rest-2.ensures.run (boolean true) st

pub returns-in_err-rest-3-clause-run : goal.returns-in_err-rest-3-clause-run
returns-in_err-rest-3-clause-run c = λ st n q l o b w.
    let p = err_from_is_err_and c.from_residual-in_err-rest-3.result c.from_residual-in_err-rest-3.ensures.1 in
    rw (p.1, p.2) (fails_along c.in_err-rest-3.field-0.0 _ _ (false_begins st c.args.bytes.now c.in-Some-after_byte-2.inside.now c.in-Some-after_byte-2.ensures.found) (c.in_err-rest-3.ensures.run (boolean false) st))

pub returns-in-Some-after_byte-2-clause-run : goal.returns-in-Some-after_byte-2-clause-run
returns-in-Some-after_byte-2-clause-run c = λ st n q l o b w. false_begins st c.args.bytes.now c.in-Some-after_byte-2.inside.now c.in-Some-after_byte-2.ensures.found ∙ c.in_ok-rest-3.ensures.run (boolean false) st

pub returns-clause-run : goal.returns-clause-run
returns-clause-run c = λ st n q l o b w. rw c.syntax.ensures (value_halts st c.args.bytes.now n q l o b w c.in_default.ensures.none c.in_default-after_byte.ensures.none c.in_default-after_byte-2.ensures.none)
