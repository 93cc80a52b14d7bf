use Rattle.std.proofs.lemmas.Result.{err_from_is_err_and}
use Rattle.asl_json_data.specs.Data.{boolean}
use Rattle.asl_intrinsic.proofs.Stretches.{letters_pass, letters_fail}
use Rattle.asl_intrinsic.proofs.leaf.truth.Goals as goal

pub returns-in_err-rest-clause-run : goal.returns-in_err-rest-clause-run
returns-in_err-rest-clause-run c = λ st.
    let p = err_from_is_err_and c.from_residual.result c.from_residual.ensures.1 in
    rw (p.1, p.2) (letters_fail c.args.letters.now c.args.text.now (boolean c.args.value) c.in_err-rest.field-0.0 st c.requires.some c.in_err-rest.ensures.run)

pub returns-clause-run : goal.returns-clause-run
returns-clause-run c = λ st. letters_pass c.args.letters.now c.args.text.now c.in_ok-rest.rest.now (boolean c.args.value) st c.requires.some c.in_ok-rest.ensures.run
