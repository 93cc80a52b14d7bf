use Rattle.std.proofs.lemmas.Result.{err_from_is_err_and}
use Rattle.asl_json_data.specs.Data.{null}
use Rattle.asl_intrinsic.proofs.Stretches.{word_pass, word_fails}
use Rattle.std.proofs.Common.{◌∷◌, []}
use Rattle.asl_intrinsic.proofs.leaf.null.Goals as goal

pub returns-in_err-rest-clause-run : goal.returns-in_err-rest-clause-run
returns-in_err-rest-clause-run c = λ st.
    let p = err_from_is_err_and c.from_residual.result c.from_residual.ensures.1 in
    rw (p.1, p.2) (word_fails 110 (117 ∷ 108 ∷ 108 ∷ []) c.args.text.now (null) c.in_err-rest.field-0.0 st c.in_err-rest.ensures.run)

pub returns-clause-run : goal.returns-clause-run
returns-clause-run c = λ st. word_pass 110 (117 ∷ 108 ∷ 108 ∷ []) c.args.text.now c.in_ok-rest.rest.now (null) st c.in_ok-rest.ensures.run
