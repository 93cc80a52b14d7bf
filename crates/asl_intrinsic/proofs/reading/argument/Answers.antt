use Rattle.std.proofs.Common.{suc, length, refl, sym, ◌∙◌}
use Rattle.std.proofs.lemmas.Result.{err_from_is_err_and}
use Rattle.asl_intrinsic.specs.private.View.{tree_of}
use Rattle.asl_intrinsic.specs.private.Steps.{prefix, run, ended}
use Rattle.asl_intrinsic.specs.Grammar.{states_word}
use Rattle.asl_intrinsic.proofs.Stretches.{fails_along}
use Rattle.asl_intrinsic.proofs.Leaves.{begun_call}
use Rattle.asl_intrinsic.proofs.Turns.{memory_fails}
use Rattle.asl_intrinsic.proofs.reading.argument.Goals as goal

pub returns-in_err-name-clause-hears : goal.returns-in_err-name-clause-hears
returns-in_err-name-clause-hears c = λ o st h e.
    let p = err_from_is_err_and c.from_residual.result c.from_residual.ensures.1 in
    let begins = begun_call c.args.rest.now st (sym c.begins_with.ensures ∙ c.if-begins_with.true) in
    rw (p.1, p.2) (fails_along c.in_err-name.field-0.0 o (run (prefix states_word) st c.args.rest.now) (e ∙ begins) (c.in_err-name.ensures.run st))

pub returns-then-begins_with-clause-hears : goal.returns-then-begins_with-clause-hears
returns-then-begins_with-clause-hears c = λ o st h e.
    let begins = begun_call c.args.rest.now st (sym c.begins_with.ensures ∙ c.if-begins_with.true) in
    memory_fails o c.opened.result (c.opened.ensures.hears o st h (e ∙ begins ∙ c.in_ok-name.ensures.run st)) c.opened.ensures.memory

pub returns-clause-hears : goal.returns-clause-hears
returns-clause-hears c = λ o st h e. record {
  mode = ended (tree_of c.in_ok-kept.kept);
  st = st;
  stands = (tree_of c.in_ok-kept.kept, (refl, (refl, c.in_ok-kept.ensures.sound (suc (length st)))));
  keeps = h;
  leads = e ∙ c.in_ok-kept.ensures.run st;
}
