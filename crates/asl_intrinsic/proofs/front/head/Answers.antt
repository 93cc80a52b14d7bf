use Rattle.std.proofs.Common.{◌∷◌, [], ℕ, List, take, ap, sym, ◌∙◌, subst}
use Rattle.std.proofs.lemmas.Result.{err_from_is_err_and}
use Rattle.std.specs.Str.{IsCharBoundary}
use Rattle.asl_intrinsic.specs.private.Steps.{opening, run}
use Rattle.asl_intrinsic.specs.Grammar.{states_word}
use Rattle.asl_intrinsic.proofs.Stretches.{prefix_fails, name_boundary, head_nameless, head_named, bracket_opens, bracket_lacks}
use Rattle.asl_intrinsic.proofs.front.head.Goals as goal

pub returns-in_err-rest-clause-run : goal.returns-in_err-rest-clause-run
returns-in_err-rest-clause-run c = λ st.
    let p = err_from_is_err_and c.from_residual.result c.from_residual.ensures.1 in
    rw (p.1, p.2) (prefix_fails states_word c.args.text.now c.in_err-rest.field-0.0 st c.in_err-rest.ensures.run)

pub returns-then-end-eq0-clause-run : goal.returns-then-end-eq0-clause-run
returns-then-end-eq0-clause-run c = λ st.
    let rest = c.in_ok-rest.rest.now in
    let same = c.as_bytes.ensures.value in
    rw c.stuck.ensures (head_nameless c.args.text.now rest c.name_len-end.result st c.in_ok-rest.ensures.run c.if-end-eq0.true (rw same at c.name_len-end.ensures.ends))

pub split_at-requires : goal.split_at-requires
split_at-requires c =
    subst (λ (xs : List ℕ). IsCharBoundary xs c.name_len-end.result) c.as_bytes.ensures.value (name_boundary c.as_bytes.result.now c.name_len-end.result c.as_bytes.ensures.utf8 c.name_len-end.ensures.within c.name_len-end.ensures.each)

pub returns-in_default-clause-run : goal.returns-in_default-clause-run
returns-in_default-clause-run c = λ st.
    let rest = c.in_ok-rest.rest.now in
    let end = c.name_len-end.result in
    let same = c.as_bytes.ensures.value in
    let behind = c.skip_spaces-behind.result.now in
    rw c.stuck-in_default.ensures
    (head_named c.args.text.now rest c.split_at.result.1.now behind end st c.in_ok-rest.ensures.run c.if-end-eq0.false (rw same at c.name_len-end.ensures.within) (rw same at c.name_len-end.ensures.each) (rw same at c.name_len-end.ensures.ends) c.split_at.ensures.back c.skip_spaces-behind.ensures.skips
    ∙ bracket_lacks (take end rest) behind st c.skip_spaces-behind.ensures.skips.stops c.in_default.ensures.none)

pub returns-clause-run : goal.returns-clause-run
returns-clause-run c = λ st.
    let rest = c.in_ok-rest.rest.now in
    let end = c.name_len-end.result in
    let same = c.as_bytes.ensures.value in
    let behind = c.skip_spaces-behind.result.now in
    head_named c.args.text.now rest c.split_at.result.1.now behind end st c.in_ok-rest.ensures.run c.if-end-eq0.false (rw same at c.name_len-end.ensures.within) (rw same at c.name_len-end.ensures.each) (rw same at c.name_len-end.ensures.ends) c.split_at.ensures.back c.skip_spaces-behind.ensures.skips
    ∙ bracket_opens (take end rest) behind c.in-Some.inside.now st c.in-Some.ensures.found
    ∙ ap (λ (n : List ℕ). run opening ((n, []) ∷ st) c.in-Some.inside.now) (sym c.split_at.ensures.front)
