use Rattle.std.proofs.Common.{◌∙◌, sym, ap, refl}
use Rattle.std.proofs.lemmas.Result.{err_from_is_err_and}
use Rattle.std.specs.Prelude.{codes}
use Rattle.asl_rules.specs.private.Parts.{with_and, with_or, with_implies}
use Rattle.asl_rules.specs.private.Steps.{operand, operator, between, spelled, context, run, in_wants, in_operator}
use Rattle.asl_rules.proofs.Stretches.{at_once, byte_goes, byte_halts, fails_along, no_operator}
use Rattle.asl_rules.specs.private.Hears.{wants, context_of, next_of}
use Rattle.asl_rules.proofs.reading.operator.Goals as goal

pub returns-in_err-behind-clause-run : goal.returns-in_err-behind-clause-run
unfolding in_wants in_operator
returns-in_err-behind-clause-run c = λ ts.
    let p = err_from_is_err_and c.from_residual.result c.from_residual.ensures.1 in
    let rest = c.args.rest.now in
    let o = c.args.operand in
    let k = context c.args.opens c.args.parts c.args.missing in
    let j = context c.args.opens (with_and c.args.parts o) c.args.missing in
    let to = byte_goes ts (operator o) k 97 (spelled (codes "nd") operand) j rest rest c.in-Some.inside.now (at_once rest c.requires.no_space) c.in-Some.ensures.found (λ left. refl) in
    rw (p.1, p.2) (fails_along c.in_err-behind.field-0.0 _ _ to (c.in_err-behind.ensures.run ts operand j))

pub returns-in-Some-clause-run : goal.returns-in-Some-clause-run
unfolding in_wants in_operator
returns-in-Some-clause-run c = λ ts.
    let rest = c.args.rest.now in
    let o = c.args.operand in
    let k = context c.args.opens c.args.parts c.args.missing in
    let j = context c.args.opens (with_and c.args.parts o) c.args.missing in
    let to = byte_goes ts (operator o) k 97 (spelled (codes "nd") operand) j rest rest c.in-Some.inside.now (at_once rest c.requires.no_space) c.in-Some.ensures.found (λ left. refl) in
    rw (c.wanting.ensures, c.in_ok-and.ensures) (to ∙ c.in_ok-behind.ensures.run ts operand j)

pub returns-in_err-behind-2-clause-run : goal.returns-in_err-behind-2-clause-run
unfolding in_wants in_operator
returns-in_err-behind-2-clause-run c = λ ts.
    let p = err_from_is_err_and c.from_residual-in_err-behind-2.result c.from_residual-in_err-behind-2.ensures.1 in
    let rest = c.args.rest.now in
    let o = c.args.operand in
    let k = context c.args.opens c.args.parts c.args.missing in
    let j = context c.args.opens (with_or c.args.parts o) c.args.missing in
    let to = byte_goes ts (operator o) k 111 (spelled (codes "r") operand) j rest rest c.in-Some-after_byte.inside.now (at_once rest c.requires.no_space) c.in-Some-after_byte.ensures.found (λ left. refl) in
    rw (p.1, p.2) (fails_along c.in_err-behind-2.field-0.0 _ _ to (c.in_err-behind-2.ensures.run ts operand j))

pub returns-in-Some-after_byte-clause-run : goal.returns-in-Some-after_byte-clause-run
unfolding in_wants in_operator
returns-in-Some-after_byte-clause-run c = λ ts.
    let rest = c.args.rest.now in
    let o = c.args.operand in
    let k = context c.args.opens c.args.parts c.args.missing in
    let j = context c.args.opens (with_or c.args.parts o) c.args.missing in
    let to = byte_goes ts (operator o) k 111 (spelled (codes "r") operand) j rest rest c.in-Some-after_byte.inside.now (at_once rest c.requires.no_space) c.in-Some-after_byte.ensures.found (λ left. refl) in
    rw (c.wanting-in-Some-after_byte.ensures, c.in_ok-or.ensures) (to ∙ c.in_ok-behind-2.ensures.run ts operand j)

pub returns-in_err-behind-3-clause-run : goal.returns-in_err-behind-3-clause-run
unfolding in_wants in_operator
returns-in_err-behind-3-clause-run c = λ ts.
    let p = err_from_is_err_and c.from_residual-in_err-behind-3.result c.from_residual-in_err-behind-3.ensures.1 in
    let rest = c.args.rest.now in
    let o = c.args.operand in
    let k = context c.args.opens c.args.parts c.args.missing in
    let j = context c.args.opens (with_implies c.args.parts o) c.args.missing in
    let to = byte_goes ts (operator o) k 61 (spelled (codes ">") operand) j rest rest c.in-Some-after_byte-2.inside.now (at_once rest c.requires.no_space) c.in-Some-after_byte-2.ensures.found (λ left. refl) in
    rw (p.1, p.2) (fails_along c.in_err-behind-3.field-0.0 _ _ to (c.in_err-behind-3.ensures.run ts operand j))

pub returns-in-Some-after_byte-2-clause-run : goal.returns-in-Some-after_byte-2-clause-run
unfolding in_wants in_operator
returns-in-Some-after_byte-2-clause-run c = λ ts.
    let rest = c.args.rest.now in
    let o = c.args.operand in
    let k = context c.args.opens c.args.parts c.args.missing in
    let j = context c.args.opens (with_implies c.args.parts o) c.args.missing in
    let to = byte_goes ts (operator o) k 61 (spelled (codes ">") operand) j rest rest c.in-Some-after_byte-2.inside.now (at_once rest c.requires.no_space) c.in-Some-after_byte-2.ensures.found (λ left. refl) in
    rw (c.wanting-in-Some-after_byte-2.ensures, c.in_ok-implies.ensures) (to ∙ c.in_ok-behind-3.ensures.run ts operand j)

pub returns-in_default-after_byte-3-clause-run : goal.returns-in_default-after_byte-3-clause-run
returns-in_default-after_byte-3-clause-run c = λ ts.
    rw c.syntax.ensures (no_operator ts c.args.operand (context c.args.opens c.args.parts c.args.missing) c.args.rest.now c.requires.some c.requires.no_space c.in_default.ensures.none c.in_default-after_byte.ensures.none c.in_default-after_byte-2.ensures.none c.in_default-after_byte-3.ensures.none)

pub returns-in-Some-2-clause-run : goal.returns-in-Some-2-clause-run
unfolding in_wants in_operator
returns-in-Some-2-clause-run c = λ ts.
    let rest = c.args.rest.now in
    let o = c.args.operand in
    let k = context c.args.opens c.args.parts c.args.missing in
    let r = c.in-Some-2.reader in
    let is = sym c.in_ok-reader.ensures.run ∙ ap next_of c.in-Some-2.is in
    let rest_is = rw c.in-Some-2.is at c.in_ok-reader.ensures.rest in
    byte_goes ts (operator o) k 41 (between (wants r.place)) (context_of r) rest rest c.in-Some-after_byte-3.inside.now (at_once rest c.requires.no_space) c.in-Some-after_byte-3.ensures.found (λ left. is) ∙ ap (run ts (between (wants r.place)) (context_of r)) (sym rest_is)

pub returns-in-None-clause-run : goal.returns-in-None-clause-run
unfolding in_wants in_operator
returns-in-None-clause-run c = λ ts.
    let rest = c.args.rest.now in
    let k = context c.args.opens c.args.parts c.args.missing in
    rw c.syntax-in-None.ensures (byte_halts ts (operator c.args.operand) k 41 rest rest c.in-Some-after_byte-3.inside.now (at_once rest c.requires.no_space) c.in-Some-after_byte-3.ensures.found (λ left. sym c.in_ok-reader.ensures.run ∙ ap next_of c.in-None.is))
