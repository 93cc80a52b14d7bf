use Rattle.std.proofs.Common.{◌∙◌, ◌∷◌, sym}
use Rattle.std.proofs.lemmas.Result.{err_from_is_err_and}
use Rattle.std.specs.Prelude.{codes}
use Rattle.asl_rules.specs.declared.open.Open.TheVariants as opens
use Rattle.asl_rules.specs.private.Parts.{no_parts}
use Rattle.asl_rules.specs.private.Steps.{operand, between, spelled, context, in_wants, in_operand}
use Rattle.asl_rules.proofs.Stretches.{at_once, byte_goes, byte_halts, deep_halts, deep_goes, fails_along}
use Rattle.asl_rules.proofs.reading.operand.Goals as goal

pub returns-then-len-ge-MAX_OPEN-clause-run : goal.returns-then-len-ge-MAX_OPEN-clause-run
unfolding in_wants in_operand
returns-then-len-ge-MAX_OPEN-clause-run c =
    let ts = c.args.tasks.now in
    let rest = c.args.rest.now in
    let k = context c.args.opens c.args.parts c.args.missing in
    rw c.syntax.ensures (byte_halts ts operand k 40 rest rest c.in-Some.inside.now (at_once rest c.requires.no_space) c.in-Some.ensures.found (λ left. deep_halts c.args.opens _ (rw (sym c.len.ensures) c.if-len-ge-MAX_OPEN.true)))

pub returns-in-Some-clause-run : goal.returns-in-Some-clause-run
unfolding in_wants in_operand
returns-in-Some-clause-run c =
    let ts = c.args.tasks.now in
    let rest = c.args.rest.now in
    let k = context c.args.opens c.args.parts c.args.missing in
    rw (c.in_ok-with.ensures, c.new.ensures) (byte_goes ts operand k 40 (between operand) (context (opens.Group c.args.parts ∷ c.args.opens) no_parts c.args.missing) rest rest c.in-Some.inside.now (at_once rest c.requires.no_space) c.in-Some.ensures.found (λ left. deep_goes c.args.opens _ (rw (sym c.len.ensures) c.if-len-ge-MAX_OPEN.false)))

pub returns-then-len-ge-MAX_OPEN-2-clause-run : goal.returns-then-len-ge-MAX_OPEN-2-clause-run
unfolding in_wants in_operand
returns-then-len-ge-MAX_OPEN-2-clause-run c =
    let ts = c.args.tasks.now in
    let rest = c.args.rest.now in
    let k = context c.args.opens c.args.parts c.args.missing in
    rw c.syntax-then-len-ge-MAX_OPEN-2.ensures (byte_halts ts operand k 110 rest rest c.in-Some-after_byte.inside.now (at_once rest c.requires.no_space) c.in-Some-after_byte.ensures.found (λ left. deep_halts c.args.opens _ (rw (sym c.len-in-Some-after_byte.ensures) c.if-len-ge-MAX_OPEN-2.true)))

pub returns-in_err-denied-clause-run : goal.returns-in_err-denied-clause-run
unfolding in_wants in_operand
returns-in_err-denied-clause-run c =
    let p = err_from_is_err_and c.from_residual-in_err-denied.result c.from_residual-in_err-denied.ensures.1 in
    let ts = c.args.tasks.now in
    let rest = c.args.rest.now in
    let k = context c.args.opens c.args.parts c.args.missing in
    let j = context (opens.Not ∷ c.args.opens) c.args.parts c.args.missing in
    let to = byte_goes ts operand k 110 (spelled (codes "ot") operand) j rest rest c.in-Some-after_byte.inside.now (at_once rest c.requires.no_space) c.in-Some-after_byte.ensures.found (λ left. deep_goes c.args.opens _ (rw (sym c.len-in-Some-after_byte.ensures) c.if-len-ge-MAX_OPEN-2.false)) in
    rw (p.1, p.2) (fails_along c.in_err-denied.field-0.0 _ _ to (c.in_err-denied.ensures.run ts operand j))

pub returns-in-Some-after_byte-clause-run : goal.returns-in-Some-after_byte-clause-run
unfolding in_wants in_operand
returns-in-Some-after_byte-clause-run c =
    let ts = c.args.tasks.now in
    let rest = c.args.rest.now in
    let k = context c.args.opens c.args.parts c.args.missing in
    let j = context (opens.Not ∷ c.args.opens) c.args.parts c.args.missing in
    let to = byte_goes ts operand k 110 (spelled (codes "ot") operand) j rest rest c.in-Some-after_byte.inside.now (at_once rest c.requires.no_space) c.in-Some-after_byte.ensures.found (λ left. deep_goes c.args.opens _ (rw (sym c.len-in-Some-after_byte.ensures) c.if-len-ge-MAX_OPEN-2.false)) in
    rw c.in_ok-with-2.ensures (to ∙ c.in_ok-denied.ensures.run ts operand j)
