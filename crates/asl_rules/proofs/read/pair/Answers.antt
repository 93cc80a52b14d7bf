use Rattle.std.proofs.Common.{◌∙◌, [], refl}
use Rattle.std.specs.Prelude.{None}
use Rattle.std.proofs.lemmas.Result.{err_from_is_err_and}
use Rattle.asl_rules.specs.private.Parts.{no_parts}
use Rattle.asl_rules.specs.private.Steps.{undone, undoing, equals, over, argument, between, context, in_wants}
use Rattle.asl_rules.proofs.Stretches.{fails_along, over_ends, over_more}
use Rattle.asl_rules.proofs.read.pair.Goals as goal

pub returns-in_err-done : goal.returns-in_err-done
returns-in_err-done c =
    let p = err_from_is_err_and c.from_residual.result c.from_residual.ensures.1 in
    rw (p.1, p.2) (c.in_err-done.ensures.run undone (context [] no_parts None) equals (λ left i b. refl) refl (λ s. refl) refl)

pub returns-in_err-rest : goal.returns-in_err-rest
unfolding in_wants
returns-in_err-rest c =
    let p = err_from_is_err_and c.from_residual-in_err-rest.result c.from_residual-in_err-rest.ensures.1 in
    let ts = c.args.tasks.now in
    let k = context [] no_parts None in
    let d = c.in_ok-done.done in
    let j = context [] no_parts c.in_ok-done.missing in
    let first = c.in_ok-done.ensures.run undone k equals (λ left i b. refl) refl (λ s. refl) refl in
    rw (p.1, p.2) (fails_along c.in_err-rest.field-0.0 _ _ first (c.in_err-rest.ensures.run ts (equals d) j (between (argument (undoing d))) j (λ left b. refl) refl))

pub returns-in_err-undone : goal.returns-in_err-undone
unfolding in_wants
returns-in_err-undone c =
    let p = err_from_is_err_and c.from_residual-in_err-undone.result c.from_residual-in_err-undone.ensures.1 in
    let ts = c.args.tasks.now in
    let k = context [] no_parts None in
    let d = c.in_ok-done.done in
    let j = context [] no_parts c.in_ok-done.missing in
    let first = c.in_ok-done.ensures.run undone k equals (λ left i b. refl) refl (λ s. refl) refl in
    let second = c.in_ok-rest.ensures.run ts (equals d) j (between (argument (undoing d))) j (λ left b. refl) refl in
    rw (p.1, p.2) (fails_along c.in_err-undone.field-0.0 _ _ (first ∙ second) (c.in_err-undone.ensures.run (undoing d) j (over d) (λ left i b. refl) refl (λ s. refl) refl))

pub returns-then-rest-gt0 : goal.returns-then-rest-gt0
unfolding in_wants
returns-then-rest-gt0 c =
    let ts = c.args.tasks.now in
    let k = context [] no_parts None in
    let d = c.in_ok-done.done in
    let j = context [] no_parts c.in_ok-done.missing in
    let first = c.in_ok-done.ensures.run undone k equals (λ left i b. refl) refl (λ s. refl) refl in
    let second = c.in_ok-rest.ensures.run ts (equals d) j (between (argument (undoing d))) j (λ left b. refl) refl in
    let u = c.in_ok-undone.undone in
    let l = context [] no_parts c.in_ok-undone.missing in
    let third = c.in_ok-undone.ensures.run (undoing d) j (over d) (λ left i b. refl) refl (λ s. refl) refl in
    rw c.syntax.ensures (first ∙ second ∙ third ∙ over_more ts d u l c.in_ok-undone.rest.now c.skip_spaces-rest.result.now c.skip_spaces-rest.ensures.skips c.if-rest-gt0.true)

pub returns : goal.returns
unfolding in_wants
returns c =
    let ts = c.args.tasks.now in
    let k = context [] no_parts None in
    let d = c.in_ok-done.done in
    let j = context [] no_parts c.in_ok-done.missing in
    let first = c.in_ok-done.ensures.run undone k equals (λ left i b. refl) refl (λ s. refl) refl in
    let second = c.in_ok-rest.ensures.run ts (equals d) j (between (argument (undoing d))) j (λ left b. refl) refl in
    let u = c.in_ok-undone.undone in
    let l = context [] no_parts c.in_ok-undone.missing in
    let third = c.in_ok-undone.ensures.run (undoing d) j (over d) (λ left i b. refl) refl (λ s. refl) refl in
    first ∙ second ∙ third ∙ over_ends ts d u l c.in_ok-undone.rest.now c.skip_spaces-rest.result.now c.skip_spaces-rest.ensures.skips c.if-rest-gt0.false
