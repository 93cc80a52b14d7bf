use Rattle.std.proofs.Common.{◌∙◌, refl}
use Rattle.std.proofs.lemmas.Result.{err_from_is_err_and}
use Rattle.asl_rules.specs.Tree.{atom}
use Rattle.asl_rules.specs.private.Steps.{argument_of, bracket, argument, closing, operator, context, between, behind_nots, denied_by, in_wants}
use Rattle.asl_rules.proofs.Stretches.{fails_along}
use Rattle.asl_rules.proofs.atoms.atom.Goals as goal

pub returns-in_err-rest-clause-run : goal.returns-in_err-rest-clause-run
unfolding in_wants
returns-in_err-rest-clause-run c = λ k is.
    let p = err_from_is_err_and c.from_residual-in_err-rest.result c.from_residual-in_err-rest.ensures.1 in
    let h = c.in_ok-head.head in
    rw (p.1, p.2) (fails_along c.in_err-rest.field-0.0 _ _ (c.in_ok-head.ensures.run c.args.tasks.now k) (c.in_err-rest.ensures.run c.args.tasks.now (bracket h) k (between (argument (argument_of h))) k (λ left b. refl) refl))

pub returns-in_err-atom-clause-run : goal.returns-in_err-atom-clause-run
unfolding in_wants
returns-in_err-atom-clause-run c = λ k is.
    let p = err_from_is_err_and c.from_residual-in_err-atom.result c.from_residual-in_err-atom.ensures.1 in
    let h = c.in_ok-head.head in
    let second = c.in_ok-rest.ensures.run c.args.tasks.now (bracket h) k (between (argument (argument_of h))) k (λ left b. refl) refl in
    rw (p.1, p.2) (fails_along c.in_err-atom.field-0.0 _ _ (c.in_ok-head.ensures.run c.args.tasks.now k ∙ second) (c.in_err-atom.ensures.run k is))

pub returns-in_err-rest-2-clause-run : goal.returns-in_err-rest-2-clause-run
unfolding in_wants
returns-in_err-rest-2-clause-run c = λ k is.
    let p = err_from_is_err_and c.from_residual-in_err-rest-2.result c.from_residual-in_err-rest-2.ensures.1 in
    let h = c.in_ok-head.head in
    let a = c.in_ok-atom.atom in
    let j = context k.opens k.parts c.in_ok-atom.missing in
    let second = c.in_ok-rest.ensures.run c.args.tasks.now (bracket h) k (between (argument (argument_of h))) k (λ left b. refl) refl in
    rw (p.1, p.2) (fails_along c.in_err-rest-2.field-0.0 _ _ (c.in_ok-head.ensures.run c.args.tasks.now k ∙ second ∙ c.in_ok-atom.ensures.run k is) (c.in_err-rest-2.ensures.run c.args.tasks.now (closing a) j (between (operator (denied_by k.opens (atom a)))) (context (behind_nots k.opens) k.parts c.in_ok-atom.missing) (λ left b. refl) refl))

pub returns-clause-run : goal.returns-clause-run
unfolding in_wants
returns-clause-run c = λ k is.
    let h = c.in_ok-head.head in
    let a = c.in_ok-atom.atom in
    let j = context k.opens k.parts c.in_ok-atom.missing in
    let second = c.in_ok-rest.ensures.run c.args.tasks.now (bracket h) k (between (argument (argument_of h))) k (λ left b. refl) refl in
    let last = c.in_ok-rest-2.ensures.run c.args.tasks.now (closing a) j (between (operator (denied_by k.opens (atom a)))) (context (behind_nots k.opens) k.parts c.in_ok-atom.missing) (λ left b. refl) refl in
    c.in_ok-head.ensures.run c.args.tasks.now k ∙ second ∙ c.in_ok-atom.ensures.run k is ∙ last
