use Rattle.std.proofs.Common.{◌∙◌, refl}
use Rattle.std.proofs.lemmas.Result.{err_from_is_err_and}
use Rattle.asl_rules.specs.private.Steps.{argument_of, closing, comma, count, context, between, in_wants}
use Rattle.asl_rules.specs.declared.atom.Atom.TheVariants as atoms
use Rattle.asl_rules.specs.declared.words.Head.TheVariants as heads
use Rattle.asl_rules.proofs.Stretches.{fails_along}
use Rattle.asl_rules.proofs.atoms.argument.Goals as goal

pub returns-in_err-task-in-Done-clause-run : goal.returns-in_err-task-in-Done-clause-run
returns-in_err-task-in-Done-clause-run c = λ k is.
    let p = err_from_is_err_and c.from_residual-in_err-task-in-Done.result c.from_residual-in_err-task-in-Done.ensures.1 in
    rw (p.1, p.2, c.in-Done.is) (c.in_err-task-in-Done.ensures.run (argument_of heads.Done) k (λ t. closing (atoms.Done t)) (λ left j b. refl) refl (λ s. refl) is)

pub returns-in_ok-task-in-Done-clause-run : goal.returns-in_ok-task-in-Done-clause-run
returns-in_ok-task-in-Done-clause-run c = λ k is. rw c.in-Done.is (c.in_ok-task-in-Done.ensures.run (argument_of heads.Done) k (λ t. closing (atoms.Done t)) (λ left j b. refl) refl (λ s. refl) is)

pub returns-in_err-task-in-Failed-clause-run : goal.returns-in_err-task-in-Failed-clause-run
returns-in_err-task-in-Failed-clause-run c = λ k is.
    let p = err_from_is_err_and c.from_residual-in_err-task-in-Failed.result c.from_residual-in_err-task-in-Failed.ensures.1 in
    rw (p.1, p.2, c.in-Failed.is) (c.in_err-task-in-Failed.ensures.run (argument_of heads.Failed) k (λ t. closing (atoms.Failed t)) (λ left j b. refl) refl (λ s. refl) is)

pub returns-in_ok-task-in-Failed-clause-run : goal.returns-in_ok-task-in-Failed-clause-run
returns-in_ok-task-in-Failed-clause-run c = λ k is. rw c.in-Failed.is (c.in_ok-task-in-Failed.ensures.run (argument_of heads.Failed) k (λ t. closing (atoms.Failed t)) (λ left j b. refl) refl (λ s. refl) is)

pub returns-in_err-task-in-Invoked-clause-run : goal.returns-in_err-task-in-Invoked-clause-run
returns-in_err-task-in-Invoked-clause-run c = λ k is.
    let p = err_from_is_err_and c.from_residual-in_err-task-in-Invoked.result c.from_residual-in_err-task-in-Invoked.ensures.1 in
    rw (p.1, p.2, c.in-Invoked.is) (c.in_err-task-in-Invoked.ensures.run (argument_of heads.Invoked) k (λ t. closing (atoms.Invoked t)) (λ left j b. refl) refl (λ s. refl) is)

pub returns-in_ok-task-in-Invoked-clause-run : goal.returns-in_ok-task-in-Invoked-clause-run
returns-in_ok-task-in-Invoked-clause-run c = λ k is. rw c.in-Invoked.is (c.in_ok-task-in-Invoked.ensures.run (argument_of heads.Invoked) k (λ t. closing (atoms.Invoked t)) (λ left j b. refl) refl (λ s. refl) is)

pub returns-in_err-task-in-Returned-clause-run : goal.returns-in_err-task-in-Returned-clause-run
returns-in_err-task-in-Returned-clause-run c = λ k is.
    let p = err_from_is_err_and c.from_residual-in_err-task-in-Returned.result c.from_residual-in_err-task-in-Returned.ensures.1 in
    rw (p.1, p.2, c.in-Returned.is) (c.in_err-task-in-Returned.ensures.run (argument_of heads.Returned) k comma (λ left j b. refl) refl (λ s. refl) is)

pub returns-in_err-rest-in-Returned-clause-run : goal.returns-in_err-rest-in-Returned-clause-run
unfolding in_wants
returns-in_err-rest-in-Returned-clause-run c = λ k is.
    let p = err_from_is_err_and c.from_residual-in_err-rest-in-Returned.result c.from_residual-in_err-rest-in-Returned.ensures.1 in
    let t = c.in_ok-task-in-Returned.task in
    let j = context k.opens k.parts c.in_ok-task-in-Returned.missing in
    let first = c.in_ok-task-in-Returned.ensures.run (argument_of heads.Returned) k comma (λ left i b. refl) refl (λ s. refl) is in
    rw (p.1, p.2, c.in-Returned.is) (fails_along c.in_err-rest-in-Returned.field-0.0 _ _ first (c.in_err-rest-in-Returned.ensures.run c.args.tasks.now (comma t) j (between (count t)) j (λ left b. refl) refl))

pub returns-in_err-count-in-Returned-clause-run : goal.returns-in_err-count-in-Returned-clause-run
unfolding in_wants
returns-in_err-count-in-Returned-clause-run c = λ k is.
    let p = err_from_is_err_and c.from_residual-in_err-count-in-Returned.result c.from_residual-in_err-count-in-Returned.ensures.1 in
    let t = c.in_ok-task-in-Returned.task in
    let j = context k.opens k.parts c.in_ok-task-in-Returned.missing in
    let first = c.in_ok-task-in-Returned.ensures.run (argument_of heads.Returned) k comma (λ left i b. refl) refl (λ s. refl) is in
    let second = c.in_ok-rest-in-Returned.ensures.run c.args.tasks.now (comma t) j (between (count t)) j (λ left b. refl) refl in
    rw (p.1, p.2, c.in-Returned.is) (fails_along c.in_err-count-in-Returned.field-0.0 _ _ (first ∙ second) (c.in_err-count-in-Returned.ensures.run c.args.tasks.now t j))

pub returns-in_ok-count-in-Returned-clause-run : goal.returns-in_ok-count-in-Returned-clause-run
unfolding in_wants
returns-in_ok-count-in-Returned-clause-run c = λ k is.
    let t = c.in_ok-task-in-Returned.task in
    let j = context k.opens k.parts c.in_ok-task-in-Returned.missing in
    let first = c.in_ok-task-in-Returned.ensures.run (argument_of heads.Returned) k comma (λ left i b. refl) refl (λ s. refl) is in
    let second = c.in_ok-rest-in-Returned.ensures.run c.args.tasks.now (comma t) j (between (count t)) j (λ left b. refl) refl in
    rw c.in-Returned.is (first ∙ second ∙ c.in_ok-count-in-Returned.ensures.run c.args.tasks.now t j)
