use Rattle.std.proofs.Common.{◌∙◌, sym, ap, refl, List, ℕ}
use Rattle.std.proofs.lemmas.Result.{err_from_is_err_and}
use Rattle.asl_rules.specs.private.Steps.{argument, argument_of, closing, spelled, in_wants, stated, run}
use Rattle.asl_rules.specs.private.Words.{status_letters}
use Rattle.asl_rules.specs.declared.atom.Atom.TheVariants as atoms
use Rattle.asl_rules.specs.declared.words.Head.TheVariants as heads
use Rattle.asl_rules.proofs.Stretches.{byte_goes, byte_halts, none_wanted, fails_along}
use Rattle.asl_rules.proofs.atoms.status.Goals as goal

pub returns-in_default-clause-run : goal.returns-in_default-clause-run
returns-in_default-clause-run c = λ ts k. rw c.syntax.ensures (none_wanted ts (argument (argument_of heads.Status)) k c.args.bytes.now c.skip_spaces-rest.result.now c.skip_spaces-rest.ensures.skips c.in_default.ensures.none refl)

pub returns-in_default-begun_by-clause-run : goal.returns-in_default-begun_by-clause-run
unfolding in_wants
returns-in_default-begun_by-clause-run c = λ ts k. rw c.syntax-in_default-begun_by.ensures (byte_halts ts (argument (argument_of heads.Status)) k c.in-Some.first c.args.bytes.now c.skip_spaces-rest.result.now c.in-Some.behind.now c.skip_spaces-rest.ensures.skips c.in-Some.ensures.found (λ left. ap (λ o. stated o k) (sym c.in_default-begun_by.ensures)))

pub returns-in_err-behind-clause-run : goal.returns-in_err-behind-clause-run
unfolding in_wants
returns-in_err-behind-clause-run c = λ ts k.
    let p = err_from_is_err_and c.from_residual.result c.from_residual.ensures.1 in
    let s = c.in-Some-begun_by.status in
    let to = byte_goes ts (argument (argument_of heads.Status)) k c.in-Some.first (spelled (status_letters s) (closing (atoms.Status s))) k c.args.bytes.now c.skip_spaces-rest.result.now c.in-Some.behind.now c.skip_spaces-rest.ensures.skips c.in-Some.ensures.found (λ left. ap (λ o. stated o k) (sym c.in-Some-begun_by.ensures)) in
    rw (p.1, p.2) (fails_along c.in_err-behind.field-0.0 _ _ (to ∙ ap (λ (ls : List ℕ). run ts (spelled ls (closing (atoms.Status s))) k c.in-Some.behind.now) (sym c.letters.ensures)) (c.in_err-behind.ensures.run ts (closing (atoms.Status s)) k))

pub returns-clause-run : goal.returns-clause-run
unfolding in_wants
returns-clause-run c = λ ts k.
    let s = c.in-Some-begun_by.status in
    let to = byte_goes ts (argument (argument_of heads.Status)) k c.in-Some.first (spelled (status_letters s) (closing (atoms.Status s))) k c.args.bytes.now c.skip_spaces-rest.result.now c.in-Some.behind.now c.skip_spaces-rest.ensures.skips c.in-Some.ensures.found (λ left. ap (λ o. stated o k) (sym c.in-Some-begun_by.ensures)) in
    to ∙ ap (λ (ls : List ℕ). run ts (spelled ls (closing (atoms.Status s))) k c.in-Some.behind.now) (sym c.letters.ensures) ∙ c.in_ok-behind.ensures.run ts (closing (atoms.Status s)) k
