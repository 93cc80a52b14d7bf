use Rattle.std.proofs.Common.{◌∙◌, sym, ap, refl, List, ℕ}
use Rattle.std.proofs.lemmas.Result.{err_from_is_err_and}
use Rattle.asl_rules.specs.private.Steps.{operand, bracket, spelled, headed, run}
use Rattle.asl_rules.specs.private.Words.{head_letters}
use Rattle.asl_rules.proofs.Stretches.{byte_goes, byte_halts, none_wanted, fails_along, headed_by, at_once}
use Rattle.asl_rules.proofs.atoms.head.Goals as goal

pub returns-in_default-clause-run : goal.returns-in_default-clause-run
returns-in_default-clause-run c = λ ts k. rw c.syntax.ensures (none_wanted ts operand k c.args.bytes.now c.args.bytes.now (at_once c.args.bytes.now c.requires.no_space) c.in_default.ensures.none refl)

pub returns-in_default-begun_by-clause-run : goal.returns-in_default-begun_by-clause-run
returns-in_default-begun_by-clause-run c = λ ts k. rw c.syntax-in_default-begun_by.ensures (byte_halts ts operand k c.in-Some.first c.args.bytes.now c.args.bytes.now c.in-Some.behind.now (at_once c.args.bytes.now c.requires.no_space) c.in-Some.ensures.found (λ left. headed_by left k c.in-Some.first c.args.bytes.now c.in-Some.behind.now c.in-Some.ensures.found c.requires.no_group c.requires.no_not ∙ ap (λ o. headed o k) (sym c.in_default-begun_by.ensures)))

pub returns-in_err-behind-clause-run : goal.returns-in_err-behind-clause-run
returns-in_err-behind-clause-run c = λ ts k.
    let p = err_from_is_err_and c.from_residual.result c.from_residual.ensures.1 in
    let h = c.in-Some-begun_by.head in
    let to = byte_goes ts operand k c.in-Some.first (spelled (head_letters h) (bracket h)) k c.args.bytes.now c.args.bytes.now c.in-Some.behind.now (at_once c.args.bytes.now c.requires.no_space) c.in-Some.ensures.found (λ left. headed_by left k c.in-Some.first c.args.bytes.now c.in-Some.behind.now c.in-Some.ensures.found c.requires.no_group c.requires.no_not ∙ ap (λ o. headed o k) (sym c.in-Some-begun_by.ensures)) in
    rw (p.1, p.2) (fails_along c.in_err-behind.field-0.0 _ _ (to ∙ ap (λ (ls : List ℕ). run ts (spelled ls (bracket h)) k c.in-Some.behind.now) (sym c.letters.ensures)) (c.in_err-behind.ensures.run ts (bracket h) k))

pub returns-clause-run : goal.returns-clause-run
returns-clause-run c = λ ts k.
    let h = c.in-Some-begun_by.head in
    let to = byte_goes ts operand k c.in-Some.first (spelled (head_letters h) (bracket h)) k c.args.bytes.now c.args.bytes.now c.in-Some.behind.now (at_once c.args.bytes.now c.requires.no_space) c.in-Some.ensures.found (λ left. headed_by left k c.in-Some.first c.args.bytes.now c.in-Some.behind.now c.in-Some.ensures.found c.requires.no_group c.requires.no_not ∙ ap (λ o. headed o k) (sym c.in-Some-begun_by.ensures)) in
    to ∙ ap (λ (ls : List ℕ). run ts (spelled ls (bracket h)) k c.in-Some.behind.now) (sym c.letters.ensures) ∙ c.in_ok-behind.ensures.run ts (bracket h) k
