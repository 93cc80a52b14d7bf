use Rattle.std.proofs.Common.{◌∙◌, ap, sym, subst, List, ℕ, ◌≡◌, ◌∷◌, true, drop, get_or, length, ◌+◌, nat_lt, arith}
use Rattle.std.proofs.lemmas.List.{drop_more}
use Rattle.std.proofs.lemmas.Bool.{and_parts}
use Rattle.asl_rules.specs.private.Leads.{are_ascii}
use Rattle.asl_rules.specs.private.Steps.{spelled, run}
use Rattle.asl_rules.proofs.Stretches.{letter_goes, letter_halts}
use Rattle.asl_rules.proofs.front.letters.Goals as goal

pub after_byte-requires : goal.after_byte-requires
after_byte-requires c =
    let all = c.args.expected.now in
    let i = c.loop-letter.letter-index in
    let is : are_ascii (get_or all i 0 ∷ drop (i + 1) all) ≡ true = subst (λ (xs : List ℕ). are_ascii xs ≡ true) (drop_more all i 0 c.loop-letter-test.true) c.loop-letter.invariant.1 in
    let first = and_parts (nat_lt (get_or all i 0) 128) (are_ascii (drop (i + 1) all)) is in
    grind (arith, first.0)

pub returns-in_default-clause-run : goal.returns-in_default-clause-run
returns-in_default-clause-run c = λ ts w k.
    let all = c.args.expected.now in
    let i = c.loop-letter.letter-index in
    rw c.syntax.ensures (sym (c.loop-letter.invariant.0 ts w k) ∙ ap (λ (xs : List ℕ). run ts (spelled xs w) k c.loop-letter.rest.now) (drop_more all i 0 c.loop-letter-test.true) ∙ letter_halts ts (get_or all i 0) (drop (i + 1) all) w k c.loop-letter.rest.now c.in_default.ensures.none)

pub loop-letter-preserved : goal.loop-letter-preserved
loop-letter-preserved c =
    let all = c.args.expected.now in
    let i = c.loop-letter.letter-index in
    let parts = drop_more all i 0 c.loop-letter-test.true in
    let is : are_ascii (get_or all i 0 ∷ drop (i + 1) all) ≡ true = subst (λ (xs : List ℕ). are_ascii xs ≡ true) parts c.loop-letter.invariant.1 in
    let rest = c.loop-letter.rest.now in
    let next = c.in-Some.next.now in (
      λ ts w k. sym (letter_goes ts (get_or all i 0) (drop (i + 1) all) w k next) ∙ ap (λ (xs : List ℕ). run ts (spelled xs w) k (get_or all i 0 ∷ next)) (sym parts) ∙ ap (run ts (spelled (drop i all) w) k) (sym c.in-Some.ensures.found) ∙ c.loop-letter.invariant.0 ts w k,
      (and_parts (nat_lt (get_or all i 0) 128) (are_ascii (drop (i + 1) all)) is).1,
      c.in-Some.ensures.utf8 c.loop-letter.invariant.2,
      omega (arith, ap length c.in-Some.ensures.found, c.loop-letter.invariant.3),
    )
