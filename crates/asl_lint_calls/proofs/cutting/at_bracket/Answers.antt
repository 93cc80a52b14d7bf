use Rattle.std.proofs.Common.{◌≡◌, get_or, ap, sym, ◌∙◌, arith, ℕ, List}
use Rattle.std.proofs.lemmas.Str.{IsCharBoundary-after_ascii}
use Rattle.asl_lint_calls.proofs.cutting.at_bracket.Goals as goal

pub range_from-requires : goal.range_from-requires
range_from-requires c = λ lt.
    let here : get_or c.args.text.now c.loop-i.i 0 ≡ 40 = ap (λ (xs : List ℕ). get_or xs c.loop-i.i 0) (sym c.as_bytes-bytes.ensures.value) ∙ c.if-bytes-i-eq40.true in
    IsCharBoundary-after_ascii c.args.text.now c.loop-i.i c.utf8.text (omega arith) (omega (arith, here))
