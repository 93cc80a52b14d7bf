use Rattle.std.proofs.Common.{◌≡◌, get_or, ap, sym, ◌∙◌, arith, ℕ, List}
use Rattle.std.proofs.lemmas.Str.{IsCharBoundary-after_ascii}
use Rattle.asl_lint_calls.proofs.cutting.after_first.Goals as goal

pub range_from-requires : goal.range_from-requires
range_from-requires c = λ lt.
    let first : get_or c.args.text.now 0 0 ≡ c.args.byte = ap (λ (xs : List ℕ). get_or xs 0 0) (sym c.as_bytes-bytes.ensures.value) ∙ c.if-bytes-byte.true in
    IsCharBoundary-after_ascii c.args.text.now 0 c.utf8.text (omega arith) (omega (arith, first, c.requires))
