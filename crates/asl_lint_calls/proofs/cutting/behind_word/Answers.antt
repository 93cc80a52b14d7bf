use Rattle.std.proofs.Common.{ap, sym, ◌∙◌, arith, ℕ, List, nat_eq, get_or}
use Rattle.std.specs.List.{starts_with}
use Rattle.std.proofs.lemmas.Str.{IsCharBoundary-after_ascii}
use Rattle.asl_lint_calls.proofs.Ends.{word_here}
use Rattle.asl_lint_calls.proofs.cutting.behind_word.Goals as goal

pub range_from-requires : goal.range_from-requires
range_from-requires c = λ lt.
    let t = c.args.text.now in
    let w = word_here t c.as_bytes-2.result.now c.as_bytes-2.ensures.value (ap (λ (xs : List ℕ). starts_with nat_eq xs c.as_bytes-2.result.now) (sym c.as_bytes.ensures.value) ∙ sym c.starts_with.ensures.value ∙ c.if-starts_with.true) in
    IsCharBoundary-after_ascii t 6 c.utf8.text (omega (arith, w.0)) (omega (arith, w.1))
