use Rattle.std.proofs.Common.{◌≡◌, ◌++◌, ◌∙◌, sym, ap, List, ℕ}
use Rattle.std.specs.Char.{encode_utf8}
use Rattle.std.proofs.lemmas.Str.{chars_past_char}
use Rattle.asl_lint_calls.proofs.holes.next_char.Goals as goal

pub returns-clause-parts : goal.returns-clause-parts
returns-clause-parts c =
    let parts : c.args.text.now ≡ encode_utf8 c.in_ok-first.first ++ c.as_str.result.now = sym c.chars-rest.ensures.rest ∙ c.in_ok-first.ensures.steps.0 ∙ ap (λ (t : List ℕ). encode_utf8 c.in_ok-first.first ++ t) (sym c.as_str.ensures) in
    chars_past_char c.args.text.now c.as_str.result.now c.in_ok-first.first c.utf8.text parts
