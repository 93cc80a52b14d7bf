use Rattle.std.proofs.Common.{◌≡◌, ◌-◌, get_or, length, take, ap, sym, ◌∙◌, arith, ℕ, suc, List}
use Rattle.std.specs.Prelude.{Some}
use Rattle.asl_lint_calls.proofs.Ends.{last_found, last_missing}
use Rattle.asl_lint_calls.proofs.cutting.before_last.Goals as goal
use Rattle.asl_lint_calls.proofs.cutting.before_last.Goals.{else-bytes-gt0-via-then-bytes-gt0+else-bytes-byte, else-bytes-gt0-via-else-bytes-gt0}

pub returns-then-bytes-byte : goal.returns-then-bytes-byte
returns-then-bytes-byte c =
    let t = c.args.text.now in
    let same = c.as_bytes-bytes.ensures.value in
    let last : get_or t (length t - 1) 0 ≡ c.args.byte = ap (λ (xs : List ℕ). get_or xs (length xs - 1) 0) (sym same) ∙ c.if-bytes-byte.true in
    let front : take (length t - 1) t ≡ c.range.result.now = ap (λ (n : ℕ). take n t) (omega (arith, ap length same)) ∙ sym c.range.ensures.value in
    sym (last_found c.args.byte t (length t - 1) (omega (arith, c.if-bytes-gt0.true, ap length same)) last ∙ ap Some front)

pub returns : goal.returns
returns c =
    let t = c.args.text.now in
    let same = c.as_bytes-bytes.ensures.value in
    sym (last_missing c.args.byte t (λ n l g. elim c.else-bytes-gt0.branch [
      | else-bytes-gt0-via-then-bytes-gt0+else-bytes-byte w ↦
          let at : length c.as_bytes-bytes.result.now - 1 ≡ n = omega (arith, l, ap length same) in
          w.if-bytes-byte.false (ap (λ (xs : List ℕ). get_or xs (length c.as_bytes-bytes.result.now - 1) 0) same ∙ ap (λ (k : ℕ). get_or t k 0) at ∙ g)
      | else-bytes-gt0-via-else-bytes-gt0 w ↦ omega (arith, l, ap length same, w.if-bytes-gt0.false)
    ]))
