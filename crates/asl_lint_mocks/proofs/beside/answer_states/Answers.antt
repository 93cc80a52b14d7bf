use Rattle.std.proofs.Common.{◌∙◌, ap, List, ℕ}
use Rattle.std.specs.Prelude.{◌||◌}
use Rattle.std.specs.HashSet.{contains_text}
use Rattle.std.specs.Str.{bytes_eq}
use Rattle.std.specs.String.{string_bytes}
use Rattle.asl_lint_mocks.proofs.Naming.{key_more, one_more}
use Rattle.asl_lint_mocks.proofs.beside.answer_states.Goals as goal

pub loop-state-preserved : goal.loop-state-preserved
loop-state-preserved c = λ k.
    let s = c.loop-state.answered in
    let now = one_more (string_bytes c.in_ok-from_str.field-0) s c.insert.new.self c.in_ok-insert.ensures.updates k ∙ ap (λ (bs : List ℕ). contains_text s k || bytes_eq k bs) (c.in_ok-from_str.ensures.ok ∙ c.as_str.ensures) in
    key_more k c.args.states.now c.loop-state.state-index c.state-item.result (contains_text s k) (contains_text c.insert.new.self k) _ c.loop-state-test.true c.state-item.is now (c.loop-state.invariant k)
