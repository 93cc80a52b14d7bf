use Rattle.std.proofs.Common.{◌∙◌, ap, sym, List, ℕ}
use Rattle.std.specs.Prelude.{◌||◌}
use Rattle.std.specs.HashSet.{contains_text}
use Rattle.std.specs.Str.{bytes_eq}
use Rattle.std.specs.String.{string_bytes}
use Rattle.asl_json.specs.View.{data_of}
use Rattle.asl_json.specs.declared.value.Json.{Json}
use Rattle.asl_lint_mocks.specs.Warnings.{is_text}
use Rattle.asl_lint_mocks.proofs.Naming.{one_more}
use Rattle.asl_lint_mocks.proofs.names.name_state.Goals as goal

pub returns-in_ok-insert-in-Text : goal.returns-in_ok-insert-in-Text
returns-in_ok-insert-in-Text c = λ k.
    one_more (string_bytes c.in_ok-from_str-in-Text.field-0) c.args.named.now c.insert.new.self c.in_ok-insert-in-Text.ensures.updates k
    ∙ ap (λ (bs : List ℕ). contains_text c.args.named.now k || bytes_eq k bs) (c.in_ok-from_str-in-Text.ensures.ok ∙ c.as_str.ensures)
    ∙ ap (λ (v : Json). contains_text c.args.named.now k || is_text k (data_of v)) (sym c.in-Text.is)
