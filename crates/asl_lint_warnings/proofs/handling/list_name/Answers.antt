use Rattle.std.proofs.Common.{◌∙◌, ◌||◌, ap, sym, List, ℕ}
use Rattle.std.specs.String.{string_bytes}
use Rattle.std.specs.Str.{bytes_eq}
use Rattle.std.specs.HashSet.{contains_text}
use Rattle.asl_json.specs.View.{data_of}
use Rattle.asl_json.specs.declared.value.Json.{Json}
use Rattle.asl_lint_warnings.specs.Handlers.{is_text}
use Rattle.asl_lint_warnings.proofs.Listing.{one_more}
use Rattle.asl_lint_warnings.proofs.handling.list_name.Goals as goal

pub returns-in_ok-insert-in-Text : goal.returns-in_ok-insert-in-Text
returns-in_ok-insert-in-Text c = λ n.
    one_more (string_bytes c.in_ok-from_str-in-Text.field-0) c.args.listed.now c.insert.new.self c.in_ok-insert-in-Text.ensures.updates n
    ∙ ap (λ (bs : List ℕ). contains_text c.args.listed.now n || bytes_eq n bs) (c.in_ok-from_str-in-Text.ensures.ok ∙ c.as_str.ensures)
    ∙ ap (λ (v : Json). contains_text c.args.listed.now n || is_text n (data_of v)) (sym c.in-Text.is)
