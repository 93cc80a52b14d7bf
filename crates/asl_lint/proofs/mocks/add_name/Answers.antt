use Rattle.std.proofs.Common.{◌∙◌, ap, List, ℕ}
use Rattle.std.specs.Prelude.{◌||◌}
use Rattle.std.specs.HashSet.{contains_text}
use Rattle.std.specs.Str.{bytes_eq}
use Rattle.std.specs.String.{string_bytes}
use Rattle.asl_lint_mocks.proofs.Naming.{one_more}
use Rattle.asl_lint.proofs.mocks.add_name.Goals as goal

pub returns : goal.returns
returns c = λ k.
    one_more (string_bytes c.in_ok-from_str.field-0) c.args.names.now c.insert.new.self c.in_ok-insert.ensures.updates k
    ∙ ap (λ (bs : List ℕ). contains_text c.args.names.now k || bytes_eq k bs) c.in_ok-from_str.ensures.ok
