use Rattle.std.proofs.Common.{◌≡◌, drop}
use Rattle.toml.specs.View.{items_view}
use Rattle.asl_project.specs.Form.{all_texts}
use Rattle.asl_project.proofs.form.all_texts.Given as goal

-- what is left decides
abbrev pub invariant-loop-value : goal.invariant-loop-value
invariant-loop-value l = all_texts (items_view l.values) ≡ all_texts (items_view (drop l.value-index l.values))
