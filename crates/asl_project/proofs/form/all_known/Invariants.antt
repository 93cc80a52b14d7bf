use Rattle.std.proofs.Common.{◌≡◌}
use Rattle.toml.specs.View.{table_view, members_view}
use Rattle.asl_project.specs.Form.{all_known}
use Rattle.asl_project.proofs.form.all_known.Given as goal

-- what is left decides
abbrev pub invariant-loop-key : goal.invariant-loop-key
invariant-loop-key l =
    (goal.iterator-loop-key).can_next l.key-iterator ×
    (goal.iterator-loop-key).is_finite l.key-iterator ×
    (all_known l.level (table_view l.table) ≡ all_known l.level (members_view l.key-iterator))
