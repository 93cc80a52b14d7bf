use Rattle.std.proofs.Common.{◌≡◌, drop}
use Rattle.std.specs.List.{list_any}
use Rattle.std.specs.Str.{bytes_eq}
use Rattle.asl_cli.proofs.linting.is_among.Given as goal

-- what is left decides
abbrev pub invariant-loop-rule : goal.invariant-loop-rule
invariant-loop-rule l =
    list_any (λ r. bytes_eq r l.name) l.rules ≡ list_any (λ r. bytes_eq r l.name) (drop l.rule-index l.rules)
