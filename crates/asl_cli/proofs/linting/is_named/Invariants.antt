use Rattle.std.proofs.Common.{◌≡◌, drop}
use Rattle.std.specs.List.{list_any}
use Rattle.std.specs.Str.{bytes_eq}
use Rattle.asl_arguments.specs.Given.{said_all}
use Rattle.asl_cli.proofs.linting.is_named.Given as goal

-- what is left decides
abbrev pub invariant-loop-rule : goal.invariant-loop-rule
invariant-loop-rule l =
    list_any (λ r. bytes_eq r l.name) (said_all l.rules) ≡ list_any (λ r. bytes_eq r l.name) (said_all (drop l.rule-index l.rules))
