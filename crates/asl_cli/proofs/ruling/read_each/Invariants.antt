use Rattle.std.proofs.Common.{◌≡◌, Ok, drop}
use Rattle.asl_explore_errors.specs.Searches.{names_in}
use Rattle.asl_cli.specs.Ruling.{rules_behind}
use Rattle.asl_cli.proofs.ruling.read_each.Given as goal

-- those that are left behind those so far are all
abbrev pub invariant-loop-text : goal.invariant-loop-text
invariant-loop-text l = rules_behind l.kind l.tasks (Ok l.rules.items) (names_in (drop l.text-index l.texts)) ≡ rules_behind l.kind l.tasks (Ok l.fn.rules.items) (names_in l.texts)
