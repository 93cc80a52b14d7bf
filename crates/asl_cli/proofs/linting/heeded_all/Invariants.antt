use Rattle.std.specs.Vec.Iter.{into_iter_items}
use Rattle.asl_lint_files.proofs.Paired.{GoesOn}
use Rattle.asl_cli.specs.Linting.{IsHeeded, rules_in}
use Rattle.asl_cli.proofs.linting.heeded_all.Given as goal

abbrev pub invariant-loop-file : goal.invariant-loop-file
invariant-loop-file l = GoesOn (IsHeeded (rules_in l.ignored)) l.fn.files.items (into_iter_items l.file-iterator) l.all.items
