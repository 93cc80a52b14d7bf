use Rattle.std.proofs.Common.{◌≡◌, ◌++◌, drop}
use Rattle.asl_project.specs.Spelled.{all_beside}
use Rattle.asl_project.proofs.spelled.all_beside.Given as goal

-- those so far and those of what is left are those of all
abbrev pub invariant-loop-path : goal.invariant-loop-path
invariant-loop-path l = l.names.items ++ all_beside l.file (drop l.path-index l.paths) ≡ all_beside l.file l.paths
