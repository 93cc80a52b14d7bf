use Rattle.std.proofs.Common.{◌≡◌, ◌++◌, drop}
use Rattle.asl_arguments.specs.Given.{said_all}
use Rattle.asl_arguments.proofs.found.copied.Given as goal

-- those so far and those that are left are all
abbrev pub invariant-loop-name : goal.invariant-loop-name
invariant-loop-name l = said_all l.all.items ++ said_all (drop l.name-index l.names) ≡ said_all l.names
