use Rattle.std.proofs.Common.{◌≡◌, ◌++◌, drop}
use Rattle.asl_explore_errors.specs.Searches.{names_in}
use Rattle.asl_explore_errors.proofs.failing.texts_of.Given as goal

abbrev pub invariant-loop-name : goal.invariant-loop-name
invariant-loop-name l = l.texts.items ++ names_in (drop l.name-index l.names) ≡ names_in l.names
