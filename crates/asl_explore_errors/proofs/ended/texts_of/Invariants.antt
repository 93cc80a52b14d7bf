use Rattle.std.proofs.Common.{◌≡◌, ◌++◌, drop}
use Rattle.std.specs.Prelude.{string_bytes, map}
use Rattle.asl_explore_errors.specs.Searches.{text_of}
use Rattle.asl_explore_errors.proofs.ended.texts_of.Given as goal

-- the texts so far and those of what is left are all
abbrev pub invariant-loop-one : goal.invariant-loop-one
invariant-loop-one l = map string_bytes l.texts.items ++ map text_of (drop l.one-index l.found) ≡ map text_of l.found
