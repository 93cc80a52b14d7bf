use Rattle.std.proofs.Common.{◌≡◌, ◌++◌, drop}
use Rattle.std.specs.Prelude.{string_bytes}
use Rattle.asl_explore.specs.Telling.{names_text}
use Rattle.asl_explore.proofs.telling.put_names.Given as goal

-- the lines so far and those of what is left are those of all
abbrev pub invariant-loop-name : goal.invariant-loop-name
invariant-loop-name l = string_bytes l.out ++ names_text l.word (drop l.name-index l.names) ≡ string_bytes l.fn.out ++ names_text l.word l.names
