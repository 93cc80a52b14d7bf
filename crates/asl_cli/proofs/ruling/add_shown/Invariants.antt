use Rattle.std.proofs.Common.{◌≡◌, ◌++◌, drop}
use Rattle.std.specs.Prelude.{map, string_bytes}
use Rattle.asl_text.specs.Shown.{shown}
use Rattle.asl_explore_errors.specs.Searches.{names_in}
use Rattle.asl_cli.proofs.ruling.add_shown.Given as goal

-- those so far and those that are left are all
abbrev pub invariant-loop-text : goal.invariant-loop-text
invariant-loop-text l = map string_bytes l.out.items ++ map shown (names_in (drop l.text-index l.texts)) ≡ map string_bytes l.fn.out.items ++ map shown (names_in l.texts)
