use Rattle.std.proofs.Common.{◌≡◌, true, drop}
use Rattle.std.specs.Prelude.{find, map}
use Rattle.std.specs.List.{list_all}
use Rattle.std.specs.Str.{bytes_eq}
use Rattle.clap.specs.Words.{is_simple_and_free}
use Rattle.asl_arguments.specs.Grammar.{app_for, command_seen}
use Rattle.asl_command_line.specs.Read.{command_named}
use Rattle.asl_command_line.proofs.reading.row_named.Given as goal

abbrev pub invariant-loop-row : goal.invariant-loop-row
invariant-loop-row l =
    (find (λ c. bytes_eq c.name l.name) (map command_seen (drop l.row-index l.row-items)) ≡ command_named l.name)
    × (list_all (λ c. is_simple_and_free (app_for c)) (drop l.row-index l.row-items) ≡ true)
