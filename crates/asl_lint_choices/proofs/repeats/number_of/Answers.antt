use Rattle.std.proofs.Common.{Some, string_bytes}
use Rattle.std.proofs.lemmas.Map.Text.{hash_map_updates_text}
use Rattle.asl_lint_choices.proofs.repeats.number_of.Goals as goal

pub returns-in_ok-insert-in-None-clause-numbers : goal.returns-in_ok-insert-in-None-clause-numbers
returns-in_ok-insert-in-None-clause-numbers c = hash_map_updates_text (string_bytes c.args.text) c.args.numbers.now c.insert.new.self (Some c.args.number) c.in_ok-insert-in-None.ensures.updates
