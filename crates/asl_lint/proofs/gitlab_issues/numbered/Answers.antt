use Rattle.std.proofs.Common.{◌+◌, Some, string_bytes}
use Rattle.std.proofs.lemmas.Map.Text.{hash_map_updates_text}
use Rattle.asl_lint.proofs.gitlab_issues.numbered.Goals as goal

pub returns-clause-counts : goal.returns-clause-counts
returns-clause-counts c = hash_map_updates_text (string_bytes c.args.text) c.args.counts.now c.insert.new.self (Some (c.count_of-number.result + 1)) c.in_ok-insert.ensures.updates
