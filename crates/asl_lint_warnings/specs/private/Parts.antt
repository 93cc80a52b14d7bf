-- Members and their numbers, as code has them.
use Rattle.std.specs.Prelude.{ℕ}
use denote.Ref.{Bor}
use Rattle.asl_json.specs.View.{member_of}
use Rattle.asl_json.specs.declared.value.Member.{Member}
use Rattle.asl_lint_warnings.specs.Choices.{Part}

abbrev pub part_seen : ℕ × Bor Member → Part
part_seen p = (p.0, member_of p.1.now)
