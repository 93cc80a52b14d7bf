use Rattle.std.proofs.Common.{take}
use Rattle.asl_json.specs.View.{members_of}
use Rattle.asl_json.specs.Keys.{HasKeys}
use Rattle.asl_lint_mocks.proofs.names.response_names.Given as goal

abbrev pub invariant-loop-member : goal.invariant-loop-member
invariant-loop-member l = HasKeys l.names (members_of (take l.member-index l.responses))
