use Rattle.std.proofs.Common.{◌∙◌}
use Rattle.asl_json.proofs.Knowing.{has_keys-next}
use Rattle.asl_lint_mocks.proofs.names.response_names.Goals as goal

pub loop-member-preserved : goal.loop-member-preserved
loop-member-preserved c = has_keys-next c.loop-member.names c.insert.new.self c.args.responses.now c.loop-member.member-index c.member-item.result c.in_ok-from_str.field-0 c.loop-member-test.true c.member-item.is (c.in_ok-from_str.ensures.ok ∙ c.as_str.ensures) c.in_ok-insert.ensures.updates c.loop-member.invariant
