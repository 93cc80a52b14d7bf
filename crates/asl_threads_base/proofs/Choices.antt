-- What may cross threads: rules of Choice states.
use denote.Param.Send.{IsSend, IsSync, sendable}
use Rattle.std.proofs.Crossing.{crosses}
use Rattle.asl_choice.proofs.rule.Rule.TheLaws.TheKnot as rule
use Rattle.asl_threads_base.proofs.Values.{values}
use Rattle.asl_threads_base.proofs.Paths.{paths}
use Rattle.asl_threads_base.proofs.Members.{members}
use Rattle.asl_choice.specs.contracts.comparison.Comparison.{the_field as comparison_field}
use Rattle.asl_choice.specs.contracts.comparison.Test.{the_row as test_row}
use Rattle.asl_choice.specs.contracts.rule.Rule.{the_row as rule_row}

pub comparison_field_send : IsSend comparison_field.row
comparison_field_send = search (values, paths, members, sendable) depth 60 fits 20000

pub comparison_field_sync : IsSync comparison_field.row
comparison_field_sync = search (values, paths, members, sendable) depth 60 fits 20000

pub test_send : IsSend test_row
test_send = search (paths, comparison_field_send, sendable) depth 60 fits 20000

pub test_sync : IsSync test_row
test_sync = search (paths, comparison_field_sync, sendable) depth 60 fits 20000

pub rule_send : IsSend rule_row
rule_send = search (values, test_send, crosses, rule.crosses, sendable) depth 60 fits 20000

pub rule_sync : IsSync rule_row
rule_sync = search (values, test_sync, crosses, rule.crosses, sendable) depth 60 fits 20000
