-- Suites may be shared among threads.
use denote.Param.Send.{IsSync, sendable}
use Rattle.std.proofs.Crossing.{crosses}
use Rattle.asl_json.proofs.value.Items.TheLaws.TheKnot as knot
use Rattle.asl_json.specs.contracts.value.Items.{the_row as items_row}
use Rattle.asl_threads_base.proofs.Values.{values}
use Rattle.asl_threads_base.proofs.Machines.{machine_sync}
use Rattle.asl_threads_base.proofs.Cases.{mocks_sync}
use Rattle.asl_time.proofs.moment.Moment.TheSendSync as moment
use Rattle.asl_history.proofs.place.Place.TheSendSync as place
use Rattle.asl_run_input.specs.contracts.step_at.StepAt.{the_row as step_row}
use Rattle.asl_suite_file.specs.contracts.expectation.WantedText.{the_row as text_row}
use Rattle.asl_suite_file.specs.contracts.expectation.StateCount.{the_row as count_row}
use Rattle.asl_suite_file.specs.contracts.expectation.CountsByState.{the_row as counts_row}
use Rattle.asl_suite_file.specs.contracts.expectation.StateCalls.{the_row as state_calls_row}
use Rattle.asl_suite_file.specs.contracts.expectation.CallsByState.{the_row as calls_row}
use Rattle.asl_suite_file.specs.contracts.expectation.WantedEnd.{the_field as end_field}
use Rattle.asl_suite_file.specs.contracts.expectation.WantedStates.{the_field as states_field}
use Rattle.asl_suite_file.specs.contracts.expectation.Steps.{the_row as steps_row}
use Rattle.asl_suite_file.specs.contracts.expectation.Expectation.{the_row as expectation_row}
use Rattle.asl_suite_file.specs.contracts.expectations.Expectations.{the_field as expectations_field}
use Rattle.asl_suite.specs.contracts.suite.Suite.{the_row as suite_row}

items_sync : IsSync items_row
items_sync = search (crosses, knot.crosses, sendable) depth 60 fits 20000

text_sync : IsSync text_row
text_sync = search (values, sendable) depth 60 fits 20000

count_sync : IsSync count_row
count_sync = search (values, sendable) depth 60 fits 20000

counts_sync : IsSync counts_row
counts_sync = search (count_sync, crosses, sendable) depth 60 fits 20000

state_calls_sync : IsSync state_calls_row
state_calls_sync = search (values, items_sync, sendable) depth 60 fits 20000

calls_sync : IsSync calls_row
calls_sync = search (state_calls_sync, crosses, sendable) depth 60 fits 20000

end_sync : IsSync end_field.row
end_sync = search (values, text_sync, sendable) depth 60 fits 20000

states_sync : IsSync states_field.row
states_sync = search (counts_sync, calls_sync, sendable) depth 60 fits 20000

step_sync : IsSync step_row
step_sync = search (place.the_sync, moment.the_sync, sendable) depth 60 fits 20000

steps_sync : IsSync steps_row
steps_sync = search (step_sync, crosses, sendable) depth 60 fits 20000

expectation_sync : IsSync expectation_row
expectation_sync = search (values, steps_sync, end_sync, states_sync, sendable) depth 60 fits 20000

expectations_sync : IsSync expectations_field.row
expectations_sync = search (expectation_sync, crosses, sendable) depth 60 fits 20000

pub suite_sync : IsSync suite_row
suite_sync = search (machine_sync, mocks_sync, expectations_sync, sendable) depth 60 fits 20000
