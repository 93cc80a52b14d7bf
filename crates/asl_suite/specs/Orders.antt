-- Tests that every order of their branches has to meet.
use Rattle.std.specs.Prelude.{List, [], None, Result, Ok, Err}
use Rattle.asl_mock.specs.Answers.{Case}
use Rattle.asl_mock.specs.declared.fault.CaseFault.{CaseFault}
use Rattle.asl_run_state.specs.World.{World}
use Rattle.asl_run_input.specs.Chosen.{case_or_empty}
use Rattle.asl_run_input.specs.declared.step_at.StepAt.{StepAt}
use Rattle.asl_exec.specs.Steps.{opening, world_after}
use Rattle.asl_suite_file.specs.declared.expectation.Expectation.{Expectation}
use Rattle.asl_suite.specs.Cases.{test_setup, judged, no_case}
use Rattle.asl_suite.specs.Reasons.{reason_in}
use Rattle.asl_suite.specs.declared.suite.Suite.{Suite}
use Rattle.asl_suite.specs.declared.case_report.CaseReport.{CaseReport}
use Rattle.asl_suite.specs.declared.reason.Reason.{Reason}
use Rattle.asl_suite.specs.declared.reason.Reason.TheVariants as reason

-- the test as each order has to meet it: how often states are entered and what Tasks are called with is
-- judged on the driven run alone, and so are steps that the test has
abbrev pub for_orders : Expectation → Expectation
for_orders x = record x { steps = None; states = record x.states { visits = []; calls = [] } }

-- the world behind these steps of its execution, with this case
abbrev pub order_world : Suite → Expectation → Case → List StepAt → World
order_world s x c ss = world_after (test_setup s x c) (opening (test_setup s x c)) ss

abbrev pub order_by : Suite → Expectation → List StepAt → Result Case CaseFault → CaseReport
order_by s x ss (Err e) = no_case x
order_by s x ss (Ok c) = judged s.machine x c (order_world s x c ss)

-- what is reported of a test whose execution takes these steps
abbrev pub order_report : Suite → Expectation → List StepAt → CaseReport
order_report s x ss = order_by s x ss (case_or_empty s.mocks x.machine x.case)

abbrev pub order_reason_by : Suite → Expectation → List StepAt → Result Case CaseFault → Reason
order_reason_by s x ss (Err e) = reason.NoCase e
order_reason_by s x ss (Ok c) = reason_in s.machine x c (order_world s x c ss)

-- why it isn't passed so
abbrev pub order_reason : Suite → Expectation → List StepAt → Reason
order_reason s x ss = order_reason_by s x ss (case_or_empty s.mocks x.machine x.case)
