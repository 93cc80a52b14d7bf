-- Which details of an event the service tells, by kind (Step Functions API Reference, HistoryEvent).
use Rattle.std.specs.Prelude.{ℕ, List, [], codes}
use Rattle.asl_history.specs.declared.kind.EventKind.{EventKind}
use Rattle.asl_history.specs.declared.kind.EventKind.TheVariants.{ExecutionStarted, ExecutionSucceeded, ExecutionFailed, ExecutionTimedOut, PassStateEntered, TaskStateEntered, ChoiceStateEntered, WaitStateEntered, SucceedStateEntered, FailStateEntered, ParallelStateEntered, MapStateEntered, PassStateExited, TaskStateExited, ChoiceStateExited, WaitStateExited, SucceedStateExited, ParallelStateExited, MapStateExited, TaskScheduled, TaskStarted, TaskSucceeded, TaskFailed, ParallelStateStarted, ParallelStateSucceeded, ParallelStateFailed, MapStateStarted, MapStateSucceeded, MapStateFailed, MapIterationStarted, MapIterationSucceeded, MapIterationFailed}
use Rattle.asl_history_formats.specs.declared.details.Form.{Form}
use Rattle.asl_history_formats.specs.declared.details.Form.TheVariants.{Nothing, Input, Output, StateInput, StateOutput, Parameters, Resource, TaskOutput, TaskError, Error, Length, Iteration}

abbrev pub form_of : EventKind → Form
form_of ExecutionStarted = Input
form_of ExecutionSucceeded = Output
form_of ExecutionFailed = Error
form_of ExecutionTimedOut = Error
form_of PassStateEntered = StateInput
form_of TaskStateEntered = StateInput
form_of ChoiceStateEntered = StateInput
form_of WaitStateEntered = StateInput
form_of SucceedStateEntered = StateInput
form_of FailStateEntered = StateInput
form_of ParallelStateEntered = StateInput
form_of MapStateEntered = StateInput
form_of PassStateExited = StateOutput
form_of TaskStateExited = StateOutput
form_of ChoiceStateExited = StateOutput
form_of WaitStateExited = StateOutput
form_of SucceedStateExited = StateOutput
form_of ParallelStateExited = StateOutput
form_of MapStateExited = StateOutput
form_of TaskScheduled = Parameters
form_of TaskStarted = Resource
form_of TaskSucceeded = TaskOutput
form_of TaskFailed = TaskError
form_of ParallelStateStarted = Nothing
form_of ParallelStateSucceeded = Nothing
form_of ParallelStateFailed = Nothing
form_of MapStateStarted = Length
form_of MapStateSucceeded = Nothing
form_of MapStateFailed = Nothing
form_of MapIterationStarted = Iteration
form_of MapIterationSucceeded = Iteration
form_of MapIterationFailed = Iteration

-- the name of the member that has them
abbrev pub details_name : EventKind → List ℕ
details_name ExecutionStarted = codes "executionStartedEventDetails"
details_name ExecutionSucceeded = codes "executionSucceededEventDetails"
details_name ExecutionFailed = codes "executionFailedEventDetails"
details_name ExecutionTimedOut = codes "executionTimedOutEventDetails"
details_name PassStateEntered = codes "stateEnteredEventDetails"
details_name TaskStateEntered = codes "stateEnteredEventDetails"
details_name ChoiceStateEntered = codes "stateEnteredEventDetails"
details_name WaitStateEntered = codes "stateEnteredEventDetails"
details_name SucceedStateEntered = codes "stateEnteredEventDetails"
details_name FailStateEntered = codes "stateEnteredEventDetails"
details_name ParallelStateEntered = codes "stateEnteredEventDetails"
details_name MapStateEntered = codes "stateEnteredEventDetails"
details_name PassStateExited = codes "stateExitedEventDetails"
details_name TaskStateExited = codes "stateExitedEventDetails"
details_name ChoiceStateExited = codes "stateExitedEventDetails"
details_name WaitStateExited = codes "stateExitedEventDetails"
details_name SucceedStateExited = codes "stateExitedEventDetails"
details_name ParallelStateExited = codes "stateExitedEventDetails"
details_name MapStateExited = codes "stateExitedEventDetails"
details_name TaskScheduled = codes "taskScheduledEventDetails"
details_name TaskStarted = codes "taskStartedEventDetails"
details_name TaskSucceeded = codes "taskSucceededEventDetails"
details_name TaskFailed = codes "taskFailedEventDetails"
details_name ParallelStateStarted = []
details_name ParallelStateSucceeded = []
details_name ParallelStateFailed = []
details_name MapStateStarted = codes "mapStateStartedEventDetails"
details_name MapStateSucceeded = []
details_name MapStateFailed = []
details_name MapIterationStarted = codes "mapIterationStartedEventDetails"
details_name MapIterationSucceeded = codes "mapIterationSucceededEventDetails"
details_name MapIterationFailed = codes "mapIterationFailedEventDetails"
