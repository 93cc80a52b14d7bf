-- The kinds of events: their names, and which tell that a state is entered or left (Step Functions Developer Guide, HistoryEvent, `type`).
use Rattle.std.specs.Prelude.{ℕ, Bool, true, false, List, codes}
use Rattle.asl_history.specs.declared.kind.EventKind.{EventKind}
use Rattle.asl_history.specs.declared.kind.EventKind.TheVariants.{ExecutionStarted, ExecutionSucceeded, ExecutionFailed, ExecutionTimedOut, PassStateEntered, TaskStateEntered, ChoiceStateEntered, WaitStateEntered, SucceedStateEntered, FailStateEntered, ParallelStateEntered, MapStateEntered, PassStateExited, TaskStateExited, ChoiceStateExited, WaitStateExited, SucceedStateExited, ParallelStateExited, MapStateExited, TaskScheduled, TaskStarted, TaskSucceeded, TaskFailed, ParallelStateStarted, ParallelStateSucceeded, ParallelStateFailed, MapStateStarted, MapStateSucceeded, MapStateFailed, MapIterationStarted, MapIterationSucceeded, MapIterationFailed}

abbrev pub kind_name : EventKind → List ℕ
kind_name ExecutionStarted = codes "ExecutionStarted"
kind_name ExecutionSucceeded = codes "ExecutionSucceeded"
kind_name ExecutionFailed = codes "ExecutionFailed"
kind_name ExecutionTimedOut = codes "ExecutionTimedOut"
kind_name PassStateEntered = codes "PassStateEntered"
kind_name TaskStateEntered = codes "TaskStateEntered"
kind_name ChoiceStateEntered = codes "ChoiceStateEntered"
kind_name WaitStateEntered = codes "WaitStateEntered"
kind_name SucceedStateEntered = codes "SucceedStateEntered"
kind_name FailStateEntered = codes "FailStateEntered"
kind_name ParallelStateEntered = codes "ParallelStateEntered"
kind_name MapStateEntered = codes "MapStateEntered"
kind_name PassStateExited = codes "PassStateExited"
kind_name TaskStateExited = codes "TaskStateExited"
kind_name ChoiceStateExited = codes "ChoiceStateExited"
kind_name WaitStateExited = codes "WaitStateExited"
kind_name SucceedStateExited = codes "SucceedStateExited"
kind_name ParallelStateExited = codes "ParallelStateExited"
kind_name MapStateExited = codes "MapStateExited"
kind_name TaskScheduled = codes "TaskScheduled"
kind_name TaskStarted = codes "TaskStarted"
kind_name TaskSucceeded = codes "TaskSucceeded"
kind_name TaskFailed = codes "TaskFailed"
kind_name ParallelStateStarted = codes "ParallelStateStarted"
kind_name ParallelStateSucceeded = codes "ParallelStateSucceeded"
kind_name ParallelStateFailed = codes "ParallelStateFailed"
kind_name MapStateStarted = codes "MapStateStarted"
kind_name MapStateSucceeded = codes "MapStateSucceeded"
kind_name MapStateFailed = codes "MapStateFailed"
kind_name MapIterationStarted = codes "MapIterationStarted"
kind_name MapIterationSucceeded = codes "MapIterationSucceeded"
kind_name MapIterationFailed = codes "MapIterationFailed"

-- a state is entered
abbrev pub is_entered : EventKind → Bool
is_entered PassStateEntered = true
is_entered TaskStateEntered = true
is_entered ChoiceStateEntered = true
is_entered WaitStateEntered = true
is_entered SucceedStateEntered = true
is_entered FailStateEntered = true
is_entered ParallelStateEntered = true
is_entered MapStateEntered = true
is_entered k = false

-- a state is left
abbrev pub is_exited : EventKind → Bool
is_exited PassStateExited = true
is_exited TaskStateExited = true
is_exited ChoiceStateExited = true
is_exited WaitStateExited = true
is_exited SucceedStateExited = true
is_exited ParallelStateExited = true
is_exited MapStateExited = true
is_exited k = false
