-- A fault in preparation invokes nothing.
use Rattle.std.proofs.Common.{◌≡◌, false, refl, ap}
use Rattle.std.specs.Prelude.{codes}
use Rattle.asl_json_data.specs.Results.{◌>>=◌}
use Rattle.asl_json_data.specs.Data.{Data}
use Rattle.asl_json.specs.Meaning.{value_in}
use Rattle.asl_json.specs.declared.value.Json.{Json}
use Rattle.asl_history.specs.declared.kind.EventKind.{EventKind}
use Rattle.asl_history.specs.declared.kind.EventKind.TheVariants.{PassStateEntered, SucceedStateEntered, ChoiceStateEntered, WaitStateEntered, TaskStateEntered, TaskStateExited, ParallelStateEntered, ParallelStateExited, MapStateEntered, MapStateExited}
use Rattle.asl_step.specs.declared.effect.Effect.{Effect}
use Rattle.asl_step.specs.declared.record.ErrorOut.{ErrorOut}
use Rattle.asl_step.specs.Context.{context_of}
use Rattle.asl_step.specs.Rows.{entering, beginning, failing}
use Rattle.asl_step.specs.Seen.{Seen}
use Rattle.asl_step_io.specs.Paths.{Given, taken}
use Rattle.asl_kinds.specs.Members.{placed, result_or, choice_by}
use Rattle.asl_kinds.specs.Table.{raised}
use Rattle.asl_step_laws.specs.Faults.{error_failing, error_handled, TellsFirst, is_of_work, InvokesNothing, data_of_target, placing_error}
use Rattle.asl_step_laws.specs.Laws.{PreparationFaults}
use Rattle.asl_step_laws.proofs.Behind.{failing-goes, raised-goes, goes-as, entering-idle, beginning-idle, nothing-invoked}
use Rattle.asl_step_laws.proofs.Rows.{pass-row, succeed-row, choice-row, wait-row, task-row, parallel-row, map-row}

fails : (v : Seen) (entered : EventKind) (x : Json) (e : ErrorOut) (step : Effect)
    → is_of_work entered ≡ false → step ≡ failing v (entering v entered x) e
    → TellsFirst (entering v entered x).events (error_failing v e) step × InvokesNothing step
fails v entered x e step idle is =
    let goes =
    goes-as (failing v (entering v entered x) e) is (failing-goes v (entering v entered x) e) in
    (goes.tells, nothing-invoked (entering-idle v entered x idle) goes)

handles : (d : Data) (v : Seen) (entered exited : EventKind) (x : Json) (e : ErrorOut)
    (step : Effect) → is_of_work entered ≡ false → is_of_work exited ≡ false
    → step ≡ raised (value_in (codes "Retry") d) (value_in (codes "Catch") d) v
    (beginning v entered x) exited x e
    → TellsFirst (beginning v entered x).events (error_handled exited d v x e) step
    × InvokesNothing step
handles d v entered exited x e step idle left is =
    let goes =
    goes-as (raised (value_in (codes "Retry") d) (value_in (codes "Catch") d) v
    (beginning v entered x) exited x e) is
    (raised-goes (value_in (codes "Retry") d) (value_in (codes "Catch") d) v
    (beginning v entered x) exited x e left) in
    (goes.tells, nothing-invoked (beginning-idle v entered x v.current idle) goes)

pub preparation : PreparationFaults
preparation = record {
  pass = λ d f v x e is begins wrong. fails v PassStateEntered x e _ refl
      (pass-row d f v x e is begins (ap (λ (g : Given). placing_error (g >>= (λ y.
      placed d x (context_of f v) (result_or (value_in (codes "Result") d) y)))) wrong));
  succeed = λ d f v x e is begins wrong. fails v SucceedStateEntered x e _ refl
      (succeed-row d f v x e is begins (ap (λ (g : Given). placing_error (g >>= (λ y.
      taken (codes "OutputPath") (value_in (codes "OutputPath") d) y (context_of f v)))) wrong));
  choice = λ d f v x e is begins wrong. fails v ChoiceStateEntered x e _ refl
      (choice-row d f v x e is begins (ap (λ (g : Given).
      placing_error (data_of_target (choice_by d (context_of f v) g))) wrong));
  wait = λ d f v x e is begins wrong. fails v WaitStateEntered x e _ refl
      (wait-row d f v x e is begins wrong);
  task = λ d f v x e is begins wrong. handles d v TaskStateEntered TaskStateExited x e _ refl refl
      (task-row d f v x e is begins wrong);
  parallel = λ d f v x e is begins wrong.
      handles d v ParallelStateEntered ParallelStateExited x e _ refl refl
      (parallel-row d f v x e is begins wrong);
  map = λ d f v x e is begins wrong. handles d v MapStateEntered MapStateExited x e _ refl refl
      (map-row d f v x e is begins wrong);
}
