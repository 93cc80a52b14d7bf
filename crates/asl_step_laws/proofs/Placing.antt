-- A fault in placing keeps what was told.
use Rattle.std.proofs.Common.{◌≡◌, List, [], ◌∷◌, true, false, refl, subst}
use Rattle.std.specs.Prelude.{codes}
use Rattle.asl_json_data.specs.Data.{Data}
use Rattle.asl_json.specs.Meaning.{value_in}
use Rattle.asl_json.specs.declared.value.Json.{Json}
use Rattle.asl_json.specs.declared.value.Json.TheVariants.{Dict}
use Rattle.asl_history.specs.declared.kind.EventKind.{EventKind}
use Rattle.asl_history.specs.declared.kind.EventKind.TheVariants.{PassStateEntered, SucceedStateEntered, ChoiceStateEntered, TaskStateEntered, TaskStateExited, ParallelStateExited, ParallelStateSucceeded, MapStateExited, MapStateSucceeded}
use Rattle.asl_step.specs.declared.effect.Children.TheVariants.{Removed}
use Rattle.asl_step.specs.declared.effect.Draft.{Draft}
use Rattle.asl_step.specs.declared.effect.Effect.{Effect}
use Rattle.asl_step.specs.declared.effect.Progress.{Progress}
use Rattle.asl_step.specs.declared.record.ErrorOut.{ErrorOut}
use Rattle.asl_step.specs.Records.{name_in}
use Rattle.asl_step.specs.Rows.{draft, entering, beginning, telling, unstarted, failing}
use Rattle.asl_step.specs.Seen.{Seen}
use Rattle.asl_kinds.specs.Forks.{gathered}
use Rattle.asl_kinds.specs.Table.{raised}
use Rattle.asl_step_laws.specs.Faults.{error_failing, error_handled, TellsFirst, is_of_work}
use Rattle.asl_step_laws.specs.Laws.{answer_told, PlacingFaults}
use Rattle.asl_step_laws.proofs.Behind.{GoesOn, failing-goes, raised-goes, goes-as}
use Rattle.asl_step_laws.proofs.Rows.{pass-row, succeed-row, choice-row, over-row, answer-row, answered, answered-tells, parallel-joined, map-joined}

fails : (v : Seen) (done : Progress) (e : ErrorOut) (step : Effect) → step ≡ failing v done e
    → TellsFirst done.events (error_failing v e) step
fails v done e step is = (goes-as (failing v done e) is (failing-goes v done e)).tells

handles : (d : Data) (v : Seen) (done : Progress) (exited : EventKind) (x : Json) (e : ErrorOut)
    (step : Effect) → is_of_work exited ≡ false
    → step ≡ raised (value_in (codes "Retry") d) (value_in (codes "Catch") d) v done exited x e
    → GoesOn done (error_handled exited d v x e) step
handles d v done exited x e step left is =
    goes-as (raised (value_in (codes "Retry") d) (value_in (codes "Catch") d) v done exited x e) is
    (raised-goes (value_in (codes "Retry") d) (value_in (codes "Catch") d) v done exited x e left)

answers : (d : Data) (v : Seen) (x y r : Json) (e : ErrorOut) (step : Effect)
    → step ≡ raised (value_in (codes "Retry") d) (value_in (codes "Catch") d) v
    (answered v x y r) TaskStateExited x e
    → TellsFirst (answer_told v x y r) (error_handled TaskStateExited d v x e) step
    × (step.raises ≡ true)
answers d v x y r e step is =
    let goes = handles d v (answered v x y r) TaskStateExited x e step refl is in (
      subst (λ (front : List Draft). TellsFirst front (error_handled TaskStateExited d v x e) step)
          (answered-tells (beginning v TaskStateEntered x).events _ _ _) goes.tells,
      goes.count,
    )

joins : (d : Data) (v : Seen) (succeeded exited : EventKind) (x : Json) (e : ErrorOut)
    (step : Effect) → is_of_work exited ≡ false
    → step ≡ raised (value_in (codes "Retry") d) (value_in (codes "Catch") d) v
    (telling v gathered succeeded (Dict [])) exited x e
    → TellsFirst (draft succeeded (name_in v.current) (Dict []) ∷ [])
    (error_handled exited d v x e) step
    × (step.children ≡ Removed)
joins d v succeeded exited x e step left is =
    let goes = handles d v (telling v gathered succeeded (Dict [])) exited x e step left is in
    (goes.tells, goes.branches)

pub placing : PlacingFaults
placing = record {
  pass = λ d f v x e is begins wrong.
      fails v (entering v PassStateEntered x) e _ (pass-row d f v x e is begins wrong);
  succeed = λ d f v x e is begins wrong.
      fails v (entering v SucceedStateEntered x) e _ (succeed-row d f v x e is begins wrong);
  choice = λ d f v x e is begins wrong.
      fails v (entering v ChoiceStateEntered x) e _ (choice-row d f v x e is begins wrong);
  wait = λ d f v x e is pauses wrong. fails v unstarted e _ (over-row d f v x e is pauses wrong);
  task = λ d f v x y r e is begins made answer within wrong.
      answers d v x y r e _ (answer-row d f v x y r e is begins made answer within wrong);
  parallel = λ d f v x ds e is forked ended wrong.
      joins d v ParallelStateSucceeded ParallelStateExited x e _ refl
      (parallel-joined d f v x ds e is forked ended wrong);
  map = λ d f v x ds e is forked ended wrong. joins d v MapStateSucceeded MapStateExited x e _ refl
      (map-joined d f v x ds e is forked ended wrong);
}
