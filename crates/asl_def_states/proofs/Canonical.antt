-- What is compiled of a state shows its canonical object.
use Rattle.std.proofs.Common.{◌≡◌, ℕ, List, [], ◌∷◌, ◌++◌, true, false, refl, sym, ◌∙◌, ap}
use Rattle.std.specs.Prelude.{Option, Some, None, codes, option_map}
use Rattle.asl_json_data.specs.Data.{Data, Pairs, null, boolean, number, text, list, dict, chain, pairs}
use Rattle.asl_json.specs.Same.{bytes_eq}
use Rattle.asl_json.specs.Meaning.{value_at}
use Rattle.asl_json.specs.View.{data_of}
use Rattle.asl_def_schema.specs.declared.sort.Sort.{Sort}
use Rattle.asl_def_schema.specs.declared.sort.Sort.TheVariants as sort
use Rattle.asl_def_schema.specs.declared.sort.Kind.{Kind}
use Rattle.asl_def_schema.specs.declared.sort.Kind.TheVariants as kind
use Rattle.asl_def_schema.specs.Members.{Row, Shape, shape_of, machine_rows, item_processor_rows, definition_rows, kind_rows, state_shape, shape_in, kind_named, task_rows, pass_rows, choice_rows, wait_rows, parallel_rows, map_rows, succeed_rows, fail_rows}
use Rattle.asl_def_schema.specs.Canon.{Named, opt, present, kept, kept_at, canon, canon_members, picked, picked_at, kind_text, is_plain}
use Rattle.asl_def_schema.proofs.Canons.{picked-canon, plain_kept}
use Rattle.asl_def_schema.proofs.Typed.{type_is}
use Rattle.asl_def_fields.specs.Shown.{path_shown}
use Rattle.asl_def_shared.specs.declared.common.Common.{Common}
use Rattle.asl_def_shared.specs.declared.completion.Completion.{Completion}
use Rattle.asl_def_states.specs.declared.task.Task.{Task as TaskState}
use Rattle.asl_def_states.specs.declared.pass.Pass.{Pass as PassState}
use Rattle.asl_def_states.specs.declared.choice.Choice.{Choice as ChoiceState}
use Rattle.asl_def_states.specs.declared.wait.Wait.{Wait as WaitState}
use Rattle.asl_def_states.specs.declared.parallel.Parallel.{Parallel as ParallelState}
use Rattle.asl_def_states.specs.declared.map.Map.{Map as MapState}
use Rattle.asl_def_states.specs.declared.succeed.Succeed.{Succeed as SucceedState}
use Rattle.asl_def_states.specs.declared.fail.Fail.{Fail as FailState}
use Rattle.asl_def_shared.specs.Parts.{Slots, object, next_shown, end_shown}
use Rattle.asl_def_shared.specs.Parts.{listed}
use Rattle.asl_def_states.specs.Show.{told, told_at, seconds_shown, seconds_path_shown, timestamp_shown, timestamp_path_shown, parameters_shown, item_selector_shown, machine_shown, as_iterator, as_item_processor, task_members, pass_members, choice_members, wait_members, parallel_members, map_members, succeed_members, fail_members, task_object, pass_object, choice_object, wait_object, parallel_object, map_object, succeed_object, fail_object}
use Rattle.asl_def_shared.specs.Bodies.{bodies_of}
use Rattle.asl_def_shared.specs.Built.{IsOfKind, IsCompletion, Shows}
use Rattle.asl_def_shared.proofs.Fits.{map_same}

-- ---- members row by row

-- the canonical object of a state of this type
pub kind_is : (ms : Pairs) (k : Kind) → kind_named (value_at (codes "Type") ms) ≡ Some k → canon sort.State (dict ms) ≡ dict (pairs (picked_at (state_shape (Some k)) (kind_rows k) ms))
kind_is ms k named =
    let shape : shape_in sort.State ms ≡ state_shape (Some k) = ap state_shape named in
    ap (λ (sh : Shape). dict (pairs (picked sh.rows (canon_members sh ms)))) shape ∙ ap (λ (xs : List Named). dict (pairs xs)) (picked-canon (state_shape (Some k)) (kind_rows k) ms)

-- and of a machine
pub machine_is : (ms : Pairs) → canon sort.Machine (dict ms) ≡ dict (pairs (picked_at (shape_of sort.Machine None) machine_rows ms))
machine_is ms = ap (λ (xs : List Named). dict (pairs xs)) (picked-canon (shape_of sort.Machine None) machine_rows ms)

-- and of one that is an ItemProcessor
pub item_processor_is : (ms : Pairs) → canon sort.ItemProcessor (dict ms) ≡ dict (pairs (picked_at (shape_of sort.ItemProcessor None) item_processor_rows ms))
item_processor_is ms = ap (λ (xs : List Named). dict (pairs xs)) (picked-canon (shape_of sort.ItemProcessor None) item_processor_rows ms)

-- and of the outermost one
pub definition_is : (ms : Pairs) → canon sort.Definition (dict ms) ≡ dict (pairs (picked_at (shape_of sort.Definition None) definition_rows ms))
definition_is ms = ap (λ (xs : List Named). dict (pairs xs)) (picked-canon (shape_of sort.Definition None) definition_rows ms)

present_rows : (sh : Shape) (ms : Pairs) (rs : List Row) (os : Slots) → Shows sh ms rs os → present os ≡ picked_at sh rs ms
present_rows sh ms [] [] h = refl
present_rows sh ms [] (o ∷ os) h = absurd h
present_rows sh ms (r ∷ rs) [] h = absurd h
present_rows sh ms (r ∷ rs) (o ∷ os) h = λ i. opt (h.0 i) (h.1 i) ++ present_rows sh ms rs os h.2 i

state_shows : (ms : Pairs) (k : Kind) (os : Slots) → kind_named (value_at (codes "Type") ms) ≡ Some k → Shows (state_shape (Some k)) ms (kind_rows k) os → object os ≡ canon sort.State (dict ms)
state_shows ms k os e h = ap (λ (xs : List Named). dict (pairs xs)) (present_rows (state_shape (Some k)) ms (kind_rows k) os h) ∙ sym (kind_is ms k e)

-- a value that isn't put in order
plain : (k : List ℕ) (s : Sort) (ms : Pairs) (o : Option Data) → is_plain s ≡ true → bytes_eq k (codes "End") ≡ false → o ≡ value_at k ms → o ≡ kept_at k s ms
plain k s ms o p n e = e ∙ sym (plain_kept k s ms p n)

pub typed : (ms : Pairs) (k : Kind) → kind_named (value_at (codes "Type") ms) ≡ Some k → Some (text (kind_text k)) ≡ kept_at (codes "Type") sort.KindName ms
typed ms k e = plain (codes "Type") sort.KindName ms (Some (text (kind_text k))) refl refl (sym (type_is (value_at (codes "Type") ms) k e))

-- any value but that of End
pub kept_so : (k : List ℕ) (o : Option Data) → bytes_eq k (codes "End") ≡ false → kept k o ≡ o
kept_so k None e = refl
kept_so k (Some null) e = refl
kept_so k (Some (boolean true)) e = refl
kept_so k (Some (boolean false)) e = rw e refl
kept_so k (Some (number n)) e = refl
kept_so k (Some (text t)) e = refl
kept_so k (Some (list ds)) e = refl
kept_so k (Some (dict ms)) e = refl

ordered : (k : List ℕ) (s : Sort) (ms : Pairs) (o : Option Data) → bytes_eq k (codes "End") ≡ false → o ≡ option_map (canon s) (value_at k ms) → o ≡ kept_at k s ms
ordered k s ms o n e = e ∙ sym (kept_so k (option_map (canon s) (value_at k ms)) n)

there : (k : List ℕ) (s : Sort) (ms : Pairs) (d e : Data) → bytes_eq k (codes "End") ≡ false → d ≡ canon s e → Some e ≡ value_at k ms → Some d ≡ kept_at k s ms
there k s ms d e n same at = ordered k s ms (Some d) n (ap Some same ∙ ap (option_map (canon s)) at)

-- what the members of a state begin with
module _ (ms : Pairs) (c : Common) (e1 : option_map text c.comment ≡ value_at (codes "Comment") ms) (e2 : option_map text c.query_language ≡ value_at (codes "QueryLanguage") ms) where
  comment : option_map text c.comment ≡ kept_at (codes "Comment") sort.Text ms
  comment = plain (codes "Comment") sort.Text ms (option_map text c.comment) refl refl e1

  language : option_map text c.query_language ≡ kept_at (codes "QueryLanguage") sort.QueryLanguage ms
  language = plain (codes "QueryLanguage") sort.QueryLanguage ms (option_map text c.query_language) refl refl e2

-- what a path is read from
path : (k : List ℕ) (ms : Pairs) (o : Option Data) → bytes_eq k (codes "End") ≡ false → o ≡ value_at k ms → o ≡ kept_at k sort.PathOrNull ms
path k ms o n e = plain k sort.PathOrNull ms o refl n e

place : (ms : Pairs) (o : Option Data) → o ≡ value_at (codes "ResultPath") ms → o ≡ kept_at (codes "ResultPath") sort.PlaceOrNull ms
place ms o e = plain (codes "ResultPath") sort.PlaceOrNull ms o refl refl e

template : (k : List ℕ) (ms : Pairs) (o : Option Data) → bytes_eq k (codes "End") ≡ false → option_map (λ (t : Data). t) o ≡ value_at k ms → o ≡ kept_at k sort.Template ms
template k ms o n e = plain k sort.Template ms o refl n (map_same o ∙ e)

-- ---- each type

pub pass_shows : (ms : List Named) (x : PassState) → IsOfKind kind.Pass ms
    → option_map text x.common.comment ≡ value_at (codes "Comment") (pairs ms)
    → option_map text x.common.query_language ≡ value_at (codes "QueryLanguage") (pairs ms)
    → path_shown x.input_path ≡ value_at (codes "InputPath") (pairs ms)
    → option_map (λ (t : Data). t) x.parameters ≡ value_at (codes "Parameters") (pairs ms)
    → option_map data_of x.result ≡ value_at (codes "Result") (pairs ms)
    → path_shown x.result_path ≡ value_at (codes "ResultPath") (pairs ms)
    → path_shown x.output_path ≡ value_at (codes "OutputPath") (pairs ms)
    → next_shown x.next ≡ kept_at (codes "Next") sort.Target (pairs ms)
    → end_shown x.next ≡ kept_at (codes "End") sort.Truth (pairs ms)
    → pass_object x ≡ canon sort.State (dict (pairs ms))
unfolding pass_rows
pass_shows ms x h e1 e2 e3 e4 e5 e6 e7 e8 e9 =
    let ps = pairs ms in
    state_shows ps kind.Pass (pass_members x) h.is (
      refl,
      typed ps kind.Pass h.is,
      (
        refl,
        comment ps x.common e1 e2,
        (
          refl,
          language ps x.common e1 e2,
          (
            refl,
            path (codes "InputPath") ps (path_shown x.input_path) refl e3,
            (
              refl,
              template (codes "Parameters") ps x.parameters refl e4,
              (
                refl,
                plain (codes "Result") sort.Any ps (option_map data_of x.result) refl refl e5,
                (
                  refl,
                  place ps (path_shown x.result_path) e6,
                  (
                    refl,
                    path (codes "OutputPath") ps (path_shown x.output_path) refl e7,
                    (
                      refl,
                      e8,
                      (
                        refl,
                        e9,
                        tt,
                      ),
                    ),
                  ),
                ),
              ),
            ),
          ),
        ),
      ),
    )

pub succeed_shows : (ms : List Named) (x : SucceedState) → IsOfKind kind.Succeed ms
    → option_map text x.common.comment ≡ value_at (codes "Comment") (pairs ms)
    → option_map text x.common.query_language ≡ value_at (codes "QueryLanguage") (pairs ms)
    → path_shown x.input_path ≡ value_at (codes "InputPath") (pairs ms)
    → path_shown x.output_path ≡ value_at (codes "OutputPath") (pairs ms)
    → succeed_object x ≡ canon sort.State (dict (pairs ms))
unfolding succeed_rows
succeed_shows ms x h e1 e2 e3 e4 =
    let ps = pairs ms in
    state_shows ps kind.Succeed (succeed_members x) h.is (
      refl,
      typed ps kind.Succeed h.is,
      (
        refl,
        comment ps x.common e1 e2,
        (
          refl,
          language ps x.common e1 e2,
          (
            refl,
            path (codes "InputPath") ps (path_shown x.input_path) refl e3,
            (
              refl,
              path (codes "OutputPath") ps (path_shown x.output_path) refl e4,
              tt,
            ),
          ),
        ),
      ),
    )

pub fail_shows : (ms : List Named) (x : FailState) → IsOfKind kind.Fail ms
    → option_map text x.common.comment ≡ value_at (codes "Comment") (pairs ms)
    → option_map text x.common.query_language ≡ value_at (codes "QueryLanguage") (pairs ms)
    → told x.error ≡ value_at (codes "Error") (pairs ms)
    → told_at x.error ≡ value_at (codes "ErrorPath") (pairs ms)
    → told x.cause ≡ value_at (codes "Cause") (pairs ms)
    → told_at x.cause ≡ value_at (codes "CausePath") (pairs ms)
    → fail_object x ≡ canon sort.State (dict (pairs ms))
unfolding fail_rows
fail_shows ms x h e1 e2 e3 e4 e5 e6 =
    let ps = pairs ms in
    state_shows ps kind.Fail (fail_members x) h.is (
      refl,
      typed ps kind.Fail h.is,
      (
        refl,
        comment ps x.common e1 e2,
        (
          refl,
          language ps x.common e1 e2,
          (
            refl,
            plain (codes "Error") sort.Text ps (told x.error) refl refl e3,
            (
              refl,
              plain (codes "ErrorPath") sort.PathOrCall ps (told_at x.error) refl refl e4,
              (
                refl,
                plain (codes "Cause") sort.Text ps (told x.cause) refl refl e5,
                (
                  refl,
                  plain (codes "CausePath") sort.PathOrCall ps (told_at x.cause) refl refl e6,
                  tt,
                ),
              ),
            ),
          ),
        ),
      ),
    )

pub wait_shows : (ms : List Named) (x : WaitState) → IsOfKind kind.Wait ms
    → option_map text x.common.comment ≡ value_at (codes "Comment") (pairs ms)
    → option_map text x.common.query_language ≡ value_at (codes "QueryLanguage") (pairs ms)
    → path_shown x.input_path ≡ value_at (codes "InputPath") (pairs ms)
    → seconds_shown x.delay ≡ value_at (codes "Seconds") (pairs ms)
    → seconds_path_shown x.delay ≡ value_at (codes "SecondsPath") (pairs ms)
    → timestamp_shown x.delay ≡ value_at (codes "Timestamp") (pairs ms)
    → timestamp_path_shown x.delay ≡ value_at (codes "TimestampPath") (pairs ms)
    → path_shown x.output_path ≡ value_at (codes "OutputPath") (pairs ms)
    → next_shown x.next ≡ kept_at (codes "Next") sort.Target (pairs ms)
    → end_shown x.next ≡ kept_at (codes "End") sort.Truth (pairs ms)
    → wait_object x ≡ canon sort.State (dict (pairs ms))
unfolding wait_rows
wait_shows ms x h e1 e2 e3 e4 e5 e6 e7 e8 e9 e10 =
    let ps = pairs ms in
    state_shows ps kind.Wait (wait_members x) h.is (
      refl,
      typed ps kind.Wait h.is,
      (
        refl,
        comment ps x.common e1 e2,
        (
          refl,
          language ps x.common e1 e2,
          (
            refl,
            path (codes "InputPath") ps (path_shown x.input_path) refl e3,
            (
              refl,
              plain (codes "Seconds") sort.FromZero ps (seconds_shown x.delay) refl refl e4,
              (
                refl,
                plain (codes "SecondsPath") sort.Path ps (seconds_path_shown x.delay) refl refl e5,
                (
                  refl,
                  plain (codes "Timestamp") sort.Timestamp ps (timestamp_shown x.delay) refl refl e6,
                  (
                    refl,
                    plain (codes "TimestampPath") sort.Path ps (timestamp_path_shown x.delay) refl refl e7,
                    (
                      refl,
                      path (codes "OutputPath") ps (path_shown x.output_path) refl e8,
                      (
                        refl,
                        e9,
                        (
                          refl,
                          e10,
                          tt,
                        ),
                      ),
                    ),
                  ),
                ),
              ),
            ),
          ),
        ),
      ),
    )

pub choice_shows : (ms : List Named) (x : ChoiceState) (d : Data) → IsOfKind kind.Choice ms
    → option_map text x.common.comment ≡ value_at (codes "Comment") (pairs ms)
    → option_map text x.common.query_language ≡ value_at (codes "QueryLanguage") (pairs ms)
    → path_shown x.input_path ≡ value_at (codes "InputPath") (pairs ms)
    → list (chain x.choices) ≡ canon sort.Rules d
    → Some d ≡ value_at (codes "Choices") (pairs ms)
    → option_map (λ t. text t.name) x.default ≡ value_at (codes "Default") (pairs ms)
    → path_shown x.output_path ≡ value_at (codes "OutputPath") (pairs ms)
    → choice_object x ≡ canon sort.State (dict (pairs ms))
unfolding choice_rows
choice_shows ms x d h e1 e2 e3 e4 at e5 e6 =
    let ps = pairs ms in
    state_shows ps kind.Choice (choice_members x) h.is (
      refl,
      typed ps kind.Choice h.is,
      (
        refl,
        comment ps x.common e1 e2,
        (
          refl,
          language ps x.common e1 e2,
          (
            refl,
            path (codes "InputPath") ps (path_shown x.input_path) refl e3,
            (
              refl,
              there (codes "Choices") sort.Rules ps (list (chain x.choices)) d refl e4 at,
              (
                refl,
                plain (codes "Default") sort.Target ps (option_map (λ t. text t.name) x.default) refl refl e5,
                (
                  refl,
                  path (codes "OutputPath") ps (path_shown x.output_path) refl e6,
                  tt,
                ),
              ),
            ),
          ),
        ),
      ),
    )

-- what becomes of a result
module _ (ms : Pairs) (o : Completion) (h : IsCompletion ms o) where
  selector : o.result_selector ≡ kept_at (codes "ResultSelector") sort.Template ms
  selector = plain (codes "ResultSelector") sort.Template ms o.result_selector refl refl h.result_selector

  result_place : path_shown o.result_path ≡ kept_at (codes "ResultPath") sort.PlaceOrNull ms
  result_place = place ms (path_shown o.result_path) h.result_path

  output : path_shown o.output_path ≡ kept_at (codes "OutputPath") sort.PathOrNull ms
  output = path (codes "OutputPath") ms (path_shown o.output_path) refl h.output_path

  retry : listed o.retry ≡ kept_at (codes "Retry") sort.Retriers ms
  retry = ordered (codes "Retry") sort.Retriers ms (listed o.retry) refl h.retry

  catch : listed o.catch ≡ kept_at (codes "Catch") sort.Catchers ms
  catch = ordered (codes "Catch") sort.Catchers ms (listed o.catch) refl h.catch

pub task_shows : (ms : List Named) (x : TaskState) → IsOfKind kind.Task ms
    → option_map text x.common.comment ≡ value_at (codes "Comment") (pairs ms)
    → option_map text x.common.query_language ≡ value_at (codes "QueryLanguage") (pairs ms)
    → Some (text x.resource) ≡ value_at (codes "Resource") (pairs ms)
    → path_shown x.input_path ≡ value_at (codes "InputPath") (pairs ms)
    → option_map (λ (t : Data). t) x.parameters ≡ value_at (codes "Parameters") (pairs ms)
    → option_map data_of x.credentials ≡ value_at (codes "Credentials") (pairs ms)
    → option_map number x.limits.timeout ≡ value_at (codes "TimeoutSeconds") (pairs ms)
    → option_map text x.limits.timeout_path ≡ value_at (codes "TimeoutSecondsPath") (pairs ms)
    → option_map number x.limits.heartbeat ≡ value_at (codes "HeartbeatSeconds") (pairs ms)
    → option_map text x.limits.heartbeat_path ≡ value_at (codes "HeartbeatSecondsPath") (pairs ms)
    → IsCompletion (pairs ms) x.completion
    → task_object x ≡ canon sort.State (dict (pairs ms))
unfolding task_rows
task_shows ms x h e1 e2 e3 e4 e5 e6 e7 e8 e9 e10 o =
    let ps = pairs ms in
    state_shows ps kind.Task (task_members x) h.is (
      refl,
      typed ps kind.Task h.is,
      (
        refl,
        comment ps x.common e1 e2,
        (
          refl,
          language ps x.common e1 e2,
          (
            refl,
            plain (codes "Resource") sort.Text ps (Some (text x.resource)) refl refl e3,
            (
              refl,
              path (codes "InputPath") ps (path_shown x.input_path) refl e4,
              (
                refl,
                template (codes "Parameters") ps x.parameters refl e5,
                (
                  refl,
                  plain (codes "Credentials") sort.Any ps (option_map data_of x.credentials) refl refl e6,
                  (
                    refl,
                    plain (codes "TimeoutSeconds") sort.FromOne ps (option_map number x.limits.timeout) refl refl e7,
                    (
                      refl,
                      plain (codes "TimeoutSecondsPath") sort.Path ps (option_map text x.limits.timeout_path) refl refl e8,
                      (
                        refl,
                        plain (codes "HeartbeatSeconds") sort.FromOne ps (option_map number x.limits.heartbeat) refl refl e9,
                        (
                          refl,
                          plain (codes "HeartbeatSecondsPath") sort.Path ps (option_map text x.limits.heartbeat_path) refl refl e10,
                          (
                            refl,
                            selector ps x.completion o,
                            (
                              refl,
                              result_place ps x.completion o,
                              (
                                refl,
                                output ps x.completion o,
                                (
                                  refl,
                                  retry ps x.completion o,
                                  (
                                    refl,
                                    catch ps x.completion o,
                                    (
                                      refl,
                                      o.next,
                                      (
                                        refl,
                                        o.ends,
                                        tt,
                                      ),
                                    ),
                                  ),
                                ),
                              ),
                            ),
                          ),
                        ),
                      ),
                    ),
                  ),
                ),
              ),
            ),
          ),
        ),
      ),
    )

pub parallel_shows : (t ms : List Named) (x : ParallelState) → IsOfKind kind.Parallel ms
    → option_map text x.common.comment ≡ value_at (codes "Comment") (pairs ms)
    → option_map text x.common.query_language ≡ value_at (codes "QueryLanguage") (pairs ms)
    → path_shown x.input_path ≡ value_at (codes "InputPath") (pairs ms)
    → option_map (λ (t : Data). t) x.parameters ≡ value_at (codes "Parameters") (pairs ms)
    → Some (list (chain (bodies_of t x.branches))) ≡ kept_at (codes "Branches") sort.Machines (pairs ms)
    → IsCompletion (pairs ms) x.completion
    → parallel_object t x ≡ canon sort.State (dict (pairs ms))
unfolding parallel_rows
parallel_shows t ms x h e1 e2 e3 e4 e5 o =
    let ps = pairs ms in
    state_shows ps kind.Parallel (parallel_members t x) h.is (
      refl,
      typed ps kind.Parallel h.is,
      (
        refl,
        comment ps x.common e1 e2,
        (
          refl,
          language ps x.common e1 e2,
          (
            refl,
            path (codes "InputPath") ps (path_shown x.input_path) refl e3,
            (
              refl,
              template (codes "Parameters") ps x.parameters refl e4,
              (
                refl,
                e5,
                (
                  refl,
                  selector ps x.completion o,
                  (
                    refl,
                    result_place ps x.completion o,
                    (
                      refl,
                      output ps x.completion o,
                      (
                        refl,
                        retry ps x.completion o,
                        (
                          refl,
                          catch ps x.completion o,
                          (
                            refl,
                            o.next,
                            (
                              refl,
                              o.ends,
                              tt,
                            ),
                          ),
                        ),
                      ),
                    ),
                  ),
                ),
              ),
            ),
          ),
        ),
      ),
    )

pub map_shows : (t ms : List Named) (x : MapState) → IsOfKind kind.Map ms
    → option_map text x.common.comment ≡ value_at (codes "Comment") (pairs ms)
    → option_map text x.common.query_language ≡ value_at (codes "QueryLanguage") (pairs ms)
    → path_shown x.input_path ≡ value_at (codes "InputPath") (pairs ms)
    → option_map text x.items_path ≡ value_at (codes "ItemsPath") (pairs ms)
    → option_map number x.max_concurrency ≡ value_at (codes "MaxConcurrency") (pairs ms)
    → parameters_shown x.selector ≡ value_at (codes "Parameters") (pairs ms)
    → item_selector_shown x.selector ≡ value_at (codes "ItemSelector") (pairs ms)
    → as_iterator x.processor (machine_shown t x.processor) ≡ kept_at (codes "Iterator") sort.Machine (pairs ms)
    → as_item_processor x.processor (machine_shown t x.processor) ≡ kept_at (codes "ItemProcessor") sort.ItemProcessor (pairs ms)
    → IsCompletion (pairs ms) x.completion
    → map_object t x ≡ canon sort.State (dict (pairs ms))
unfolding map_rows
map_shows t ms x h e1 e2 e3 e4 e5 e6 e7 e8 e9 o =
    let ps = pairs ms in
    state_shows ps kind.Map (map_members t x) h.is (
      refl,
      typed ps kind.Map h.is,
      (
        refl,
        comment ps x.common e1 e2,
        (
          refl,
          language ps x.common e1 e2,
          (
            refl,
            path (codes "InputPath") ps (path_shown x.input_path) refl e3,
            (
              refl,
              plain (codes "ItemsPath") sort.Path ps (option_map text x.items_path) refl refl e4,
              (
                refl,
                plain (codes "MaxConcurrency") sort.FromZero ps (option_map number x.max_concurrency) refl refl e5,
                (
                  refl,
                  plain (codes "Parameters") sort.Template ps (parameters_shown x.selector) refl refl e6,
                  (
                    refl,
                    plain (codes "ItemSelector") sort.Template ps (item_selector_shown x.selector) refl refl e7,
                    (
                      refl,
                      e8,
                      (
                        refl,
                        e9,
                        (
                          refl,
                          selector ps x.completion o,
                          (
                            refl,
                            result_place ps x.completion o,
                            (
                              refl,
                              output ps x.completion o,
                              (
                                refl,
                                retry ps x.completion o,
                                (
                                  refl,
                                  catch ps x.completion o,
                                  (
                                    refl,
                                    o.next,
                                    (
                                      refl,
                                      o.ends,
                                      tt,
                                    ),
                                  ),
                                ),
                              ),
                            ),
                          ),
                        ),
                      ),
                    ),
                  ),
                ),
              ),
            ),
          ),
        ),
      ),
    )
