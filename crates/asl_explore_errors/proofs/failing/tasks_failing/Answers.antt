use Rattle.std.proofs.Common.{◌≡◌, ◌≤◌, ◌∙◌, ℕ, [], ◌∷◌, List, ap, arith, length, map, refl}
use Rattle.std.specs.Borrow.{Bor}
use Rattle.std.proofs.lemmas.Result.{IfOk-weaker}
use Rattle.asl_json_data.specs.Data.{Data}
use Rattle.asl_task_errors.specs.Tasks.{Told, task_errors}
use Rattle.asl_task_errors.specs.View.{all_told}
use Rattle.asl_explore_errors.specs.Searches.{names_in, tasks_failing, with_errors}
use Rattle.asl_explore_errors.proofs.failing.tasks_failing.Goals as goal

named : (names : List (Bor (List ℕ))) (m : Data) → 1 ≤ length names → map (with_errors (names_in names)) (task_errors m) ≡ tasks_failing (names_in names) m
named [] m le = absurd (omega (arith, le))
named (n ∷ ns) m le = refl

pub returns : goal.returns
returns c =
    let names = c.args.names.now in
    let tasks = ap all_told c.deref.ensures.value ∙ c.in_ok-tasks.ensures ∙ ap task_errors c.in_ok-definition.ensures in
    IfOk-weaker c.all_with_errors.result _ _ (λ v e. e ∙ ap (λ (ts : List Told). map (with_errors (names_in names)) ts) tasks ∙ named names c.args.machine.now c.in-len1-up.len_at_least) c.all_with_errors.ensures
