-- An execution under a plan.
use Rattle.std.specs.Prelude.{ℕ, ◌≡◌, ◌≤◌, List, [], ◌∷◌, is_some, if◌then◌else◌}
use Rattle.std.specs.List.{flat_map}
use Rattle.asl_mock.specs.Answers.{Case, answer_to}
use Rattle.asl_mock.specs.Tables.{value_for}
use Rattle.asl_run_input.specs.declared.setup.Setup.{Setup}
use Rattle.asl_error_plans.specs.Injected.{under_plan}
use Rattle.asl_error_plans.specs.Printing.{file_text}
use Rattle.asl_error_plans.specs.declared.injected.InjectedError.{InjectedError}
use Rattle.asl_task_errors.specs.Tasks.{Told, task_errors}

-- the execution whose case has the plan's errors put in
pub record IsUnder (s : Setup) (plan : List InjectedError) (under : Setup) : Type 0 where
  pub case : Case
  pub answers : (state : List ℕ) (k : ℕ) → k ≤ 4294967295
      → answer_to case state k ≡ under_plan plan (answer_to s.case) state k
  pub setup : under ≡ record s { case = case }

-- the name of a Task, if the case names it
abbrev pub named_task : Case → Told → List (List ℕ)
named_task c t = if is_some (value_for t.0 c) then t.0 ∷ [] else []

-- the names of the Tasks of the definition that the case names
abbrev pub named_tasks : Setup → List (List ℕ)
named_tasks s = flat_map (named_task s.case) (task_errors s.machine)

-- the case of an execution as a mock file
abbrev pub case_file : Setup → List ℕ
case_file s = file_text s.name_of_machine s.name s.case (named_tasks s)
