-- The rules of a command line.
use Rattle.std.specs.Prelude.{ℕ, Bool, ◌≡◌, List, [], ◌∷◌, ◌++◌, Option, Some, None, Result, Ok, Err, ⊤, map}
use Rattle.std.specs.List.{flat_map}
use Rattle.asl_json_data.specs.Data.{Data}
use Rattle.asl_text.specs.Shown.{shown}
use Rattle.asl_def.specs.Machines.{state_number}
use Rattle.asl_task_errors.specs.Tasks.{Told, task_errors}
use Rattle.asl_run_state.specs.declared.outcome.Outcome.{Outcome}
use Rattle.asl_run_input.specs.declared.setup.Setup.{Setup}
use Rattle.asl_rules.specs.Reading.{always_in, undo_in}
use Rattle.asl_rules.specs.Truth.{holds}
use Rattle.asl_rules.specs.declared.atom.Task.{Task}
use Rattle.asl_rules.specs.declared.fault.RuleFault.{RuleFault}
use Rattle.asl_rules.specs.declared.rule.Rule.{Rule as CodeRule}
use Rattle.asl_cli.specs.declared.fault.CommandFault.{CommandFault}
use Rattle.asl_cli.specs.declared.fault.CommandFault.TheVariants.{Rule, OutOfMemory}
use Rattle.asl_cli.specs.declared.ruling.Kind.{Kind}
use Rattle.asl_cli.specs.declared.ruling.Kind.TheVariants.{Always, Undo}
use Rattle.asl_cli.specs.declared.ruling.Ruled.{Ruled}

-- an execution that ends so is accepted where the rule holds
abbrev pub accepts : Ruled → Setup → Outcome → List ℕ → Bool
accepts r s o counts = holds s.case counts o r.rule

-- ---- the Tasks that rules may name

abbrev pub numbered_task : List ℕ → Option ℕ → List Task
numbered_task name None = []
numbered_task name (Some n) = record { name = name; number = n } ∷ []

abbrev pub task_of : Data → Told → List Task
task_of m t = numbered_task t.0 (state_number t.0 m)

-- the Tasks of a definition, with their numbers among its states
abbrev pub tasks_of : Data → List Task
tasks_of m = flat_map (task_of m) (task_errors m)

-- ---- reading

abbrev pub read_by : Kind → List Task → List ℕ → Result CodeRule RuleFault
read_by Always ts t = always_in ts t
read_by Undo ts t = undo_in ts t

-- these rules and one more
abbrev pub one_more : List Ruled → Result CodeRule RuleFault → Result (List Ruled) RuleFault
one_more rs (Ok r) = Ok (rs ++ record { rule = r } ∷ [])
one_more rs (Err f) = Err f

abbrev pub rules_behind : Kind → List Task → Result (List Ruled) RuleFault → List (List ℕ) → Result (List Ruled) RuleFault
rules_behind k ts (Err f) texts = Err f
rules_behind k ts (Ok rs) [] = Ok rs
rules_behind k ts (Ok rs) (t ∷ texts) = rules_behind k ts (one_more rs (read_by k ts t)) texts

-- the rules of --always and then those of --undo, or the fault of the first that is none
abbrev pub rules_of : List Task → List (List ℕ) → List (List ℕ) → Result (List Ruled) RuleFault
rules_of ts always undo = rules_behind Undo ts (rules_behind Always ts (Ok []) always) undo

-- why they aren't read, or memory ran out
abbrev pub IsRuleReason : Result (List Ruled) RuleFault → CommandFault → Type 0
IsRuleReason r (Rule f lines) = r ≡ Err f
IsRuleReason r OutOfMemory = ⊤
IsRuleReason r _ = ⊥

-- as they are told: as they are written, on one line each
abbrev pub rule_texts : List (List ℕ) → List (List ℕ) → List (List ℕ)
rule_texts always undo = map shown (always ++ undo)
