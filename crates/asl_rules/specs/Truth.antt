-- When a rule holds in a run that has ended, by its case, how often each state was invoked, and its outcome.
use Rattle.std.specs.Prelude.{ℕ, ◌==◌, nat_le, nat_lt, Bool, true, false, not, ◌&&◌, ◌||◌, List, Option, Some, None, slice_index, codes}
use Rattle.std.specs.Str.{bytes_eq}
use Rattle.asl_mock.specs.Answers.{Case}
use Rattle.asl_run_state.specs.declared.outcome.Outcome.{Outcome}
use Rattle.asl_run_state.specs.declared.outcome.Outcome.TheVariants as outcomes
use Rattle.asl_rules.specs.Tree.{Formula, conclusion, implies, AnyOf, one, or, AllOf, alone, and, Operand, atom, denied, group}
use Rattle.asl_rules.specs.Answers.{returns, returned, some_below}
use Rattle.asl_rules.specs.declared.atom.Task.{Task}
use Rattle.asl_rules.specs.declared.atom.Atom.{Atom}
use Rattle.asl_rules.specs.declared.atom.Atom.TheVariants.{Done, Returned, Failed, Invoked, Status as HasStatus, Error}
use Rattle.asl_rules.specs.declared.atom.Status.{Status}
use Rattle.asl_rules.specs.declared.atom.Status.TheVariants as statuses
use Rattle.asl_rules.specs.declared.rule.Rule.{Rule}
use Rattle.asl_rules.specs.declared.rule.Rule.TheVariants.{Always, Undo}

-- how often a Task was invoked
abbrev pub count_of : List ℕ → Task → ℕ
count_of counts t = slice_index counts t.number

-- ---- the outcome

-- it has this status; a run that goes on has none
abbrev pub has_status : Outcome → Status → Bool
has_status (outcomes.Succeeded v) statuses.Succeeded = true
has_status (outcomes.Failed e) statuses.Failed = true
has_status outcomes.TimedOut statuses.TimedOut = true
has_status o s = false

abbrev pub is_name : Option (List ℕ) → List ℕ → Bool
is_name (Some n) e = bytes_eq n e
is_name None e = false

-- it has the error of this name
abbrev pub has_error : Outcome → List ℕ → Bool
has_error outcomes.Running e = false
has_error (outcomes.Succeeded v) e = false
has_error (outcomes.Failed f) e = is_name f.error e
has_error outcomes.TimedOut e = bytes_eq (codes "States.Timeout") e

-- ---- formulas

abbrev pub atom_holds : Case → List ℕ → Outcome → Atom → Bool
-- some invocation returns
atom_holds c ns o (Done t) = some_below (returns c t.name) (count_of ns t)
-- at least k do
atom_holds c ns o (Returned t k) = nat_le k (returned c t.name (count_of ns t))
-- some invocation doesn't return
atom_holds c ns o (Failed t) = some_below (λ i. not (returns c t.name i)) (count_of ns t)
atom_holds c ns o (Invoked t) = nat_lt 0 (count_of ns t)
atom_holds c ns o (HasStatus s) = has_status o s
atom_holds c ns o (Error e) = has_error o e

abbrev mutual
  pub formula_holds : Case → List ℕ → Outcome → Formula → Bool
  formula_holds c ns o (conclusion a) = any_holds c ns o a
  formula_holds c ns o (implies a f) = not (any_holds c ns o a) || formula_holds c ns o f

  pub any_holds : Case → List ℕ → Outcome → AnyOf → Bool
  any_holds c ns o (one a) = all_hold c ns o a
  any_holds c ns o (or a b) = all_hold c ns o a || any_holds c ns o b

  pub all_hold : Case → List ℕ → Outcome → AllOf → Bool
  all_hold c ns o (alone p) = operand_holds c ns o p
  all_hold c ns o (and p a) = operand_holds c ns o p && all_hold c ns o a

  pub operand_holds : Case → List ℕ → Outcome → Operand → Bool
  operand_holds c ns o (atom a) = atom_holds c ns o a
  operand_holds c ns o (denied p) = not (operand_holds c ns o p)
  operand_holds c ns o (group f) = formula_holds c ns o f

-- ---- rules

-- the run has ended, and in another status than SUCCEEDED
abbrev pub has_not_succeeded : Outcome → Bool
has_not_succeeded outcomes.Running = false
has_not_succeeded (outcomes.Succeeded v) = false
has_not_succeeded (outcomes.Failed e) = true
has_not_succeeded outcomes.TimedOut = true

abbrev pub holds : Case → List ℕ → Outcome → Rule → Bool
holds c ns o (Always f) = formula_holds c ns o f
-- as many invocations of b returned as of a
holds c ns o (Undo a b) =
    not (has_not_succeeded o)
    || (returned c b.name (count_of ns b) == returned c a.name (count_of ns a))
