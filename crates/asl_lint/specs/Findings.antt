-- What is found in a definition.
use Rattle.std.specs.Prelude.{◌≡◌, ℕ, ◌-◌, List, [], ◌∷◌, ◌++◌, Bool, true, false, ◌&&◌, not, length, map, reverse, take, if◌then◌else◌}
use Rattle.asl_json_data.specs.Data.{Data}
use Rattle.asl_def_schema.specs.declared.fault.Step.{Step}
use Rattle.asl_def_schema.specs.declared.fault.FaultKind.TheVariants as fault
use Rattle.asl_def_schema.specs.First.{Found}
use Rattle.asl_def_schema.specs.Faults.{claims_of}
use Rattle.asl_lint_faults.specs.Told.{AreTold}
use Rattle.asl_lint_warnings.specs.declared.warning.WarningKind.{WarningKind}
use Rattle.asl_lint_warnings.specs.declared.warning.WarningKind.TheVariants as warning
use Rattle.asl_lint_warnings.specs.Kinds.{Noted as Warned}
use Rattle.asl_lint_warnings.specs.Warnings.{warnings_of}
use Rattle.asl_lint.specs.declared.rule.Rule.{Rule}
use Rattle.asl_lint.specs.declared.rule.Rule.TheVariants as rule
use Rattle.asl_lint.specs.declared.rule.MockRule.{MockRule}
use Rattle.asl_lint.specs.declared.rule.MockRule.TheVariants as mock
use Rattle.asl_lint.specs.declared.part.Part.{Part}
use Rattle.asl_lint.specs.declared.part.Part.TheVariants.{Key, Value, End}

-- what a finding is of, and the numbers of the members and items on the way to its place, from the
-- outermost in
abbrev pub Noted : Type 0
Noted = Rule × List ℕ

abbrev pub numbers : List Step → List ℕ
numbers ss = map (λ (s : Step). s.at) ss

abbrev pub of_fault : Found → Noted
of_fault f = (rule.Fault f.0, numbers f.1)

-- the steps to a warning's place stand with the innermost first
abbrev pub of_warning : Warned → Noted
of_warning w = (rule.Warning w.0, numbers (reverse w.1))

-- of the way through the states, which the faults of a definition may break
abbrev pub is_of_ways : WarningKind → Bool
is_of_ways warning.UnreachableState = true
is_of_ways warning.NoEnd = true
is_of_ways k = false

abbrev pub is_kept : Bool → Warned → Bool
is_kept faulty w = not (faulty && is_of_ways w.0)

abbrev pub told_of : Bool → Warned → List Noted
told_of kept w = if kept then of_warning w ∷ [] else []

-- of a definition with faults the warnings of its ways aren't told
abbrev pub warnings_told : Bool → List Warned → List Noted
warnings_told faulty [] = []
warnings_told faulty (w ∷ ws) = told_of (is_kept faulty w) w ++ warnings_told faulty ws

abbrev pub is_faulty : List Found → Bool
is_faulty [] = false
is_faulty (f ∷ fs) = true

-- each fault of a definition once, behind them each warning that is told once, and nothing else
pub record AreFound (d : Data) (ns : List Noted) : Type 0 where
  pub faults : List Found
  pub told : AreTold (claims_of d) faults
  pub parts : ns ≡ map of_fault faults ++ warnings_told (is_faulty faults) (warnings_of d)

-- ---- at what a finding points

abbrev pub part_of_mock : MockRule → Part
part_of_mock mock.Json = Value
part_of_mock mock.Shape = Value
part_of_mock mock.NoResponse = Value
part_of_mock mock.NoMachine = Value
part_of_mock r = Key

-- a missing member at the end of its object, a key that is one too many or a whole state at the key,
-- what else is wrong with a member at its value
abbrev pub part_of : Rule → Part
part_of rule.Json = Value
part_of (rule.Fault fault.Missing) = End
part_of (rule.Fault fault.UnknownField) = Key
part_of (rule.Fault fault.Both) = Key
part_of (rule.Fault fault.DuplicateState) = Key
part_of (rule.Fault k) = Value
part_of (rule.Warning warning.UnreachableState) = Key
part_of (rule.Warning warning.NoEnd) = Key
part_of (rule.Warning warning.NoDefault) = Key
part_of (rule.Warning warning.EndlessWait) = Key
part_of (rule.Warning k) = Value
part_of (rule.Mock r) = part_of_mock r
part_of (rule.File r) = Value

abbrev pub pointed_by : Part → List ℕ → List ℕ
pointed_by Key is = is
pointed_by Value is = is
pointed_by End is = take (length is - 1) is

-- the place of the value at which it points: of a missing member that of its object
abbrev pub pointed : Noted → List ℕ
pointed n = pointed_by (part_of n.0) n.1
