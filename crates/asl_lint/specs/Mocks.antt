-- What is told of a mock file, by itself and beside the states of a definition.
use Rattle.std.specs.Prelude.{ℕ, List, [], ◌∷◌, ◌++◌, Bool, true, false, ◌&&◌, not, Option, Some, None, map, if◌then◌else◌}
use Rattle.std.specs.List.{list_any}
use Rattle.asl_json_data.specs.Data.{Data}
use Rattle.asl_json_data.specs.Distinct.{Members}
use Rattle.asl_json.specs.Same.{bytes_eq}
use Rattle.asl_def_schema.specs.declared.sort.Kind.{Kind}
use Rattle.asl_def_schema.specs.declared.sort.Kind.TheVariants as kind
use Rattle.asl_mock.specs.Faults.{bad_keys, overlaps}
use Rattle.asl_mock.specs.Form.{misfits}
use Rattle.asl_mock.specs.Places.{Place}
use Rattle.asl_mock.specs.declared.shape.Shape.TheVariants.{Top}
use Rattle.asl_lint_mocks.specs.Beside.{machines_in, is_unclear, unclear, fits, misnamed, is_answered}
use Rattle.asl_lint_mocks.specs.Lost.{lost_names}
use Rattle.asl_lint_mocks.specs.Places.{keys_of}
use Rattle.asl_lint_mocks.specs.Warnings.{gaps, unused}
use Rattle.asl_lint_mocks.specs.declared.beside.NameFault.TheVariants as name
use Rattle.asl_lint_messages.specs.States.{Stated}
use Rattle.asl_lint.specs.declared.rule.Rule.{Rule}
use Rattle.asl_lint.specs.declared.rule.Rule.TheVariants as rule
use Rattle.asl_lint.specs.declared.rule.MockRule.{MockRule}
use Rattle.asl_lint.specs.declared.rule.MockRule.TheVariants as mock
use Rattle.asl_lint.specs.Findings.{Noted}

-- what a finding in a mock file is of, and the keys on the way to its place
abbrev pub Keyed : Type 0
Keyed = Rule × Place

abbrev pub keyed : Members → Noted → Keyed
keyed ms n = (n.0, keys_of ms n.1)

-- of this rule, at each of these places
abbrev pub each_of : MockRule → List Place → List Keyed
each_of r ps = map (λ (p : Place). (rule.Mock r, p)) ps

-- by itself: each of its faults, the responses that leave out a number, and those that no case names
abbrev pub own_told : Data → List Keyed
own_told d =
    each_of mock.Shape (misfits Top d)
    ++ (each_of mock.Key (bad_keys d)
    ++ (each_of mock.Overlap (overlaps d)
    ++ (each_of mock.NoResponse (lost_names d)
    ++ (each_of mock.MissingAnswer (gaps d) ++ each_of mock.UnusedResponse (unused d)))))

-- ---- beside the states of a definition

abbrev pub is_state : List Stated → List ℕ → Bool
is_state ss k = list_any (λ (s : Stated). bytes_eq k s.name) ss

-- a state whose type isn't known may be one
abbrev pub may_be_task : Option Kind → Bool
may_be_task None = true
may_be_task (Some kind.Task) = true
may_be_task _ = false

abbrev pub is_task : List Stated → List ℕ → Bool
is_task ss k = list_any (λ (s : Stated). bytes_eq k s.name && may_be_task s.kind) ss

-- it isn't clear which machine is meant; a case of the one that is meant has an answer for what is no
-- state, or for a state that is no Task
abbrev pub beside_told : Option (List ℕ) → List Stated → Data → List Keyed
beside_told w ss d =
    each_of mock.NoMachine (unclear w d)
    ++ (each_of mock.UnknownState (misnamed w (fits name.Unknown (is_state ss) (is_task ss)) d)
    ++ each_of mock.NotTask (misnamed w (fits name.NoTask (is_state ss) (is_task ss)) d))

abbrev pub mocks_told : Option (List ℕ) → Option (List Stated) → Data → List Keyed
mocks_told w None d = own_told d
mocks_told w (Some ss) d = own_told d ++ beside_told w ss d

-- ---- in the definition: the Tasks that no case of the machine that is meant answers

abbrev pub is_a_task : Option Kind → Bool
is_a_task (Some kind.Task) = true
is_a_task _ = false

abbrev pub told_if : Bool → Stated → List Noted
told_if b s = if b then (rule.Mock mock.UnansweredTask, s.place) ∷ [] else []

abbrev pub without_answer : (List ℕ → Bool) → List Stated → List Noted
without_answer answered [] = []
without_answer answered (s ∷ ss) =
    told_if (is_a_task s.kind && not (answered s.name)) s ++ without_answer answered ss

-- none where it isn't clear which machine is meant
abbrev pub unanswered : Option (List ℕ) → List Stated → Data → List Noted
unanswered w ss d =
    if is_unclear w (machines_in d) then [] else without_answer (is_answered w d) ss
