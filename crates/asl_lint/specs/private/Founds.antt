-- Findings while they are made.
use Rattle.std.specs.Prelude.{ℕ, List, [], ◌∷◌, ◌++◌, ◌≡◌, Option, None, map}
use Rattle.std.specs.HashSet.{contains_text}
use Rattle.asl_json_data.specs.Distinct.{Members}
use Rattle.asl_json_spans.specs.declared.span.Node.{Node}
use Rattle.asl_lint_mocks.specs.declared.beside.Known.{Known}
use Rattle.asl_lint_messages.specs.States.{Stated}
use Rattle.asl_lint.specs.declared.finding.Found.{Found}
use Rattle.asl_lint.specs.declared.placing.Spanned.{Spanned}
use Rattle.asl_lint.specs.Findings.{Noted, part_of}
use Rattle.asl_lint.specs.Mocks.{Keyed, keyed, is_state, is_task}
use Rattle.asl_lint.specs.Places.{Ruled, span_by}
pub use Rattle.asl_lint.specs.Places.{noted}

abbrev pub spanned : Spanned → Ruled
spanned s = (s.found.rule, s.span)

abbrev pub front : List (Option Node) → Option Node
front [] = None
front (o ∷ os) = o

abbrev pub behind : List (Option Node) → List (Option Node)
behind [] = []
behind (o ∷ os) = os

-- of each finding the part of its node
abbrev pub with_nodes : List Found → List (Option Node) → List Ruled
with_nodes [] os = []
with_nodes (f ∷ fs) os =
    (f.rule, span_by (part_of f.rule) (front os)) ∷ with_nodes fs (behind os)

-- behind what was found before, these, by the keys on the way
abbrev pub Grows : Members → List Noted → List Noted → List Keyed → Type 0
Grows ms old new ks = map (keyed ms) new ≡ map (keyed ms) old ++ ks

-- the names of these states, and of those that may be Tasks
pub record IsKnown (n : Known) (ss : List Stated) : Type 0 where
  pub states : (k : List ℕ) → contains_text n.states.now k ≡ is_state ss k
  pub tasks : (k : List ℕ) → contains_text n.tasks.now k ≡ is_task ss k

-- behind what was found before, such ones
pub record Adds (P : List Noted → Type 0) (old new : List Noted) : Type 0 where
  pub more : List Noted
  pub parts : new ≡ old ++ more
  pub are : P more
