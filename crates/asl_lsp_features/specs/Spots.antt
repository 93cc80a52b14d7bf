-- Where the names of states stand in a document.
use Rattle.std.specs.Prelude.{◌≡◌, ℕ, Bool, true, false, ◌&&◌, not, nat_le, List, [], ◌∷◌, ◌++◌, Option, Some, None, map, if◌then◌else◌}
use Rattle.asl_json_data.specs.Data.{Data}
use Rattle.asl_json_spans.specs.declared.span.Span.{Span}
use Rattle.asl_json_spans.specs.declared.span.Node.{Node}
use Rattle.asl_json_spans.specs.Standing.{AllFind}
use Rattle.asl_state_names.specs.declared.mention.Mention.{Mention}
use Rattle.asl_state_names.specs.Names.{names_of, is_same_state}
use Rattle.asl_lsp_features.specs.declared.spot.Spot.{Spot}
use Rattle.asl_lsp_features.specs.declared.spot.Sought.{Sought}
use Rattle.asl_lsp_features.specs.declared.spot.Sought.TheVariants.{Declaration, References, Every}

-- ---- the stretches of names

-- with its quotes: of a key or of a value
abbrev pub span_by : Bool → Option Node → Span
span_by key None = record { begin = 0; end = 0 }
span_by true (Some n) = n.key
span_by false (Some n) = n.value

abbrev pub spot : Mention → Option Node → Spot
spot m o = record { mention = m; span = span_by m.is_key o }

abbrev pub front : List (Option Node) → Option Node
front [] = None
front (o ∷ os) = o

abbrev pub behind : List (Option Node) → List (Option Node)
behind [] = []
behind (o ∷ os) = os

-- each of these names by what stands at its place
abbrev pub spots : List Mention → List (Option Node) → List Spot
spots [] os = []
spots (m ∷ ms) os = spot m (front os) ∷ spots ms (behind os)

-- the names of states in a text of this value, each with its stretch
pub record AreSpots (t : List ℕ) (d : Data) (ss : List Spot) : Type 0 where
  pub nodes : List (Option Node)
  pub find : AllFind t d (map (λ (m : Mention). m.place) (names_of d)) nodes
  pub parts : ss ≡ spots (names_of d) nodes

-- ... in a text that spells this value; none where it spells none
abbrev pub AreSpotsIn : List ℕ → Option Data → Option (List Spot) → Type 0
AreSpotsIn t None None = Unit {0}
AreSpotsIn t None (Some ss) = ⊥
AreSpotsIn t (Some d) None = ⊥
AreSpotsIn t (Some d) (Some ss) = AreSpots t d ss

-- ---- choosing

-- between two characters of the stretch, or at one of its ends
abbrev pub is_in : ℕ → Span → Bool
is_in o s = nat_le s.begin o && nat_le o s.end

-- the first name that an offset is in
abbrev pub at_offset : ℕ → List Spot → Option Spot
at_offset o [] = None
at_offset o (s ∷ ss) = if is_in o s.span then Some s else at_offset o ss

abbrev pub is_sought : Sought → Bool → Bool
is_sought Declaration key = key
is_sought References key = not key
is_sought Every key = true

-- whether it is one of those that are sought of the state that m names
abbrev pub is_of : Sought → Mention → Spot → Bool
is_of w m s = is_same_state m s.mention && is_sought w s.mention.is_key

abbrev pub span_where : Bool → Spot → List Span
span_where b s = if b then s.span ∷ [] else []

-- the stretches of those, in document order
abbrev pub spans_of : Sought → Mention → List Spot → List Span
spans_of w m [] = []
spans_of w m (s ∷ ss) = span_where (is_of w m s) s ++ spans_of w m ss
