-- Where findings stand.
use Rattle.std.specs.Prelude.{ℕ, ◌-◌, List, [], ◌∷◌, ◌≡◌, ◌≤◌, Option, Some, None, length, take}
use Rattle.std.specs.List.{All}
use Rattle.std.specs.List.Sorted.{IsNonDecreasingBy, IsPermutation, IsStableByKey}
use Rattle.std.specs.Ordering.{nat_cmp}
use Rattle.asl_json_data.specs.Data.{Data}
use Rattle.asl_json_spans.specs.declared.span.Span.{Span}
use Rattle.asl_json_spans.specs.declared.span.Node.{Node}
use Rattle.asl_json_spans.specs.Places.{place, place_at}
use Rattle.asl_json_spans.specs.Position.{IsPosition}
use Rattle.asl_json_spans.specs.Standing.{Finds}
use Rattle.asl_lint.specs.declared.rule.Rule.{Rule}
use Rattle.asl_lint.specs.declared.part.Part.{Part}
use Rattle.asl_lint.specs.declared.part.Part.TheVariants.{Key, Value, End}
use Rattle.asl_lint.specs.declared.finding.Finding.{Finding}
use Rattle.asl_lint.specs.declared.finding.Found.{Found}
use Rattle.asl_lint.specs.Findings.{Noted, part_of, pointed}

-- at the line and the column where its stretch of the text begins
pub record IsAt (b : List ℕ) (f : Finding) : Type 0 where
  pub begins : f.span.begin ≤ length b → f.position.at ≡ f.span.begin
  pub position : IsPosition (take f.position.at b) f.position.lines f.position.characters

-- each of these in a text, where there is one
abbrev pub AreIn : Option (List ℕ) → List Finding → Type 0
AreIn None fs = fs ≡ []
AreIn (Some b) fs = All (IsAt b) fs

-- what a finding that isn't placed yet is of, and its place
abbrev pub noted : Found → Noted
noted f = (f.rule, f.place.items)

-- ---- the stretch of the text at which a finding points

-- the last byte of a value
abbrev pub end_of : Node → Span
end_of n = record { begin = n.value.end - 1; end = n.value.end }

-- the beginning of the text where there is no such value
abbrev pub span_by : Part → Option Node → Span
span_by p None = record { begin = 0; end = 0 }
span_by Key (Some n) = n.key
span_by Value (Some n) = n.value
span_by End (Some n) = end_of n

-- what a finding is of, and its stretch
abbrev pub Ruled : Type 0
Ruled = Rule × Span

abbrev pub ruled : Finding → Ruled
ruled f = (f.rule, f.span)

-- it points at its part of the value that stands at its place in a text of this value
pub record Points (b : List ℕ) (d : Data) (n : Noted) (r : Ruled) : Type 0 where
  pub node : Option Node
  pub stands : Finds b (place_at (Some (place [] d)) (pointed n)) node
  pub parts : r ≡ (n.0, span_by (part_of n.0) node)

abbrev pub AllPoint : List ℕ → Data → List Noted → List Ruled → Type 0
AllPoint b d [] [] = Unit {0}
AllPoint b d [] (r ∷ rs) = ⊥
AllPoint b d (n ∷ ns) [] = ⊥
AllPoint b d (n ∷ ns) (r ∷ rs) = Points b d n r × AllPoint b d ns rs

-- the byte at which it begins
abbrev pub begin_of : Ruled → ℕ
begin_of r = r.1.begin

-- each of these once, at its stretch, and no other, in the order in which the stretches begin; those
-- that begin together stand as they stood
pub record ArePlaced (b : List ℕ) (d : Data) (ns : List Noted) (rs : List Ruled) : Type 0 where
  pub pointed : List Ruled
  pub point : AllPoint b d ns pointed
  pub same : IsPermutation pointed rs
  pub sorted : IsNonDecreasingBy begin_of rs
  pub stable : IsStableByKey begin_of nat_cmp pointed rs
