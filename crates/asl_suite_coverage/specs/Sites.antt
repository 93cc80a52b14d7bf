-- Where points stand in the texts of their files.
use Rattle.std.specs.Prelude.{ℕ, suc, ◌≡◌, List, [], take, count_by, Option, Some, None}
use Rattle.asl_json_data.specs.Data.{Data}
use Rattle.asl_json_spans.specs.declared.span.Node.{Node}
use Rattle.asl_json_spans.specs.Places.{place, place_at}
use Rattle.asl_json_spans.specs.Position.{is_feed}
use Rattle.asl_json_spans.specs.Standing.{Finds}
use Rattle.asl_suite_coverage.specs.declared.point.Point.{Point}
use Rattle.asl_suite_coverage.specs.declared.siting.Sited.{Sited}

abbrev pub point_of : Sited → Point
point_of s = s.point.now

-- the byte at which a value begins; that of the text where there is none
abbrev pub begin_of : Option Node → ℕ
begin_of None = 0
begin_of (Some n) = n.value.begin

-- the line of a byte of a text, from 1
abbrev pub line_of : List ℕ → ℕ → ℕ
line_of b i = suc (count_by is_feed (take i b))

-- a line on which a value begins in a text of this value
pub record IsLined (b : List ℕ) (d : Data) (line : ℕ) : Type 0 where
  pub way : List ℕ
  pub node : Option Node
  pub stands : Finds b (place_at (Some (place [] d)) way) node
  pub line_is : line ≡ line_of b (begin_of node)
