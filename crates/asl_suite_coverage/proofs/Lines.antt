-- On which lines values begin.
use Rattle.std.proofs.Common.{ℕ, ◌+◌, ◌≤◌, ◌≡◌, ◌∙◌, List, ◌++◌, length, length-append, take, Some, None, ap, arith}
use Rattle.std.specs.Prelude.{Option, count_by}
use Rattle.asl_json_spans.specs.declared.span.Node.{Node}
use Rattle.asl_json_spans.specs.Places.{Place}
use Rattle.asl_json_spans.specs.Position.{IsPosition, is_feed}
use Rattle.asl_json_spans.specs.Standing.{Finds}
use Rattle.asl_suite_coverage.specs.Sites.{begin_of, line_of}

-- a value that is found begins within its text
fits : (b : List ℕ) (p : Option Place) (node : Option Node) → Finds b p node → begin_of node ≤ length b
fits b None None h = omega arith
fits b None (Some n) h = absurd h
fits b (Some p) None h = absurd h
fits b (Some p) (Some n) h =
    let v = h.value in
    let all = ap length v.parts ∙ length-append v.before (v.inner ++ v.behind) in
    omega (arith, all, v.begin_is)

same_line : (b : List ℕ) (at begin lines : ℕ) → at ≡ begin → lines ≡ count_by is_feed (take at b) → lines + 1 ≡ line_of b begin
same_line b at begin lines e h = let there = h ∙ ap (λ n. count_by is_feed (take n b)) e in omega (arith, there)

-- the position of where it begins says its line
pub lined : (b : List ℕ) (p : Option Place) (node : Option Node) (at lines characters : ℕ) → Finds b p node → (begin_of node ≤ length b → at ≡ begin_of node) → IsPosition (take at b) lines characters
    → lines + 1 ≡ line_of b (begin_of node)
lined b p node at lines characters h reach is = same_line b at (begin_of node) lines (reach (fits b p node h)) is.lines_are
