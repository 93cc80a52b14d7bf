-- The way to a place in an outline: each step, and the nodes from the value that it leads to on.
use Rattle.std.specs.Prelude.{◌≡◌, ℕ, List, [], ◌∷◌}
use Rattle.asl_json_spans.specs.declared.span.Node.{Node}
use Rattle.asl_json_spans.specs.declared.reaching.Reached.{Reached}
use Rattle.asl_json_spans.specs.private.Marks.{parts_of, behind_some}

abbrev pub seen : Reached → ℕ × List Node
seen r = (r.number, r.rest.now)

abbrev pub trail : List Node → List ℕ → List (ℕ × List Node)
trail ns [] = []
trail ns (i ∷ is) = (i, behind_some i (parts_of ns)) ∷ trail (behind_some i (parts_of ns)) is

abbrev pub IsTrail : List Node → List (ℕ × List Node) → Type 0
IsTrail ns [] = Unit {0}
IsTrail ns (r ∷ rs) = (r.1 ≡ behind_some r.0 (parts_of ns)) × IsTrail r.1 rs
