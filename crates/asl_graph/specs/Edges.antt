-- The transitions that a run took.
use Rattle.std.specs.Prelude.{ℕ, Bool, true, false, ◌==◌, ◌&&◌, List, [], ◌∷◌, if◌then◌else◌}
use Rattle.std.specs.Str.{bytes_eq}
use Rattle.asl_graph.specs.declared.edges.Way.{Way}
use Rattle.asl_graph.specs.declared.edges.Way.TheVariants.{Start, Next, Rule, Default, Catcher}
use Rattle.asl_graph.specs.declared.edges.Edge.{Edge}

-- two ways are the same
abbrev pub is_way : Way → Way → Bool
is_way Start Start = true
is_way Next Next = true
is_way (Rule i) (Rule j) = i == j
is_way Default Default = true
is_way (Catcher i) (Catcher j) = i == j
is_way v w = false

-- it is the transition of this state and way
abbrev pub is_edge : Edge → List ℕ → Way → Bool
is_edge e n w = bytes_eq e.state n && is_way e.way w

-- it is among these
abbrev pub is_taken : List Edge → List ℕ → Way → Bool
is_taken [] n w = false
is_taken (e ∷ es) n w = if is_edge e n w then true else is_taken es n w
