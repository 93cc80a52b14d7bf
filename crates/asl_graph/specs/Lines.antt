-- The lines of a graph, in both languages.
use Rattle.std.specs.Prelude.{ℕ, Bool, true, false, List, [], ◌∷◌, ◌++◌, if◌then◌else◌, codes}
use Rattle.asl_json.specs.Same.{bytes_eq}
use Rattle.asl_graph.specs.declared.language.Language.{Language}
use Rattle.asl_graph.specs.declared.language.Language.TheVariants.{Mermaid, Dot}
use Rattle.asl_graph.specs.Names.{shown, state_id, box_key}

-- ---- the beginning and the end

-- Mermaid names the styles of states in which a run fails or succeeds once
unfoldable pub heading : Language → List ℕ
heading Mermaid =
    codes "flowchart TD"
    ++ 10 ∷ (codes "classDef fail stroke:#c00" ++ 10 ∷ (codes "classDef succeed stroke:#080" ++ 10 ∷ []))
heading Dot =
    codes "digraph {"
    ++ 10 ∷ (codes "node [shape=box];" ++ 10 ∷ (codes "labeljust=l;" ++ 10 ∷ []))

unfoldable pub ending : Language → List ℕ
ending Mermaid = []
ending Dot = codes "}" ++ 10 ∷ []

-- ---- pieces

unfoldable pub line_end : Language → List ℕ
line_end Mermaid = 10 ∷ []
line_end Dot = codes ";" ++ 10 ∷ []

-- ---- states

unfoldable pub label_open : Language → List ℕ
label_open Mermaid = codes "[\""
label_open Dot = codes " [label=\""

-- by the state's type: red for Fail, green for Succeed
unfoldable pub label_close : Language → List ℕ → List ℕ
label_close Mermaid kind =
    if bytes_eq kind (codes "Fail") then codes "\"]:::fail"
    else if bytes_eq kind (codes "Succeed") then codes "\"]:::succeed"
    else codes "\"]"
label_close Dot kind =
    if bytes_eq kind (codes "Fail") then codes "\", color=red3]"
    else if bytes_eq kind (codes "Succeed") then codes "\", color=green4]"
    else codes "\"]"

unfoldable pub label_break : Language → List ℕ
label_break Mermaid = codes "<br/>"
label_break Dot = codes "\\n"

-- the label of a state of this name, type and mark
abbrev pub state_label : Language → List ℕ → List ℕ → List ℕ → List ℕ
state_label l name kind mark = shown l name ++ (label_break l ++ (shown l kind ++ mark))

-- its line
abbrev pub state_line : Language → List ℕ → List ℕ → List ℕ → List ℕ
state_line l name kind mark =
    state_id name
    ++ (label_open l ++ (state_label l name kind mark ++ (label_close l kind ++ line_end l)))

-- ---- transitions

-- thick where it was taken
unfoldable pub arrow : Language → Bool → List ℕ
arrow Mermaid false = codes " --> "
arrow Mermaid true = codes " ==> "
arrow Dot false = codes " -> "
arrow Dot true = codes " -> "

unfoldable pub edge_end : Language → Bool → List ℕ
edge_end Mermaid false = 10 ∷ []
edge_end Mermaid true = 10 ∷ []
edge_end Dot false = codes ";" ++ 10 ∷ []
edge_end Dot true = codes " [penwidth=4];" ++ 10 ∷ []

abbrev pub plain_line : Language → Bool → List ℕ → List ℕ → List ℕ
plain_line l taken from to =
    state_id from ++ (arrow l taken ++ (state_id to ++ edge_end l taken))

-- what stands before a label in Mermaid
unfoldable pub label_arrow : Bool → List ℕ
label_arrow false = codes " -->|\""
label_arrow true = codes " ==>|\""

-- what stands behind one in DOT
unfoldable pub label_end : Bool → List ℕ
label_end false = codes "\"];" ++ 10 ∷ []
label_end true = codes "\", penwidth=4];" ++ 10 ∷ []

-- a transition with a label, which is shown already
abbrev pub labelled_line : Language → Bool → List ℕ → List ℕ → List ℕ → List ℕ
labelled_line Mermaid taken from label to =
    state_id from ++ (label_arrow taken ++ (label ++ (codes "\"| " ++ (state_id to ++ 10 ∷ []))))
labelled_line Dot taken from label to =
    state_id from
    ++ (codes " -> " ++ (state_id to ++ (codes " [label=\"" ++ (label ++ label_end taken))))

-- ---- where a machine begins and where it ends, by what tells it from others

abbrev pub begin_mark : List ℕ → List ℕ
begin_mark key = 105 ∷ key

abbrev pub end_mark : List ℕ → List ℕ
end_mark key = 101 ∷ key

unfoldable pub begin_label : Language → List ℕ
begin_label Mermaid = codes "((\" \"))"
begin_label Dot = codes " [shape=point]"

unfoldable pub end_label : Language → List ℕ
end_label Mermaid = codes "(((\" \")))"
end_label Dot = codes " [shape=point, peripheries=2]"

abbrev pub both_marks : Language → List ℕ → List ℕ
both_marks l key =
    (begin_mark key ++ (begin_label l ++ line_end l)) ++ (end_mark key ++ (end_label l ++ line_end l))

-- from where it begins to its first state
abbrev pub begin_line : Language → Bool → List ℕ → List ℕ → List ℕ
begin_line l taken key first =
    begin_mark key ++ (arrow l taken ++ (state_id first ++ edge_end l taken))

abbrev pub begin_lines : Language → Bool → List ℕ → List ℕ → List ℕ
begin_lines l taken key first = both_marks l key ++ begin_line l taken key first

-- from a state in which it ends
abbrev pub end_line : Language → List ℕ → List ℕ → List ℕ
end_line l key from =
    state_id from ++ (arrow l false ++ (end_mark key ++ edge_end l false))

-- ---- boxes

unfoldable pub box_open : Language → List ℕ
box_open Mermaid = codes "subgraph b"
box_open Dot = codes "subgraph cluster_b"

unfoldable pub box_label : Language → List ℕ
box_label Mermaid = codes " [\""
box_label Dot = codes " {" ++ 10 ∷ codes "label=\""

unfoldable pub box_label_end : Language → List ℕ
box_label_end Mermaid = codes "\"]" ++ 10 ∷ []
box_label_end Dot = codes "\";" ++ 10 ∷ []

unfoldable pub box_close : Language → List ℕ
box_close Mermaid = codes "end" ++ 10 ∷ []
box_close Dot = codes "}" ++ 10 ∷ []

unfoldable pub dotted : Language → List ℕ
dotted Mermaid = codes " -.-> "
dotted Dot = codes " -> "

unfoldable pub dotted_end : Language → List ℕ
dotted_end Mermaid = 10 ∷ []
dotted_end Dot = codes " [style=dotted];" ++ 10 ∷ []

-- the beginning of the box of the machine with this number inside a state; what tells of it is
-- shown already
abbrev pub box_heading : Language → List ℕ → ℕ → List ℕ → List ℕ
box_heading l name i told =
    box_open l ++ (box_key name i ++ (box_label l ++ (shown l name ++ (told ++ box_label_end l))))

-- its end, and from the state into it
abbrev pub box_ending : Language → List ℕ → ℕ → List ℕ
box_ending l name i =
    box_close l ++ (state_id name ++ (dotted l ++ (begin_mark (box_key name i) ++ dotted_end l)))
