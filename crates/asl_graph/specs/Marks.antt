-- The graph of a definition with marks on states and transitions.
use Rattle.std.specs.Prelude.{ℕ, List, [], ◌∷◌, ◌++◌, codes}
use Rattle.std.specs.List.{flat_map}
use Rattle.asl_json_data.specs.Data.{Data}
use Rattle.asl_graph.specs.declared.language.Language.{Language}
use Rattle.asl_graph.specs.declared.language.Language.TheVariants.{Mermaid, Dot}
use Rattle.asl_graph.specs.declared.format.Format.{Format}
use Rattle.asl_graph.specs.declared.edges.Edge.{Edge}
use Rattle.asl_graph.specs.declared.marking.RunEnd.{RunEnd}
use Rattle.asl_graph.specs.declared.marking.RunEnd.TheVariants.{Succeeded, Failed, Open}
use Rattle.asl_graph.specs.Names.{state_id}
use Rattle.asl_graph.specs.Lines.{ending, end_mark}
use Rattle.asl_graph.specs.Formats.{language_of, printed}
use Rattle.asl_graph.specs.Graphs.{outer_key, lines_of}

-- Mermaid names the style of marked states once
unfoldable pub mark_style : Language → List ℕ
mark_style Mermaid = codes "classDef taken stroke-width:4px" ++ 10 ∷ []
mark_style Dot = []

unfoldable pub marked_lead : Language → List ℕ
marked_lead Mermaid = codes "class "
marked_lead Dot = []

unfoldable pub marked_end : Language → List ℕ
marked_end Mermaid = codes " taken" ++ 10 ∷ []
marked_end Dot = codes " [penwidth=4];" ++ 10 ∷ []

-- a thick line around the state of this name
abbrev pub mark_line : Language → List ℕ → List ℕ
mark_line l name = marked_lead l ++ (state_id name ++ marked_end l)

abbrev pub mark_lines : Language → List (List ℕ) → List ℕ
mark_lines l names = mark_style l ++ flat_map (mark_line l) names

unfoldable pub failed_end : Language → List ℕ
failed_end Mermaid = codes " fail" ++ 10 ∷ []
failed_end Dot = codes " [color=red3];" ++ 10 ∷ []

unfoldable pub succeeded_end : Language → List ℕ
succeeded_end Mermaid = codes " succeed" ++ 10 ∷ []
succeeded_end Dot = codes " [color=green4];" ++ 10 ∷ []

-- the state in which the run failed in red; where it succeeded, the mark where the outermost machine ends in
-- green
abbrev pub run_end_line : Language → RunEnd → List ℕ
run_end_line l Succeeded = marked_lead l ++ (end_mark outer_key ++ succeeded_end l)
run_end_line l (Failed name) = marked_lead l ++ (state_id name ++ failed_end l)
run_end_line l Open = []

-- the graph, with these transitions thick, and the states of these names marked behind all others
-- and with how the run ended
abbrev pub marked_in : Language → List (List ℕ) → List Edge → RunEnd → Data → List ℕ
marked_in l names es end d = lines_of l es d ++ (mark_lines l names ++ (run_end_line l end ++ ending l))

abbrev pub marked_text : Format → List (List ℕ) → List Edge → RunEnd → Data → List ℕ
marked_text f names es end d = printed f (marked_in (language_of f) names es end d)
