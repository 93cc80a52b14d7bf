-- The graph of a definition that a file holds, or of a run of it.
use Rattle.std.specs.Prelude.{ℕ, Bool, List, ◌≡◌, Option, Some, None}
use Rattle.asl_json_data.specs.Data.{Data}
use Rattle.asl_graph.specs.declared.format.Format.{Format}
use Rattle.asl_graph.specs.declared.format.Format.TheVariants.{Mermaid, Markdown, Dot}
use Rattle.asl_graph.specs.Graphs.{graph_text}
use Rattle.asl_run_input.specs.Emulations.{Texts}
use Rattle.asl_exec.specs.Driving.{most_steps}
use Rattle.asl_run_formats.specs.Marked.{IsMarkedRunOf}
use Rattle.asl_host.specs.Reading.{Lacks}
use Rattle.asl_words.specs.declared.words.Begin.TheVariants.{Files}
use Rattle.asl_words.specs.declared.words.SetupWords.{SetupWords}
use Rattle.asl_words.specs.declared.words.GraphFormat.{GraphFormat}
use Rattle.asl_words.specs.declared.words.GraphFormat.TheVariants as format
use Rattle.asl_words.specs.declared.words.GraphWords.{GraphWords}
use Rattle.asl_cli.specs.declared.fault.CommandFault.{CommandFault}
use Rattle.asl_cli.specs.Faults.{AreGiven, IsAccepted, IsDefinitionReason}
use Rattle.asl_cli.specs.Beginnings.{IsRunReason}
use Rattle.asl_cli.specs.Streams.{FileSystem, Io}
use Rattle.asl_cli.specs.Answers.{IsDone}

abbrev pub format_of : GraphFormat → Format
format_of format.Mermaid = Mermaid
format_of format.Markdown = Markdown
format_of format.Dot = Dot

-- the file that the words name may give a definition of a machine with this graph
pub record IsDefinitionGraph (gives : List ℕ → List ℕ → Type 0) (w : GraphWords) (graph : List ℕ) : Type 0
  where
    pub machine : Data
    pub accepted : IsAccepted gives w.definition machine
    pub drawn : graph ≡ graph_text (format_of w.format) machine

-- the files that the words name may give the texts of a run with this graph, in which the states are
-- marked that it enters
pub record IsRunGraph (gives : List ℕ → List ℕ → Type 0) (w : SetupWords) (drawn_as : Format)
    (graph : List ℕ) : Type 0 where
  pub texts : Texts
  pub given : AreGiven gives w texts
  pub is_run : IsMarkedRunOf drawn_as texts most_steps graph

-- the graph of the definition, or that of a run
abbrev pub IsGraphBy : (List ℕ → List ℕ → Type 0) → GraphWords → Option SetupWords → List ℕ → Type 0
IsGraphBy gives w None graph = IsDefinitionGraph gives w graph
IsGraphBy gives w (Some r) graph = IsRunGraph gives r (format_of w.format) graph

abbrev pub IsGraph : (List ℕ → List ℕ → Type 0) → GraphWords → List ℕ → Type 0
IsGraph gives w graph = IsGraphBy gives w w.run graph

-- why there is none: that of a definition, or that of a run
abbrev pub IsGraphReasonBy : (List ℕ → List ℕ → Type 0) → Lacks → GraphWords → Option SetupWords
    → CommandFault → Type 0
IsGraphReasonBy gives lacks w None r = IsDefinitionReason gives lacks w.definition r
IsGraphReasonBy gives lacks w (Some s) r = IsRunReason gives lacks (Files s) None r

abbrev pub IsGraphReason : (List ℕ → List ℕ → Type 0) → Lacks → GraphWords → CommandFault → Type 0
IsGraphReason gives lacks w r = IsGraphReasonBy gives lacks w w.run r

-- the graph of these words: it was printed
abbrev pub IsDrawn : {O E : Type 0} → FileSystem → Io O E → Bool → GraphWords → Type 0
IsDrawn files io quiet w =
    IsDone io quiet
    (λ text status. IsGraph files.gives w text × (status ≡ 0))
    (IsGraphReason files.gives files.lacks w)
