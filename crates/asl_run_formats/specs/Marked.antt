-- The graph of a definition in which the states are marked that a run entered, the transitions that it
-- took, and how it ended.
use Rattle.std.specs.Prelude.{◌≡◌, List, [], ℕ, Option}
use Rattle.asl_graph.specs.declared.format.Format.{Format}
use Rattle.asl_graph.specs.Marks.{marked_text}
use Rattle.asl_run_input.specs.declared.setup.Setup.{Setup}
use Rattle.asl_run_input.specs.declared.step_at.StepAt.{StepAt}
use Rattle.asl_run_input.specs.Emulations.{Texts, Accepts}
use Rattle.asl_exec.specs.RunText.{world_by}
use Rattle.asl_exec.specs.Steps.{opening, facts_of}
use Rattle.asl_run_formats.specs.Taken.{taken_by}
use Rattle.asl_run_formats.specs.Edges.{with_steps}
use Rattle.asl_run_formats.specs.Entered.{entered_in}
use Rattle.asl_run_formats.specs.Ended.{end_of}

-- the graph of this run
abbrev pub run_graph : Format → ℕ → Setup → Option (List StepAt) → List ℕ
run_graph format limit setup steps =
    marked_text format (entered_in (world_by limit setup (opening setup) steps).events)
    (with_steps [] (facts_of setup) setup (opening setup)
    (taken_by limit setup (opening setup) steps))
    (end_of (world_by limit setup (opening setup) steps).outcome
    (world_by limit setup (opening setup) steps).events)
    setup.machine

-- the graph is that of the run that the texts spell; where no file names steps, those that come next are
-- taken, at most so many
pub record IsMarkedRunOf (format : Format) (t : Texts) (limit : ℕ) (graph : List ℕ) : Type 0
  where
    pub setup : Setup
    pub steps : Option (List StepAt)
    pub accepted : Accepts t setup steps
    pub graph_is : graph ≡ run_graph format limit setup steps
