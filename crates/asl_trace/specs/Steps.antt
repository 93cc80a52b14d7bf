-- The lines of an execution's steps, by the facts f of the execution.
use Rattle.std.specs.Prelude.{ℕ, List, [], ◌∷◌, ◌++◌, length, max, Option, Some, None, codes, if◌then◌else◌}
use Rattle.asl_json_data.specs.Data.{Data}
use Rattle.asl_json.specs.View.{data_of}
use Rattle.asl_json.specs.Meaning.{value_in}
use Rattle.asl_json.specs.declared.value.Json.{Json}
use Rattle.asl_json_diff.specs.Shown.{short}
use Rattle.asl_step.specs.declared.facts.Facts.{Facts}
use Rattle.asl_step.specs.declared.record.Record.{Record}
use Rattle.asl_step.specs.Seen.{Seen}
use Rattle.asl_run_branches.specs.Branches.{record_at, children_at}
use Rattle.asl_run_input.specs.declared.setup.Setup.{Setup}
use Rattle.asl_run_input.specs.declared.step_at.StepAt.{StepAt}
use Rattle.asl_run_state.specs.declared.refusal.Refusal.{Refusal}
use Rattle.asl_run_state.specs.World.{World, is_late}
use Rattle.asl_run_state.specs.Lines.{step_line}
use Rattle.asl_exec.specs.Steps.{facts_of, object_in, seen_at, refusal_in, step}
use Rattle.asl_trace_lines.specs.Seen.{Seen as Told}
use Rattle.asl_trace_lines.specs.Columns.{under}
use Rattle.asl_trace_lines.specs.Lines.{row, happening_text, timed_out_line}
use Rattle.asl_trace_data.specs.declared.stage.Stage.{Stage}
use Rattle.asl_trace_data.specs.Kinds.{stages_of}
use Rattle.asl_trace_data.specs.Lines.{whole, stages_text}
use Rattle.asl_trace.specs.declared.deciding.Deciding.{Deciding}
use Rattle.asl_trace.specs.declared.deciding.Deciding.TheVariants.{Rule}
use Rattle.asl_trace.specs.declared.tree.Shows.{Shows}
use Rattle.asl_trace.specs.declared.tree.Shows.TheVariants.{Changes, Stages}
use Rattle.asl_trace.specs.Deciding.{kind_of, raised_at, deciding_of}
use Rattle.asl_trace.specs.Stopped.{stopped_lines}

-- ---- the input of an execution

-- the whole of it where stages are shown
abbrev pub input_text : Shows → Json → List ℕ
input_text Changes x = short (data_of x)
input_text Stages x = whole x

abbrev pub input_line : Shows → Json → List ℕ
input_line sh x = codes "input " ++ (input_text sh x ++ 10 ∷ [])

-- ---- what happened in a step

-- the number of the rule that decides, where one does
abbrev pub rule_in : Deciding → Option ℕ
rule_in (Rule i) = Some i
rule_in _ = None

-- to the branch that might read v before the step, in the state of the object d, and that is doing r
-- in the world u behind it
abbrev pub happened : Facts → Setup → World → Seen → Data → Record → Told
happened f s u v d r = record {
  start = s.start;
  now = v.moment;
  place = v.place;
  kind = kind_of d;
  retry = value_in (codes "Retry") d;
  catch = value_in (codes "Catch") d;
  count = v.count;
  before = v.current;
  after = r;
  branches = length (children_at v.place u.branches);
  raised = raised_at d f v;
  rule = rule_in (deciding_of d f v);
}

-- the lines of what happened, in a state with these stages
abbrev pub lines_of : Shows → Told → List Stage → List ℕ
lines_of Changes h ss = happening_text h
lines_of Stages h ss = row h ++ stages_text (under h.place) None ss

-- the lines of a branch that is doing this behind the step, in the state of this object
abbrev pub happening_lines : Shows → Facts → Setup → World → Seen → Option Record → Option Data
    → List ℕ
happening_lines sh f s u v None o = []
happening_lines sh f s u v (Some r) None = []
happening_lines sh f s u v (Some r) (Some d) =
    lines_of sh (happened f s u v d r) (stages_of d f v)

-- ---- a step

-- of the branch that steps, which was doing this
abbrev pub branch_lines : Shows → Facts → Setup → World → World → List ℕ → ℕ → Option Record
    → List ℕ
branch_lines sh f s w u p now None = []
branch_lines sh f s w u p now (Some q) =
    happening_lines sh f s u (seen_at s.machine s.case w p now q) (record_at p u.branches)
    (object_in s.machine q)

-- of a step from the world w to the world u that isn't refused: the branches that it stops, then the
-- one that steps
abbrev pub accepted_lines : Shows → Facts → Setup → World → World → List ℕ → ℕ → List ℕ
accepted_lines sh f s w u p now =
    if is_late now w.deadline then timed_out_line s.start now
    else stopped_lines s.start now p w.branches
    ++ branch_lines sh f s w u p now (record_at p w.branches)

-- of one that is refused that with the reply
abbrev pub replied_lines : Shows → Facts → Setup → World → World → List ℕ → ℕ → Option Refusal
    → List ℕ
replied_lines sh f s w u p now None = accepted_lines sh f s w u p now
replied_lines sh f s w u p now (Some e) = step_line p (Some e)

-- the lines of a step at a place, handed this moment
abbrev pub lines_of_step : Shows → Facts → Setup → World → List ℕ → ℕ → List ℕ
lines_of_step sh f s w p t =
    replied_lines sh f s w (step s w p t) p (max w.last t) (refusal_in s w p t)

-- ---- steps

-- the lines of these steps, from this world on
abbrev pub lines_of_steps : Shows → Facts → Setup → World → List StepAt → List ℕ
lines_of_steps sh f s w [] = []
lines_of_steps sh f s w (a ∷ left) =
    lines_of_step sh f s w a.place a.moment
    ++ lines_of_steps sh f s (step s w a.place a.moment) left

-- the same, by the facts of an execution that began with this
abbrev pub tree_lines : Shows → Setup → World → List StepAt → List ℕ
tree_lines sh s w ss = lines_of_steps sh (facts_of s) s w ss
