-- What decides in a step what becomes of its branch, by the object d of the state, the facts f of the
-- execution, and what the step may read, v.
use Rattle.std.specs.Prelude.{ℕ, suc, Bool, true, false, List, [], ◌∷◌, Option, Some, None, Ok, Err, codes, max, if◌then◌else◌, unwrap_or}
use Rattle.std.specs.Str.{bytes_eq}
use Rattle.asl_json_data.specs.Data.{Data}
use Rattle.asl_json.specs.View.{data_of}
use Rattle.asl_json.specs.Meaning.{value_in}
use Rattle.asl_json.specs.declared.value.Json.{Json}
use Rattle.asl_choice.specs.Truth.{Verdict, holds}
use Rattle.asl_def_shared.specs.Texts.{text_in}
use Rattle.asl_handle.specs.Decisions.{Handling, again, caught, unhandled, decision, handlers_in}
use Rattle.asl_step.specs.declared.facts.Facts.{Facts}
use Rattle.asl_step.specs.declared.record.Record.{Record}
use Rattle.asl_step.specs.declared.record.ErrorOut.{ErrorOut}
use Rattle.asl_step.specs.Context.{context_of}
use Rattle.asl_step.specs.Records.{entering_with, uses_in, error_name}
use Rattle.asl_step.specs.Seen.{Seen}
use Rattle.asl_step_io.specs.Paths.{Given, taken}
use Rattle.asl_kinds.specs.Members.{values_in}
use Rattle.asl_trace_lines.specs.Handling.{handles, number_of}
use Rattle.asl_trace_data.specs.declared.stage.Stage.{Stage}
use Rattle.asl_trace_data.specs.Stages.{raised_in}
use Rattle.asl_trace_data.specs.Kinds.{stages_of}
use Rattle.asl_run_branches.specs.Branches.{record_at}
use Rattle.asl_run_input.specs.declared.setup.Setup.{Setup}
use Rattle.asl_run_state.specs.World.{World, is_late}
use Rattle.asl_exec.specs.Steps.{object_in, seen_at}
use Rattle.asl_trace.specs.declared.deciding.Deciding.{Deciding}
use Rattle.asl_trace.specs.declared.deciding.Deciding.TheVariants.{Nothing, Next, Rule, Default, Retrier, Catcher}
use Rattle.asl_trace.specs.declared.deciding.Staged.{Staged}
use Rattle.asl_trace.specs.declared.deciding.Staged.TheVariants as staged

-- the type of a state, as `Task`
abbrev pub kind_of : Data → List ℕ
kind_of d = unwrap_or (text_in (value_in (codes "Type") d)) []

-- ---- Choice (ASL, "Choice State")

abbrev pub rule_by : Verdict → ℕ → Deciding → Deciding
rule_by (Ok true) i later = Rule i
rule_by (Ok false) i later = later
rule_by (Err e) i later = Nothing

-- the number of the first of these rules that holds, counted from i, on a value y and a Context
-- Object c; `Default` where none holds; nothing where it can't be said
abbrev pub first_rule : ℕ → List Data → Data → Data → Deciding
first_rule i [] y c = Default
first_rule i (r ∷ rs) y c = rule_by (holds r y c) i (first_rule (suc i) rs y c)

abbrev pub rule_on : Data → Data → Given → Deciding
rule_on d c (Ok y) = first_rule 0 (values_in (value_in (codes "Choices") d)) (data_of y) c
rule_on d c (Err e) = Nothing

-- of a Choice that is entered with this raw input, by what InputPath takes of it
abbrev pub rule_with : Data → Data → Option Json → Deciding
rule_with d c None = Nothing
rule_with d c (Some x) = rule_on d c (taken (codes "InputPath") (value_in (codes "InputPath") d) x c)

-- ---- other states

-- the error that one of these stages raises, of a state that may have Retry and Catch
abbrev pub raised_by : Data → List Stage → Option ErrorOut
raised_by d ss = if handles (kind_of d) then raised_in ss else None

-- the same of the stages of the step
abbrev pub raised_at : Data → Facts → Seen → Option ErrorOut
raised_at d f v = raised_by d (stages_of d f v)

-- the retrier, or the first catcher that is equal to the one that catches
abbrev pub handler_by : Option Data → Handling → Deciding
handler_by catch (again i until) = Retrier i
handler_by catch (caught c) = Catcher (number_of c (handlers_in catch))
handler_by catch unhandled = Nothing

abbrev pub handler_of : Option Data → Option Data → Seen → ErrorOut → Deciding
handler_of retry catch v e =
    handler_by catch (decision retry catch (error_name e) (uses_in v.current) v.moment)

-- what handles the error that is raised; where none is, `Next`
abbrev pub by_error : Data → Seen → Option ErrorOut → Deciding
by_error d v None = Next
by_error d v (Some e) =
    handler_of (value_in (codes "Retry") d) (value_in (codes "Catch") d) v e

-- ---- a step

-- in a state with these stages
abbrev pub deciding_with : Data → Facts → Seen → List Stage → Deciding
deciding_with d f v ss =
    if bytes_eq (kind_of d) (codes "Choice")
    then rule_with d (context_of f v) (entering_with v.current)
    else by_error d v (raised_by d ss)

abbrev pub deciding_of : Data → Facts → Seen → Deciding
deciding_of d f v = deciding_with d f v (stages_of d f v)

-- nothing, where the branch is in no state
abbrev pub deciding_in : Option Data → Facts → Seen → Deciding
deciding_in None f v = Nothing
deciding_in (Some d) f v = deciding_of d f v

abbrev pub deciding_by : Facts → Setup → World → List ℕ → ℕ → Option Record → Deciding
deciding_by f s w p now None = Nothing
deciding_by f s w p now (Some r) =
    deciding_in (object_in s.machine r) f (seen_at s.machine s.case w p now r)

-- what decides in a step at a place, handed this moment; nothing where the execution's time is over
abbrev pub deciding_at : Facts → Setup → World → List ℕ → ℕ → Deciding
deciding_at f s w p t =
    if is_late (max w.last t) w.deadline then Nothing
    else deciding_by f s w p (max w.last t) (record_at p w.branches)

-- ---- the stages of the state's data, where they are wanted

abbrev pub is_wanted : Staged → Data → Bool
is_wanted staged.Handling d = handles (kind_of d)
is_wanted staged.All d = true

abbrev pub wanted_of : Staged → Data → Facts → Seen → List Stage
wanted_of sort d f v = if is_wanted sort d then stages_of d f v else []

abbrev pub wanted_in : Staged → Option Data → Facts → Seen → List Stage
wanted_in sort None f v = []
wanted_in sort (Some d) f v = wanted_of sort d f v

abbrev pub wanted_by : Staged → Facts → Setup → World → List ℕ → ℕ → Option Record → List Stage
wanted_by sort f s w p now None = []
wanted_by sort f s w p now (Some r) =
    wanted_in sort (object_in s.machine r) f (seen_at s.machine s.case w p now r)

abbrev pub wanted_at : Staged → Facts → Setup → World → List ℕ → ℕ → List Stage
wanted_at sort f s w p t =
    if is_late (max w.last t) w.deadline then []
    else wanted_by sort f s w p (max w.last t) (record_at p w.branches)
