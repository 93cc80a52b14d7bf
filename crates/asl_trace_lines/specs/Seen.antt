-- What a clause sees of a step that is told.
use Rattle.std.specs.Prelude.{ℕ, List, Option, Some, None}
use Rattle.asl_json_data.specs.Data.{Data}
use Rattle.asl_json.specs.declared.value.Json.{Json}
use Rattle.asl_step.specs.declared.record.Record.{Record}
use Rattle.asl_step.specs.declared.record.Record.TheVariants.{New, Ready, Pausing, Again, Forked, Done, Failed}
use Rattle.asl_step.specs.declared.record.ErrorOut.{ErrorOut}

-- when the execution started, and when the step was taken; the place of the branch; the type, the Retry
-- and the Catch of its state, and how often that was invoked before; what the branch was doing, and is
-- doing then; how many branches are right under it then; the error that the state raised and that was
-- handled; the number of the rule by which a Choice went on
pub record Seen : Type 0 where
  pub start : ℕ
  pub now : ℕ
  pub place : List ℕ
  pub kind : List ℕ
  pub retry : Option Data
  pub catch : Option Data
  pub count : ℕ
  pub before : Record
  pub after : Record
  pub branches : ℕ
  pub raised : Option ErrorOut
  pub rule : Option ℕ

-- the raw input of the state
abbrev pub input_in : Record → Option Json
input_in (New n x) = Some x
input_in (Ready n x) = Some x
input_in (Pausing n x since until) = Some x
input_in (Again n x since uses until) = Some x
input_in (Forked n x since uses items) = Some x
input_in (Done x) = None
input_in (Failed e) = None

-- what a branch goes on with, or ends with, that has left its state
abbrev pub output_in : Record → Option Json
output_in (New n x) = Some x
output_in (Ready n x) = Some x
output_in (Done x) = Some x
output_in _ = None

-- the error that the state raised: that with which the branch failed, or the one that was handled
abbrev pub error_in : Option ErrorOut → Record → Option ErrorOut
error_in raised (Failed e) = Some e
error_in raised _ = raised
