-- The texts of an error that a path or a call names (ASL, "Fail State").
use Rattle.std.specs.Prelude.{ℕ, List, Option, Result, if◌then◌else◌, ok_or}
use Rattle.std.specs.Result.{result_ok}
use Rattle.asl_json_data.specs.Data.{Data}
use Rattle.asl_intrinsic.specs.Values.{ev}
use Rattle.asl_template.specs.Filling.{is_path}
use Rattle.asl_def_shared.specs.Texts.{text_in}
use Rattle.asl_step.specs.declared.record.ErrorOut.{ErrorOut}
use Rattle.asl_step_io.specs.Paths.{part_of, no_value}

-- a text, or the error that is raised
abbrev pub GivenText : Type 0
GivenText = Result (List ℕ) ErrorOut

-- the value of a path or of a call, with this Context Object
abbrev pub value_at : List ℕ → Data → Data → Option Data
value_at t x c = if is_path t then part_of t x c else result_ok (ev t x c)

-- the text that a field's path or call gives
abbrev pub text_at : List ℕ → List ℕ → Data → Data → GivenText
text_at field t x c = ok_or (text_in (value_at t x c)) (no_value field)
