-- What a state's template makes of its input (ASL, "Payload Template").
use Rattle.std.specs.Prelude.{ℕ, List, [], ◌++◌, Option, Some, None, Ok, Err, codes}
use Rattle.asl_json_data.specs.Data.{Data}
use Rattle.asl_json.specs.View.{data_of, json_of}
use Rattle.asl_json.specs.declared.value.Json.{Json}
use Rattle.asl_template.specs.Filling.{Outcome, fill}
use Rattle.asl_template.specs.declared.fill.FillFault.TheVariants.{PathFails, IntrinsicFails, OutOfMemory}
use Rattle.asl_template.specs.declared.fill.Word.{Word}
use Rattle.asl_template.specs.declared.fill.Word.TheVariants.{Unfit, Range, Count, Undecoded, Path}
use Rattle.asl_step.specs.declared.record.ErrorOut.{ErrorOut}
use Rattle.asl_step_io.specs.Paths.{Given, failure}

-- why a call has no value
abbrev pub word_text : Word → List ℕ
word_text Unfit = codes "unfit"
word_text Range = codes "range"
word_text Count = codes "count"
word_text Undecoded = codes "undecoded"
word_text Path = codes "path"

-- a path of the member of this key names nothing
abbrev pub no_parameter : List ℕ → ErrorOut
no_parameter key = failure (codes "States.ParameterPathFailure") (key ++ codes ": no value")

-- the call of the member of this key has no value
abbrev pub no_result : List ℕ → Word → ErrorOut
no_result key word =
    failure (codes "States.IntrinsicFailure") (key ++ (codes ": " ++ word_text word))

-- what a filled template gives (want of memory is no error of a state)
abbrev pub given_by : Outcome Data → Given
given_by (Ok d) = Ok (json_of d)
given_by (Err (PathFails key)) = Err (no_parameter key)
given_by (Err (IntrinsicFails key word)) = Err (no_result key word)
given_by (Err OutOfMemory) = Err (failure [] [])

-- what a template makes of a value, with this Context Object: the value itself where there is none
abbrev pub filled : Option Data → Json → Data → Given
filled None x c = Ok x
filled (Some t) x c = given_by (fill t (data_of x) c)
