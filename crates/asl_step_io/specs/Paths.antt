-- Data by a state's paths: what is taken of the input, and where a result goes (ASL, "Input and
-- Output Processing").
use Rattle.std.specs.Prelude.{ℕ, List, ◌++◌, Option, Some, None, Result, Ok, Err, if◌then◌else◌, codes}
use Rattle.asl_json_data.specs.Data.{Data, null, text}
use Rattle.asl_json.specs.View.{data_of, json_of}
use Rattle.asl_json.specs.declared.value.Json.{Json}
use Rattle.asl_json.specs.declared.value.Json.TheVariants.{Dict}
use Rattle.std.specs.Prelude.{[]}
use Rattle.asl_path.specs.Paths.{part_at, with_part}
use Rattle.asl_intrinsic.specs.Calls.{is_context}
use Rattle.asl_step.specs.declared.record.ErrorOut.{ErrorOut}

-- a value, or the error that is raised
abbrev pub Given : Type 0
Given = Result Json ErrorOut

abbrev pub failure : List ℕ → List ℕ → ErrorOut
failure error cause = record { error = Some error; cause = Some cause }

abbrev pub no_value : List ℕ → ErrorOut
no_value field = failure (codes "States.Runtime") (field ++ codes ": no value")

abbrev pub no_place : ErrorOut
no_place = failure (codes "States.ResultPathMatchFailure") (codes "ResultPath: no place")

abbrev pub given_or : ErrorOut → Option Data → Given
given_or e None = Err e
given_or e (Some d) = Ok (json_of d)

-- the part that a path names: of the Context Object c, where it begins `$$`, and else of the value
-- x
abbrev pub part_of : List ℕ → Data → Data → Option Data
part_of t x c = part_at t (if is_context t then c else x)

-- what a path takes of a value: all of it where there is none, `{}` where it is null
abbrev pub taken : List ℕ → Option Data → Json → Data → Given
taken field (Some null) x c = Ok (Dict [])
taken field (Some (text t)) x c = given_or (no_value field) (part_of t (data_of x) c)
taken field _ x c = Ok x

-- a result put into the raw input: it alone where there is no path, lost where it is null
abbrev pub put_into : Option Data → Json → Json → Given
put_into (Some null) x r = Ok x
put_into (Some (text t)) x r = given_or no_place (with_part t (data_of x) (data_of r))
put_into _ x r = Ok r
