-- Which rule of a Choice state says what comes next. (Amazon States Language, "Choice State".)
use Rattle.std.specs.Prelude.{List, [], ◌∷◌, Option, None, codes, if◌then◌else◌, Result, Ok}
use Rattle.asl_json_data.specs.Results.{◌>>=◌}
use Rattle.asl_json_data.specs.Data.{Data}
use Rattle.asl_json.specs.Meaning.{value_in}
use Rattle.asl_choice.specs.Truth.{Fault, holds}

-- `Next` of the first rule that holds on an input x and a Context Object c; none where no rule
-- holds; or the fault of the rule that
-- keeps it from being known
abbrev pub chosen_next : List Data → Data → Data → Result (Option Data) Fault
chosen_next [] x c = Ok None
chosen_next (r ∷ rs) x c = do
  b ← holds r x c
  if b then Ok (value_in (codes "Next") r) else chosen_next rs x c
