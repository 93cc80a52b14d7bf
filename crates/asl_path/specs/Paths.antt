-- What a path text says of a value. (Which part that is, by the grammar and the steps: the law of
-- one meaning.)
use Rattle.std.specs.Prelude.{ℕ, List, Option, None, Result, Ok, Err}
use Rattle.asl_json_data.specs.Data.{Data}
use Rattle.asl_path.specs.declared.step.Root.{Root}
use Rattle.asl_path.specs.declared.step.Step.{Step}
use Rattle.asl_path.specs.private.Steps.{steps}
use Rattle.asl_path.specs.Walk.{at, put}

abbrev pub at_by : Data → Result (Root × List Step) ℕ → Option Data
at_by v (Ok x) = at v x.1
at_by v (Err left) = None

abbrev pub put_by : Data → Data → Result (Root × List Step) ℕ → Option Data
put_by v r (Ok x) = put v x.1 r
put_by v r (Err left) = None

-- the part of a value that a path text names
abbrev pub part_at : List ℕ → Data → Option Data
part_at t v = at_by v (steps t)

-- the value with r at the place that a path text names
abbrev pub with_part : List ℕ → Data → Data → Option Data
with_part t v r = put_by v r (steps t)
