-- The value of a call: its arguments from the left, then its function.
use Rattle.std.specs.Prelude.{ℕ, ◌==◌, ◌&&◌, Bool, false, List, [], ◌∷◌, Option, Some, None, Ok, Err, if◌then◌else◌}
use Rattle.asl_json_data.specs.Results.{◌>>=◌}
use Rattle.asl_json_data.specs.Data.{Data, text}
use Rattle.asl_path.specs.Paths.{part_at}
use Rattle.asl_intrinsic_functions.specs.declared.fault.EvalFault.TheVariants.{PathMissing}
use Rattle.asl_intrinsic_functions.specs.declared.fault.Reason.TheVariants as reason
use Rattle.asl_intrinsic_functions.specs.declared.function.Function.{Function}
use Rattle.asl_intrinsic_functions.specs.Names.{function_named}
use Rattle.asl_intrinsic_functions.specs.Outcome.{Outcome, fails}
use Rattle.asl_intrinsic_functions.specs.Letters.{meant}
use Rattle.asl_intrinsic_functions.specs.Apply.{apply}
use Rattle.asl_intrinsic.specs.Tree.{Argument, constant, quoted, path, call, Arguments, none, argument}

-- the first argument as it is written between its apostrophes, where it is such a text
abbrev pub first_written : Arguments → Option (List ℕ)
first_written (argument (quoted t) ts) = Some t
first_written _ = None

abbrev pub apply_named : Option Function → Option (List ℕ) → List Data → Outcome Data
apply_named (Some f) w ds = apply f w ds
apply_named None w ds = fails reason.Count

-- a path that begins with two dollars
abbrev pub is_context : List ℕ → Bool
is_context [] = false
is_context (c ∷ []) = false
is_context (c ∷ d ∷ cs) = (c == 36) && (d == 36)

abbrev pub found : Option Data → Outcome Data
found (Some d) = Ok d
found None = Err PathMissing

-- on an input x and a context c
abbrev mutual
  pub value_of : Argument → Data → Data → Outcome Data
  value_of (constant d) x c = Ok d
  value_of (quoted t) x c = Ok (text (meant t))
  value_of (path t) x c = found (part_at t (if is_context t then c else x))
  value_of (call n ts) x c =
      values_of ts x c >>= apply_named (function_named n) (first_written ts)

  -- from the left, as far as the first fault
  pub values_of : Arguments → Data → Data → Outcome (List Data)
  values_of none x c = Ok []
  values_of (argument t ts) x c = do
    d ← value_of t x c
    ds ← values_of ts x c
    Ok (d ∷ ds)
