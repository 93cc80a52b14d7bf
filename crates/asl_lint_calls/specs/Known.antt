-- What is known of an argument whatever the input and the Context Object are: its value, or that it
-- has none.
use Rattle.std.specs.Prelude.{ℕ, suc, ◌+◌, ◌==◌, List, [], ◌∷◌, length, map, Bool, true, false, ◌&&◌, not, Option, Some, None, Ok, Err, if◌then◌else◌}
use Rattle.std.specs.Str.{chars}
use Rattle.asl_json_data.specs.Data.{Data, null, text}
use Rattle.asl_intrinsic_functions.specs.declared.fault.EvalFault.TheVariants.{Fails}
use Rattle.asl_intrinsic_functions.specs.declared.function.Function.{Function}
use Rattle.asl_intrinsic_functions.specs.declared.function.Function.TheVariants.{Format}
use Rattle.asl_intrinsic_functions.specs.Names.{function_named}
use Rattle.asl_intrinsic_functions.specs.Outcome.{Outcome}
use Rattle.asl_intrinsic_functions.specs.Letters.{letters, meant}
use Rattle.asl_intrinsic_functions.specs.Format.{Token, letter, hole, tokens}
use Rattle.asl_intrinsic_functions.specs.Apply.{apply}
use Rattle.asl_intrinsic.specs.Tree.{Argument, constant, quoted, path, call, Arguments, none, argument}
use Rattle.asl_lint_calls.specs.declared.failure.Cause.{Cause}
use Rattle.asl_lint_calls.specs.declared.failure.Cause.TheVariants.{Unfit, Holes, Together}
use Rattle.asl_lint_calls.specs.declared.failure.Failure.{Failure}
use Rattle.asl_lint_calls.specs.Wants.{wanted, fits}

pub data Known : Type 0 where
  -- the input or the Context Object decides
  any : Known
  -- the value, and how it is written where it is a text between apostrophes
  value : Option (List ℕ) → Data → Known
  -- it has no value
  never : Failure → Known

abbrev pub failure : Function → Cause → Failure
failure f c = record { function = f; cause = c }

abbrev pub first_never : List Known → Option Failure
first_never [] = None
first_never (never w ∷ ks) = Some w
first_never (k ∷ ks) = first_never ks

abbrev pub is_unfit : Function → ℕ → Known → Bool
is_unfit f i (value w d) = not (fits (wanted f i) d)
is_unfit f i k = false

-- of arguments from this number on
abbrev pub first_unfit : Function → ℕ → List Known → Option Failure
first_unfit f i [] = None
first_unfit f i (k ∷ ks) =
    if is_unfit f i k then Some (failure f (Unfit i (wanted f i))) else first_unfit f (i + 1) ks

abbrev pub count_holes : List Token → ℕ
count_holes [] = 0
count_holes (letter l ∷ ts) = count_holes ts
count_holes (hole ∷ ts) = suc (count_holes ts)

-- how many places a template has that is written so between apostrophes
unfoldable pub holes : List ℕ → ℕ
holes t = count_holes (tokens (letters true (chars t)))

-- how an argument is written, where it is a text between apostrophes
abbrev pub written_in : Known → Option (List ℕ)
written_in (value w d) = w
written_in k = None

abbrev pub unfilled_by : Option (List ℕ) → ℕ → Option Failure
unfilled_by (Some t) n =
    if holes t == n then None else Some (failure Format (Holes (holes t) n))
unfilled_by None n = None

-- a template with so many places has another number of arguments behind it
abbrev pub unfilled : List Known → Option Failure
unfilled [] = None
unfilled (k ∷ ks) = unfilled_by (written_in k) (length ks)

abbrev pub misfilled : Function → List Known → Option Failure
misfilled Format ks = unfilled ks
misfilled f ks = None

abbrev pub or_else : Option Failure → Option Failure → Option Failure
or_else (Some w) o = Some w
or_else None o = o

abbrev pub own_failure : Function → List Known → Option Failure
own_failure f ks = or_else (first_never ks) (or_else (first_unfit f 0 ks) (misfilled f ks))

abbrev pub is_value : Known → Bool
is_value (value w d) = true
is_value k = false

abbrev pub are_values : List Known → Bool
are_values [] = true
are_values (k ∷ ks) = is_value k && are_values ks

abbrev pub data_in : Known → Data
data_in (value w d) = d
data_in k = null

abbrev pub first_written : List Known → Option (List ℕ)
first_written [] = None
first_written (k ∷ ks) = written_in k

abbrev pub outcome : Function → Outcome Data → Known
outcome f (Ok d) = value None d
outcome f (Err (Fails r)) = never (failure f (Together r))
outcome f (Err e) = any

-- of arguments with known values
abbrev pub computed : Function → List Known → Known
computed f ks = outcome f (apply f (first_written ks) (map data_in ks))

abbrev pub known_by : Option Failure → Function → List Known → Known
known_by (Some w) f ks = never w
known_by None f ks = if are_values ks then computed f ks else any

abbrev pub known_call : Function → List Known → Known
known_call f ks = known_by (own_failure f ks) f ks

abbrev pub known_named : Option Function → List Known → Known
known_named (Some f) ks = known_call f ks
known_named None ks = any

abbrev mutual
  pub known : Argument → Known
  known (constant d) = value None d
  known (quoted t) = value (Some t) (text (meant t))
  known (path p) = any
  known (call n ts) = known_named (function_named n) (all_known ts)

  pub all_known : Arguments → List Known
  all_known none = []
  all_known (argument a ts) = known a ∷ all_known ts
