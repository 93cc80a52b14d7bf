-- Which call a text is, by its pieces. What isn't read so is not told; what is read is the call that
-- the text spells (`AlwaysFails` stands on that).
use Rattle.std.specs.Prelude.{ℕ, zero, suc, ◌==◌, List, [], ◌∷◌, length, Bool, true, false, Option, Some, None, option_map, codes, if◌then◌else◌}
use Rattle.asl_json_data.specs.Data.{Data, null, boolean, number}
use Rattle.asl_json.specs.Same.{bytes_eq}
use Rattle.asl_json_read.specs.Reading.{value_read}
use Rattle.asl_intrinsic_functions.specs.declared.function.Function.{Function}
use Rattle.asl_intrinsic_functions.specs.Names.{name_of, takes}
use Rattle.asl_intrinsic.specs.Tree.{Argument, constant, quoted, path, call, arguments}
use Rattle.asl_intrinsic.specs.Grammar.{is_inside}
use Rattle.asl_intrinsic.specs.private.Steps.{is_path}
use Rattle.asl_lint_calls.specs.Cutting.{given, after_first, before_last, trimmed, head, arguments_in}

abbrev pub first_is : ℕ → List ℕ → Bool
first_is b [] = false
first_is b (c ∷ cs) = c == b

-- ---- arguments that are no calls

abbrev pub if_inside : List ℕ → Option (List ℕ)
if_inside t = if is_inside t then Some t else None

-- the text between the apostrophes, as it is written there
abbrev pub inner_text : List ℕ → Option (List ℕ)
inner_text p = given (given (after_first 39 p) (before_last 39)) if_inside

abbrev pub read_quoted : List ℕ → Option Argument
read_quoted p = option_map quoted (inner_text p)

abbrev pub read_path : List ℕ → Option Argument
read_path p = if is_path p then Some (path p) else None

-- null, a truth value or a number is spelled so
abbrev pub is_spelled : Data → List ℕ → Bool
is_spelled null p = bytes_eq p (codes "null")
is_spelled (boolean true) p = bytes_eq p (codes "true")
is_spelled (boolean false) p = bytes_eq p (codes "false")
is_spelled (number s) p = bytes_eq p s
is_spelled d p = false

abbrev pub if_spelled : List ℕ → Data → Option Data
if_spelled p d = if is_spelled d p then Some d else None

abbrev pub constant_value : List ℕ → Option Data
constant_value p = given (value_read p) (if_spelled p)

abbrev pub read_constant : List ℕ → Option Argument
read_constant p = option_map constant (constant_value p)

-- ---- calls

-- where calls are read so
abbrev pub read_by : (List ℕ → Option Argument) → List ℕ → Option Argument
read_by calls p =
    if first_is 39 p then read_quoted p
    else (if first_is 36 p then read_path p
    else (if first_is 83 p then calls p
    else read_constant p))

abbrev pub added : Argument → List Argument → Option (List Argument)
added a ts = Some (a ∷ ts)

-- each of these pieces, without the spaces round it
abbrev pub read_all : (List ℕ → Option Argument) → List (List ℕ) → Option (List Argument)
read_all calls [] = Some []
read_all calls (p ∷ ps) =
    given (read_by calls (trimmed p)) (λ a. given (read_all calls ps) (added a))

-- a function takes so many arguments
abbrev pub if_taken : Function → List Argument → Option Argument
if_taken f ts = if takes f (length ts) then Some (call (name_of f) (arguments ts)) else None

abbrev pub call_of : (List ℕ → Option Argument) → Function × List ℕ → Option Argument
call_of calls h =
    given (given (arguments_in h.1) (read_all calls)) (if_taken h.0)

-- of so many calls in one another
unfoldable pub read_call : ℕ → List ℕ → Option Argument
read_call zero t = None
read_call (suc n) t = given (head t) (call_of (read_call n))

abbrev pub read_argument : ℕ → List ℕ → Option Argument
read_argument n p = read_by (read_call n) p

abbrev pub read_arguments : ℕ → List (List ℕ) → Option (List Argument)
read_arguments n ps = read_all (read_call n) ps
