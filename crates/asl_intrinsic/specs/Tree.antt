-- A call as a tree, and how deep its calls nest.
use Rattle.std.specs.Prelude.{ℕ, suc, max, List, [], ◌∷◌}
use Rattle.asl_json_data.specs.Data.{Data}

mutual
  pub data Argument : Type 0 where
    -- a number with its spelling, null, true or false
    constant : Data → Argument
    -- what stands between the apostrophes, as it is written there
    quoted : List ℕ → Argument
    -- the text of a path; `$$` begins at the context, `$` at the input
    path : List ℕ → Argument
    -- the name after `States.`, and the arguments
    call : List ℕ → Arguments → Argument

  pub data Arguments : Type 0 where
    none : Arguments
    argument : Argument → Arguments → Arguments

-- an open call: its name, and its arguments so far
abbrev pub Frame : Type 0
Frame = List ℕ × List Argument

abbrev pub arguments : List Argument → Arguments
arguments [] = none
arguments (a ∷ ts) = argument a (arguments ts)

-- how deep calls nest; one call alone is of depth 1
abbrev mutual
  pub depth : Argument → ℕ
  depth (constant d) = 0
  depth (quoted t) = 0
  depth (path t) = 0
  depth (call n ts) = suc (arguments_depth ts)

  pub arguments_depth : Arguments → ℕ
  arguments_depth none = 0
  arguments_depth (argument a ts) = max (depth a) (arguments_depth ts)

abbrev pub list_size : List Argument → ℕ
list_size ts = arguments_depth (arguments ts)
