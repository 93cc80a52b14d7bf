-- Reading a call from left to right, byte by byte: its tree, or how many bytes are left from the
-- first place that is wrong.
-- (What it answers is what the grammar says: the law of one tree, and what `Expr::read` promises.)
-- Numbers go on as far as asl_json's do, and paths as far as asl_path's.
use Rattle.std.specs.Prelude.{ℕ, suc, ◌+◌, ◌==◌, ◌&&◌, Bool, true, false, List, [], ◌∷◌, ◌++◌, length, if◌then◌else◌, Result, Ok, Err}
use Rattle.asl_json_data.specs.Data.{Data, null, boolean, number}
use Rattle.asl_json_data.specs.Number.{is_over}
use Rattle.asl_json_data.specs.Grammar.{null_word, true_word, false_word}
use Rattle.asl_json_data.specs.private.NumberParts.{is_number_front, is_number}
use Rattle.asl_path.specs.declared.step.Root.{Root}
use Rattle.asl_path.specs.declared.step.Step.{Step}
use Rattle.asl_path.specs.private.Steps.{steps}
use Rattle.asl_intrinsic.specs.Tree.{Argument, Frame, constant, quoted, path, call, arguments}
use Rattle.asl_intrinsic.specs.Grammar.{is_name_byte, is_escaped, states_word}

-- ---- paths

abbrev pub is_read : Result (Root × List Step) ℕ → Bool
is_read (Ok x) = true
is_read (Err left) = false

-- read, or broken off by the end of the text alone
abbrev pub is_begun : Result (Root × List Step) ℕ → Bool
is_begun (Ok x) = true
is_begun (Err left) = left == 0

-- a path may begin with these bytes
unfoldable pub is_path_front : List ℕ → Bool
is_path_front s = is_begun (steps s)

-- these bytes are a path
unfoldable pub is_path : List ℕ → Bool
is_path s = is_read (steps s)

-- ---- the machine

-- where a reader stands
pub data Mode : Type 0 where
  -- before these bytes of `States.`
  prefix : List ℕ → Mode
  -- within a name
  naming : List ℕ → Mode
  -- behind a name and spaces
  named : List ℕ → Mode
  -- behind an opening bracket
  opening : Mode
  -- behind a comma
  wanting : Mode
  -- before these bytes of a word that stands for this
  word : List ℕ → Data → Mode
  -- within a text
  chars : List ℕ → Mode
  -- within a text, behind a backslash
  escape : List ℕ → Mode
  -- within a number
  figure : List ℕ → Mode
  -- within a path
  along : List ℕ → Mode
  -- behind an argument, or behind the whole call
  ended : Argument → Mode

pub data Next : Type 0 where
  go : Mode → List Frame → Next
  -- a fault, whose place is so many bytes before this one
  stop : ℕ → Next

-- the innermost open call ends with the arguments that it has
unfoldable pub closes : List Frame → Next
closes [] = stop 0
closes (f ∷ st) = go (ended (call f.0 (arguments f.1))) st

unfoldable pub in_prefix : List ℕ → List Frame → ℕ → Next
in_prefix [] st c = if is_name_byte c then go (naming (c ∷ [])) st else stop 0
in_prefix (w ∷ ws) st c = if c == w then go (prefix ws) st else stop 0

unfoldable pub in_named : List ℕ → List Frame → ℕ → Next
in_named n st c =
    if c == 32 then go (named n) st else if c == 40 then go opening ((n, []) ∷ st) else stop 0

unfoldable pub in_naming : List ℕ → List Frame → ℕ → Next
in_naming n st c = if is_name_byte c then go (naming (n ++ c ∷ [])) st else in_named n st c

unfoldable pub in_word : List ℕ → Data → List Frame → ℕ → Next
in_word [] d st c = stop 0
in_word (w ∷ []) d st c = if c == w then go (ended (constant d)) st else stop 0
in_word (w ∷ x ∷ ws) d st c = if c == w then go (word (x ∷ ws) d) st else stop 0

unfoldable pub in_chars : List ℕ → List Frame → ℕ → Next
in_chars s st c =
    if c == 39 then go (ended (quoted s)) st else if c == 92 then go (escape s) st
    else go (chars (s ++ c ∷ [])) st

unfoldable pub in_escape : List ℕ → List Frame → ℕ → Next
in_escape s st c = if is_escaped c then go (chars (s ++ 92 ∷ c ∷ [])) st else stop 0

unfoldable pub in_ended : Argument → List Frame → ℕ → Next
in_ended a [] c = stop 0
in_ended a (f ∷ st) c =
    if c == 32 then go (ended a) (f ∷ st)
    else if c == 44 then go wanting ((f.0, f.1 ++ a ∷ []) ∷ st)
    else if c == 41 then closes ((f.0, f.1 ++ a ∷ []) ∷ st)
    else stop 0

-- the longest number is judged where it ends
unfoldable pub in_figure : Bool → List ℕ → List Frame → ℕ → Next
in_figure lim s st c =
    if is_number_front (s ++ c ∷ []) then go (figure (s ++ c ∷ [])) st
    else if is_number s
    then (if lim && is_over s then stop (length s) else in_ended (constant (number s)) st c)
    else stop 0

unfoldable pub in_along : List ℕ → List Frame → ℕ → Next
in_along s st c =
    if is_path_front (s ++ c ∷ []) then go (along (s ++ c ∷ [])) st
    else if is_path s then in_ended (path s) st c
    else stop 0

-- an argument begins
unfoldable pub begins : List Frame → ℕ → Next
begins st c =
    if c == 39 then go (chars []) st
    else if c == 36 then in_along [] st c
    else if c == 83 then in_prefix states_word st c
    else if c == 110 then in_word null_word null st c
    else if c == 116 then in_word true_word (boolean true) st c
    else if c == 102 then in_word false_word (boolean false) st c
    else if is_number_front (c ∷ []) then go (figure (c ∷ [])) st
    else stop 0

unfoldable pub in_opening : List Frame → ℕ → Next
in_opening st c = if c == 32 then go opening st else if c == 41 then closes st else begins st c

unfoldable pub in_wanting : List Frame → ℕ → Next
in_wanting st c = if c == 32 then go wanting st else begins st c

-- what the next byte does, with limits of numbers or without
abbrev pub step_by : Bool → Mode → List Frame → ℕ → Next
step_by lim (prefix ws) st c = in_prefix ws st c
step_by lim (naming n) st c = in_naming n st c
step_by lim (named n) st c = in_named n st c
step_by lim opening st c = in_opening st c
step_by lim wanting st c = in_wanting st c
step_by lim (word ws d) st c = in_word ws d st c
step_by lim (chars s) st c = in_chars s st c
step_by lim (escape s) st c = in_escape s st c
step_by lim (figure s) st c = in_figure lim s st c
step_by lim (along s) st c = in_along s st c
step_by lim (ended a) st c = in_ended a st c

abbrev pub step : Mode → List Frame → ℕ → Next
step m st c = step_by true m st c

-- what the end of the text does
abbrev pub whole : Argument → List Frame → Result Argument ℕ
whole a [] = Ok a
whole a (f ∷ st) = Err 0

abbrev pub finish_by : Bool → Mode → List Frame → Result Argument ℕ
finish_by lim (figure s) st =
    if is_number s
    then (if lim && is_over s then Err (length s) else whole (constant (number s)) st)
    else Err 0
finish_by lim (along s) st = if is_path s then whole (path s) st else Err 0
finish_by lim (ended a) st = whole a st
finish_by lim _ st = Err 0

abbrev pub onward : Next → ℕ → (Mode → List Frame → Result Argument ℕ) → Result Argument ℕ
onward (go m st) left f = f m st
onward (stop back) left f = Err (back + left)

abbrev pub run_by : Bool → Mode → List Frame → List ℕ → Result Argument ℕ
run_by lim m st [] = finish_by lim m st
run_by lim m st (c ∷ cs) = onward (step_by lim m st c) (suc (length cs)) (λ n s. run_by lim n s cs)

abbrev pub run : Mode → List Frame → List ℕ → Result Argument ℕ
run m st t = run_by true m st t

-- the call that a text spells, or how many bytes are left from the first place that is wrong
abbrev pub heard : List ℕ → Result Argument ℕ
heard t = run (prefix states_word) [] t
