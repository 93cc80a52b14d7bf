-- How a call is cut: at the commas that stand in no text between quotes and in no inner brackets.
use Rattle.std.specs.Prelude.{ℕ, ◌+◌, ◌-◌, ◌==◌, nat_lt, nat_eq, List, [], ◌∷◌, ◌++◌, drop, length, Bool, true, false, ◌||◌, ◌&&◌, Option, Some, None, option_map, if◌then◌else◌}
use Rattle.std.specs.List.{starts_with}
use Rattle.asl_intrinsic_functions.specs.declared.function.Function.{Function}
use Rattle.asl_intrinsic_functions.specs.Names.{function_named}
use Rattle.asl_intrinsic.specs.Grammar.{states_word}
use Rattle.asl_lint_calls.specs.declared.cutting.Mode.{Mode}
use Rattle.asl_lint_calls.specs.declared.cutting.Mode.TheVariants.{Plain, Quoted, Escaped}
use Rattle.asl_lint_calls.specs.declared.cutting.Move.{Move}
use Rattle.asl_lint_calls.specs.declared.cutting.Move.TheVariants.{On, Cut, Close, Stop}

-- go on with what is there
abbrev pub given : {A B : Type 0} → Option A → (A → Option B) → Option B
given (Some a) f = f a
given None f = None

-- ---- the first and the last byte

-- what follows this byte, where it stands first
abbrev pub after_first : ℕ → List ℕ → Option (List ℕ)
after_first b [] = None
after_first b (c ∷ cs) = if c == b then Some cs else None

-- what stands before this byte, where it stands last
abbrev pub before_last : ℕ → List ℕ → Option (List ℕ)
before_last b [] = None
before_last b (c ∷ []) = if c == b then Some [] else None
before_last b (c ∷ d ∷ cs) = option_map (λ t. c ∷ t) (before_last b (d ∷ cs))

abbrev pub is_empty : List ℕ → Bool
is_empty [] = true
is_empty (c ∷ cs) = false

-- without the spaces in front
abbrev pub without_front : List ℕ → List ℕ
without_front [] = []
without_front (c ∷ cs) = if c == 32 then without_front cs else c ∷ cs

-- without the spaces at the end
abbrev pub without_end : List ℕ → List ℕ
without_end [] = []
without_end (c ∷ cs) = if (c == 32) && is_empty (without_end cs) then [] else c ∷ without_end cs

abbrev pub trimmed : List ℕ → List ℕ
trimmed t = without_end (without_front t)

-- ---- the head of a call

-- what stands before the first opening bracket, and what behind it
abbrev pub at_bracket : List ℕ → Option (List ℕ × List ℕ)
at_bracket [] = None
at_bracket (c ∷ cs) =
    if c == 40 then Some ([], cs) else option_map (λ x. (c ∷ x.0, x.1)) (at_bracket cs)

abbrev pub behind_word : List ℕ → Option (List ℕ)
behind_word t =
    if starts_with nat_eq t states_word then Some (drop (length states_word) t) else None

abbrev pub with_function : Option Function → List ℕ → Option (Function × List ℕ)
with_function (Some f) t = Some (f, t)
with_function None t = None

abbrev pub named_head : List ℕ × List ℕ → Option (Function × List ℕ)
named_head x = with_function (function_named (without_end x.0)) x.1

-- the function of a call, and what follows its opening bracket
abbrev pub head : List ℕ → Option (Function × List ℕ)
head t = given (given (behind_word t) at_bracket) named_head

-- ---- its arguments

-- outside of texts, in so many open brackets
abbrev pub next_plain : ℕ → ℕ → Move
next_plain n c =
    if (c == 39) || (c == 34) then On (Quoted n c)
    else (if c == 40 then (if nat_lt n 10 then On (Plain (n + 1)) else Stop)
    else (if c == 41 then (if n == 0 then Close else On (Plain (n - 1)))
    else (if (c == 44) && (n == 0) then Cut else On (Plain n))))

abbrev pub next_quoted : ℕ → ℕ → ℕ → Mode
next_quoted n q c =
    if c == q then Plain n else (if c == 92 then Escaped n q else Quoted n q)

-- what the next byte does
abbrev pub next : Mode → ℕ → Move
next (Plain n) c = next_plain n c
next (Quoted n q) c = On (next_quoted n q c)
next (Escaped n q) c = On (Quoted n q)

abbrev pub closed : List ℕ → List ℕ → Option (List (List ℕ))
closed front [] = Some (front ∷ [])
closed front (c ∷ cs) = None

abbrev pub moved : Move → List ℕ → ℕ → List ℕ → (Mode → List ℕ → Option (List (List ℕ)))
    → Option (List (List ℕ))
moved (On m) front c cs f = f m (front ++ c ∷ [])
moved Cut front c cs f = option_map (λ ps. front ∷ ps) (f (Plain 0) [])
moved Close front c cs f = closed front cs
moved Stop front c cs f = None

-- what stands between the commas, of which this is there so far, up to the bracket at the end
abbrev pub pieces : Mode → List ℕ → List ℕ → Option (List (List ℕ))
pieces m front [] = None
pieces m front (c ∷ cs) = moved (next m c) front c cs (λ n s. pieces n s cs)

-- spaces alone stand between the brackets
abbrev pub is_blank : List (List ℕ) → Bool
is_blank (p ∷ []) = is_empty (trimmed p)
is_blank ps = false

abbrev pub unless_blank : List (List ℕ) → List (List ℕ)
unless_blank ps = if is_blank ps then [] else ps

-- the arguments as they are written, behind the opening bracket
abbrev pub arguments_in : List ℕ → Option (List (List ℕ))
arguments_in t = option_map unless_blank (pieces (Plain 0) [] t)
