-- A talk: lines that were answered one after another, their steps told in a look.
use Rattle.std.specs.Prelude.{ℕ, ◌≡◌, ◌⊎◌, Bool, true, false, List, [], ◌∷◌, ◌++◌, codes}
use Rattle.std.specs.List.{flat_map}
use Rattle.asl_session_repl.specs.declared.telling.Look.{Look}
use Rattle.asl_session_repl.specs.Answers.{Console, IsRefusedLine}
use Rattle.asl_session_repl.specs.Telling.{Answers}

-- the lines as they were given, each with a line feed behind it
abbrev pub given_lines : List (List ℕ) → List ℕ
given_lines lines = flat_map (λ line. line ++ 10 ∷ []) lines

-- a strict talk goes on behind a line that was carried out
abbrev pub GoesOn : Bool → Console → List ℕ → Type 0
GoesOn true c line = IsRefusedLine c line false
GoesOn false c line = Unit {0}

-- a line was answered and ends nothing, or memory ran out and that was told
abbrev pub IsReplied : Bool → Look → Console → List ℕ → List ℕ → Console → Type 0
IsReplied strict look c line text d =
    (Answers look c line text false d × GoesOn strict c line) ⊎ (text ≡ codes "OutOfMemory" ++ 10 ∷ [])

-- these lines were answered in order
abbrev pub AreReplied : Bool → Look → Console → List (List ℕ) → List ℕ → Console → Type 0
AreReplied strict look c [] text d = (text ≡ []) × (d ≡ c)
AreReplied strict look c (line ∷ lines) text d =
    (first : List ℕ) × (rest : List ℕ) × (e : Console) × IsReplied strict look c line first e
    × (text ≡ first ++ rest) × AreReplied strict look e lines rest d

-- a line that ends the talk came behind these
pub record IsQuit (strict : Bool) (look : Look) (c : Console) (lines : List (List ℕ)) (text : List ℕ)
    (d : Console) : Type 0
  where
    pub before : List (List ℕ)
    pub told : List ℕ
    pub here : Console
    pub line : List ℕ
    pub answer : List ℕ
    pub replied : AreReplied strict look c before told here
    pub quits : Answers look here line answer true d
    pub lines_are : lines ≡ before ++ line ∷ []
    pub text_is : text ≡ told ++ answer

-- a whole talk: all lines were answered, up to one that ends it
abbrev pub IsTalk : Bool → Look → Console → List (List ℕ) → List ℕ → Console → Type 0
IsTalk strict look c lines text d =
    AreReplied strict look c lines text d ⊎ IsQuit strict look c lines text d

-- the line that ended a strict talk, behind these: it was answered, and not carried out
pub record IsStopped (look : Look) (c : Console) (lines : List (List ℕ)) (text : List ℕ) (d : Console)
    : Type 0
  where
    pub before : List (List ℕ)
    pub told : List ℕ
    pub here : Console
    pub line : List ℕ
    pub answer : List ℕ
    pub replied : AreReplied true look c before told here
    pub answers : Answers look here line answer false d
    pub refused : IsRefusedLine here line true
    pub lines_are : lines ≡ before ++ line ∷ []
    pub text_is : text ≡ told ++ answer
