-- Which texts spell which formulas, by cases on the formula: each definition says of a text that it spells something in front,
-- and that S is so of what follows.
use Rattle.std.specs.Prelude.{◌≡◌, ◌<◌, ◌≤◌, ◌+◌, ◌*◌, ℕ, suc, max, true, List, [], ◌∷◌, ◌++◌, codes}
use Rattle.asl_json_data.specs.Grammar.{AreSpaces}
use Rattle.asl_json_data.specs.Number.{is_digit}
use Rattle.asl_json_data.specs.Text.{quote, SpellsChars}
use Rattle.asl_rules.specs.Tasks.{IsTask}
use Rattle.asl_rules.specs.Tree.{Formula, conclusion, implies, AnyOf, one, or, AllOf, alone, and, Operand, atom, denied, group}
use Rattle.asl_rules.specs.declared.atom.Task.{Task}
use Rattle.asl_rules.specs.declared.atom.Atom.{Atom}
use Rattle.asl_rules.specs.declared.atom.Atom.TheVariants as atoms
use Rattle.asl_rules.specs.private.Steps.{digit, max_count}
use Rattle.asl_rules.specs.declared.atom.Status.{Status}
use Rattle.asl_rules.specs.declared.atom.Status.TheVariants as statuses

-- these bytes, with spaces before them or none
pub record Word (w : List ℕ) (S : List ℕ → Type 0) (t : List ℕ) : Type 0 where
  pub spaces : List ℕ
  pub rest : List ℕ
  pub parts : t ≡ spaces ++ (w ++ rest)
  pub spaces_are : AreSpaces spaces
  pub rest_is : S rest

-- a JSON text of this name
pub record Name (s : List ℕ) (S : List ℕ → Type 0) (t : List ℕ) : Type 0 where
  pub spaces : List ℕ
  pub inner : List ℕ
  pub rest : List ℕ
  pub parts : t ≡ spaces ++ (quote ∷ (inner ++ (quote ∷ rest)))
  pub spaces_are : AreSpaces spaces
  pub inner_is : SpellsChars s inner
  pub rest_is : S rest

-- a number that begins with n, and these digits more
abbrev pub DigitsTo : ℕ → List ℕ → ℕ → Type 0
DigitsTo n [] m = n ≡ m
DigitsTo n (c ∷ cs) m =
    (is_digit c ≡ true)
    × ((0 < n) × ((n * 10 + digit c ≤ max_count) × DigitsTo (n * 10 + digit c) cs m))

-- digits without a nought in front, of a number in the limit
abbrev pub IsNumber : ℕ → List ℕ → Type 0
IsNumber n [] = ⊥
IsNumber n (c ∷ cs) = (is_digit c ≡ true) × DigitsTo (digit c) cs n

-- digits of this number
pub record Number (n : ℕ) (S : List ℕ → Type 0) (t : List ℕ) : Type 0 where
  pub spaces : List ℕ
  pub digits : List ℕ
  pub rest : List ℕ
  pub parts : t ≡ spaces ++ (digits ++ rest)
  pub spaces_are : AreSpaces spaces
  pub digits_are : IsNumber n digits
  pub rest_is : S rest

abbrev pub status_word : Status → List ℕ
status_word statuses.Succeeded = codes "SUCCEEDED"
status_word statuses.Failed = codes "FAILED"
status_word statuses.TimedOut = codes "TIMED_OUT"

-- a word, and a name in parentheses
abbrev pub Of : List ℕ → List ℕ → (List ℕ → Type 0) → List ℕ → Type 0
Of w s S t = Word w (Word (codes "(") (Name s (Word (codes ")") S))) t

abbrev pub SpellsAtom : List Task → Atom → (List ℕ → Type 0) → List ℕ → Type 0
SpellsAtom ts (atoms.Done x) S t = IsTask ts x × Of (codes "done") x.name S t
SpellsAtom ts (atoms.Failed x) S t = IsTask ts x × Of (codes "failed") x.name S t
SpellsAtom ts (atoms.Invoked x) S t = IsTask ts x × Of (codes "invoked") x.name S t
SpellsAtom ts (atoms.Returned x n) S t =
    IsTask ts x
    × Word (codes "returned") (Word (codes "(") (Name x.name (Word (codes ",") (Number n (Word (codes ")") S))))) t
SpellsAtom ts (atoms.Error e) S t = Of (codes "error") e S t
SpellsAtom ts (atoms.Status s) S t =
    Word (codes "status") (Word (codes "(") (Word (status_word s) (Word (codes ")") S))) t

abbrev mutual
  pub SpellsFormula : List Task → Formula → (List ℕ → Type 0) → List ℕ → Type 0
  SpellsFormula ts (conclusion a) S t = SpellsAny ts a S t
  SpellsFormula ts (implies a f) S t = SpellsAny ts a (Word (codes "=>") (SpellsFormula ts f S)) t

  pub SpellsAny : List Task → AnyOf → (List ℕ → Type 0) → List ℕ → Type 0
  SpellsAny ts (one a) S t = SpellsAll ts a S t
  SpellsAny ts (or a b) S t = SpellsAll ts a (Word (codes "or") (SpellsAny ts b S)) t

  pub SpellsAll : List Task → AllOf → (List ℕ → Type 0) → List ℕ → Type 0
  SpellsAll ts (alone o) S t = SpellsOperand ts o S t
  SpellsAll ts (and o a) S t = SpellsOperand ts o (Word (codes "and") (SpellsAll ts a S)) t

  pub SpellsOperand : List Task → Operand → (List ℕ → Type 0) → List ℕ → Type 0
  SpellsOperand ts (atom a) S t = SpellsAtom ts a S t
  SpellsOperand ts (denied o) S t = Word (codes "not") (SpellsOperand ts o S) t
  SpellsOperand ts (group f) S t = Word (codes "(") (SpellsFormula ts f (Word (codes ")") S)) t

-- how many parentheses and `not`s stand in one another
abbrev mutual
  pub formula_depth : Formula → ℕ
  formula_depth (conclusion a) = any_depth a
  formula_depth (implies a f) = max (any_depth a) (formula_depth f)

  pub any_depth : AnyOf → ℕ
  any_depth (one a) = all_depth a
  any_depth (or a b) = max (all_depth a) (any_depth b)

  pub all_depth : AllOf → ℕ
  all_depth (alone o) = operand_depth o
  all_depth (and o a) = max (operand_depth o) (all_depth a)

  pub operand_depth : Operand → ℕ
  operand_depth (atom a) = 0
  operand_depth (denied o) = suc (operand_depth o)
  operand_depth (group f) = suc (formula_depth f)

-- the whole text is a formula of these Tasks, within the limit
pub record IsFormula (ts : List Task) (f : Formula) (t : List ℕ) : Type 0 where
  pub spelled : SpellsFormula ts f AreSpaces t
  pub within : formula_depth f ≤ 64

-- the whole text is two names of these Tasks with `=` between them
pub record IsPair (ts : List Task) (a b : Task) (t : List ℕ) : Type 0 where
  pub spelled : Name a.name (Word (codes "=") (Name b.name AreSpaces)) t
  pub first : IsTask ts a
  pub second : IsTask ts b
