-- What each fault says of a text.
use Rattle.std.specs.Prelude.{◌≡◌, ◌⊎◌, ◌≤◌, ℕ, suc, nat_lt, true, List, [], ◌∷◌, ◌++◌, length, if◌then◌else◌, Option, None, Some}
use Rattle.asl_json_data.specs.Number.{IsNumeral, is_over}
use Rattle.asl_json_data.specs.Number.{EndsNumber}
use Rattle.asl_intrinsic.specs.Tree.{Argument, constant, quoted, path, call, Arguments, none, argument}
use Rattle.asl_intrinsic.specs.Grammar.{SpellsCall, IsSpelled, IsPrefix, Fits}
use Rattle.asl_intrinsic.specs.Fronts.{AwaitsArgument}
use Rattle.asl_intrinsic_functions.specs.Names.{function_named, takes}
use Rattle.asl_intrinsic_functions.specs.declared.function.Function.{Function}
use Rattle.asl_intrinsic.specs.declared.expr.CallFault.{CallFault}
use Rattle.asl_intrinsic.specs.declared.expr.CallFault.TheVariants.{Syntax, Unknown, Depth, Arity, OutOfMemory}

-- how many calls may stand in one another
abbrev pub max_calls : ℕ
max_calls = 10

abbrev pub count : Arguments → ℕ
count none = 0
count (argument a ts) = suc (count ts)

-- the first of two faults
abbrev pub sooner : Option CallFault → Option CallFault → Option CallFault
sooner (Some f) g = Some f
sooner None g = g

abbrev pub misfit : List ℕ → ℕ → Option Function → Option CallFault
misfit name k None = Some (Unknown name)
misfit name k (Some f) = if takes f k then None else Some Arity

-- what is wrong with a call of this name and so many arguments itself, which stands in so many
-- calls with itself
unfoldable pub own_fault : ℕ → List ℕ → ℕ → Option CallFault
own_fault level name k =
    if nat_lt max_calls level then Some Depth else misfit name k (function_named name)

-- the first fault of the calls, in the order of their names
abbrev mutual
  pub first_fault : ℕ → Argument → Option CallFault
  first_fault level (constant d) = None
  first_fault level (quoted t) = None
  first_fault level (path t) = None
  first_fault level (call name ts) =
      sooner (own_fault level name (count ts)) (first_faults (suc level) ts)

  pub first_faults : ℕ → Arguments → Option CallFault
  first_faults level none = None
  first_faults level (argument a ts) = sooner (first_fault level a) (first_faults level ts)

-- a call of known functions, each with as many arguments as it takes, of which at most ten stand in
-- one another, with numbers in the limits
pub record IsCall (t : List ℕ) : Type 0 where
  pub tree : Argument
  pub spelled : SpellsCall tree t
  pub fits : Fits tree
  pub faultless : first_fault 1 tree ≡ None

-- no call goes on from the front over the next byte, or, where there is none, the front is no call
abbrev pub EndsAt : List ℕ → List ℕ → Type 0
EndsAt front [] = IsSpelled front → ⊥
EndsAt front (c ∷ rest) = IsPrefix (front ++ c ∷ []) → ⊥

-- the byte of this number, counted from 0, is the first one that can't go on; the end of the text
-- counts as one
pub record SyntaxAt (t : List ℕ) (at : ℕ) : Type 0 where
  pub front : List ℕ
  pub rest : List ℕ
  pub parts : t ≡ front ++ rest
  pub at_is : length front ≡ at
  pub alive : IsPrefix front
  pub dead : EndsAt front rest

-- there begins a number past the limits, read whole
pub record NumberAt (t : List ℕ) (at : ℕ) : Type 0 where
  pub front : List ℕ
  pub spelled : List ℕ
  pub rest : List ℕ
  pub parts : t ≡ front ++ (spelled ++ rest)
  pub at_is : length front ≡ at
  pub awaits : AwaitsArgument front
  pub number_is : IsNumeral spelled
  pub longest : EndsNumber spelled rest
  pub over : is_over spelled ≡ true

abbrev pub IsWrongAt : List ℕ → ℕ → Type 0
IsWrongAt t at = SyntaxAt t at ⊎ NumberAt t at

-- the first place that is wrong
pub record IsFirstWrong (t : List ℕ) (at : ℕ) : Type 0 where
  pub wrong : IsWrongAt t at
  pub first : (other : ℕ) → IsWrongAt t other → at ≤ other

-- a call whose first fault is this one
pub record IsMisfit (t : List ℕ) (fault : CallFault) : Type 0 where
  pub tree : Argument
  pub spelled : SpellsCall tree t
  pub fits : Fits tree
  pub first : first_fault 1 tree ≡ Some fault

abbrev pub IsFaultOf : List ℕ → CallFault → Type 0
IsFaultOf t (Syntax at) = IsFirstWrong t at
IsFaultOf t (Unknown name) = IsMisfit t (Unknown name)
IsFaultOf t Depth = IsMisfit t Depth
IsFaultOf t Arity = IsMisfit t Arity
IsFaultOf t OutOfMemory = Unit {0}
