-- Reading a path from left to right, byte by byte: its root and steps, or how many bytes are left
-- from the first one that
-- can't go on. (What it answers is what the grammar says: the laws of one meaning and one fault.)
use Rattle.std.specs.Prelude.{ℕ, suc, ◌+◌, ◌*◌, ◌-◌, ◌==◌, ◌||◌, ◌&&◌, nat_lt, List, [], ◌∷◌, ◌++◌, length, if◌then◌else◌, Result, Ok, Err}
use Rattle.asl_path.specs.Grammar.{dollar, full_stop, open_bracket, close_bracket, single_quote, double_quote, is_digit, is_name_byte, is_between}
use Rattle.asl_path.specs.declared.step.Root.{Root}
use Rattle.asl_path.specs.declared.step.Root.TheVariants.{Input, Context}
use Rattle.asl_path.specs.declared.step.Step.{Step}
use Rattle.asl_path.specs.declared.step.Step.TheVariants.{Name, Index}

-- where a reader stands
pub data Mode : Type 0 where
  between : Mode
  dot : Mode
  name : List ℕ → Mode
  bracket : Mode
  quoted : ℕ → List ℕ → Mode
  closing : List ℕ → Mode
  -- so many digits, and what they mean
  digits : ℕ → ℕ → Mode

pub data Next : Type 0 where
  go : Mode → List Step → Next
  stop : Next

abbrev pub begin_step : List Step → ℕ → Next
begin_step done c =
    if c == full_stop then go dot done else if c == open_bracket then go bracket done else stop

-- what the next byte does
abbrev pub advance : Mode → List Step → ℕ → Next
advance between done c = begin_step done c
advance dot done c = if is_name_byte c then go (name (c ∷ [])) done else stop
advance (name n) done c =
    if is_name_byte c then go (name (n ++ c ∷ [])) done else begin_step (done ++ Name n ∷ []) c
advance bracket done c =
    if (c == single_quote) || (c == double_quote) then go (quoted c []) done else if is_digit c
    then go (digits 1 (c - 48)) done else stop
advance (quoted q n) done c =
    if is_between q c then go (quoted q (n ++ c ∷ [])) done else if c == q then go (closing n) done
    else stop
advance (closing n) done c = if c == close_bracket then go between (done ++ Name n ∷ []) else stop
advance (digits k v) done c =
    if nat_lt k 9 && is_digit c then go (digits (k + 1) (v * 10 + (c - 48))) done
    else if c == close_bracket then go between (done ++ Index v ∷ []) else stop

-- what the end of the text does
abbrev pub finish : Mode → List Step → Result (List Step) ℕ
finish between done = Ok done
finish (name n) done = Ok (done ++ Name n ∷ [])
finish m done = Err 0

abbrev pub onward : Next → ℕ → (Mode → List Step → Result (List Step) ℕ) → Result (List Step) ℕ
onward (go m done) left f = f m done
onward stop left f = Err left

abbrev pub run : Mode → List Step → List ℕ → Result (List Step) ℕ
run m done [] = finish m done
run m done (c ∷ cs) = onward (advance m done c) (suc (length cs)) (λ n d. run n d cs)

abbrev pub with_root : Root → Result (List Step) ℕ → Result (Root × List Step) ℕ
with_root r (Ok ss) = Ok (r, ss)
with_root r (Err left) = Err left

abbrev pub from_root : List ℕ → Result (Root × List Step) ℕ
from_root [] = Ok (Input, [])
from_root (c ∷ cs) =
    if c == dollar then with_root Context (run between [] cs)
    else with_root Input (run between [] (c ∷ cs))

abbrev pub steps : List ℕ → Result (Root × List Step) ℕ
steps [] = Err 0
steps (c ∷ cs) = if c == dollar then from_root cs else Err (suc (length cs))
