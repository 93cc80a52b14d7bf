-- What a part of the reader answers, by the machine: it stands for a stretch of the machine's run.
use Rattle.std.specs.Prelude.{◌≡◌, ℕ, ◌-◌, ◌<◌, nat_lt, Bool, true, false, ◌&&◌, List, [], ◌∷◌, Result, Ok, Err}
use Rattle.asl_json_data.specs.Number.{is_digit}
use Rattle.asl_json_scan.specs.declared.fault.Stop.{Stop}
use Rattle.asl_json_scan.specs.declared.fault.Stop.TheVariants as stops
use Rattle.asl_rules.specs.declared.fault.RuleFault.{RuleFault}
use Rattle.asl_rules.specs.declared.fault.RuleFault.TheVariants.{Syntax, OutOfMemory}
use Rattle.asl_rules.specs.private.Steps.{Read, digit}

-- nothing goes on at this place, unless memory ran out
abbrev pub Fails : Stop → Read → Type 0
Fails stops.Memory r = Unit {0}
Fails (stops.Fault f) r = r ≡ Err f.left

-- the machine's run r is that from go at what was read
abbrev pub Leads : {X : Type 0} → (X → Read) → Result X Stop → Read → Type 0
Leads further (Ok x) r = r ≡ further x
Leads further (Err e) r = Fails e r

-- each byte is a character of ASCII
abbrev pub are_ascii : List ℕ → Bool
are_ascii [] = true
are_ascii (c ∷ cs) = nat_lt c 128 && are_ascii cs

-- a digit of this value stands first
pub record DigitFirst (bytes : List ℕ) (value : ℕ) (rest : List ℕ) : Type 0 where
  pub byte : ℕ
  pub parts : bytes ≡ byte ∷ rest
  pub digit_is : is_digit byte ≡ true
  pub value_is : value ≡ digit byte
  pub small : value < 10

-- no digit stands first
abbrev pub NoDigitFirst : List ℕ → Type 0
NoDigitFirst [] = Unit {0}
NoDigitFirst (c ∷ cs) = is_digit c ≡ false

-- ---- from the bytes left to the place from the start

abbrev pub placed : ℕ → Stop → RuleFault
placed len stops.Memory = OutOfMemory
placed len (stops.Fault f) = Syntax (len - f.left)
