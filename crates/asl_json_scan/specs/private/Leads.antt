-- What a part of the reader answers, by the machine: it stands for a stretch of the machine's run.
use Rattle.std.specs.Prelude.{◌≡◌, ℕ, ◌<◌, ◌≤◌, ◌==◌, ◌||◌, Bool, true, false, List, [], ◌∷◌, ◌++◌, length, take, drop, Result, Ok, Err}
use Rattle.asl_json_data.specs.Data.{Data}
use Rattle.asl_json_data.specs.Number.{is_digit, IsNumeral, EndsNumber}
use Rattle.asl_json_scan.specs.Open.{Frame, in_list}
use Rattle.asl_json_data.specs.Grammar.{close_bracket, is_space, AreSpaces}
use Rattle.asl_json_data.specs.Text.{is_plain, is_hex, Quad, digits_of, AreHex, unit_of, escape}
use Rattle.asl_json_scan.specs.private.Chars.{Textual, broken}
use Rattle.std.specs.Char.{digit_value}
use Rattle.std.specs.Char.Utf16.{is_low_surrogate}
use Rattle.asl_json_scan.specs.declared.fault.Fault.{Fault}
use Rattle.asl_json_scan.specs.declared.fault.Stop.{Stop}
use Rattle.asl_json_scan.specs.declared.fault.Stop.TheVariants as stops

-- the machine answers this fault, unless memory ran out
abbrev pub Fails : Stop → Result Data Fault → Type 0
Fails stops.Memory r = Unit {0}
Fails (stops.Fault f) r = r ≡ Err f

-- the machine's run r is that from go at what was read
abbrev pub Leads : {X : Type 0} → (X → Result Data Fault) → Result X Stop → Result Data Fault
    → Type 0
Leads further (Ok x) r = r ≡ further x
Leads further (Err e) r = Fails e r

-- no space stands first
abbrev pub NoSpaceFirst : List ℕ → Type 0
NoSpaceFirst [] = Unit {0}
NoSpaceFirst (c ∷ cs) = is_space c ≡ false

-- a minus or a digit stands first
abbrev pub begins : List ℕ → Bool
begins [] = false
begins (c ∷ cs) = (c == 45) || is_digit c

-- so many bytes are the longest number in front
pub record IsNumberFront (bytes : List ℕ) (n : ℕ) : Type 0 where
  pub some : 0 < n
  pub within : n ≤ length bytes
  pub number_is : IsNumeral (take n bytes)
  pub longest : EndsNumber (take n bytes) (drop n bytes)

-- another byte stands first, or none
abbrev pub FirstIsNot : ℕ → List ℕ → Type 0
FirstIsNot c [] = Unit {0}
FirstIsNot c (d ∷ ds) = (d == c) ≡ false

-- no plain byte stands first
abbrev pub NoPlainFirst : List ℕ → Type 0
NoPlainFirst [] = Unit {0}
NoPlainFirst (c ∷ cs) = is_plain c ≡ false

-- no list without items ends with the first byte
abbrev pub NotClosed : List Frame → List ℕ → Type 0
NotClosed (in_list [] ∷ st) bytes = FirstIsNot close_bracket bytes
NotClosed _ bytes = Unit {0}

-- rest is what follows the spaces at the front
pub record Skips (bytes rest : List ℕ) : Type 0 where
  pub spaces : List ℕ
  pub parts : bytes ≡ spaces ++ rest
  pub spaces_are : AreSpaces spaces
  pub stops : NoSpaceFirst rest

-- no list without items ends where a value is wanted
abbrev pub WantsValue : List Frame → List ℕ → Type 0
WantsValue st bytes = (rest : List ℕ) → Skips bytes rest → NotClosed st rest

-- the bytes of a text are broken by this fault, unless memory ran out
abbrev pub Breaks : Stop → Textual → Type 0
Breaks stops.Memory r = Unit {0}
Breaks (stops.Fault f) r = r ≡ broken f

-- a hexadecimal digit of this value stands first
pub record HexFirst (bytes : List ℕ) (value : ℕ) (rest : List ℕ) : Type 0 where
  pub digit : ℕ
  pub parts : bytes ≡ digit ∷ rest
  pub digit_is : is_hex digit ≡ true
  pub value_is : value ≡ digit_value digit
  pub small : value < 16

-- the digits of a code unit that is no low half stand first
pub record IsUnit (bytes : List ℕ) (value : ℕ) (rest : List ℕ) : Type 0 where
  pub digits : Quad
  pub digits_are : AreHex digits
  pub value_is : value ≡ unit_of digits
  pub no_low : is_low_surrogate value ≡ false
  pub small : value < 65536
  pub parts : bytes ≡ digits_of digits ++ rest

-- the digits of a low half stand first
pub record IsLowUnit (bytes : List ℕ) (value : ℕ) (rest : List ℕ) : Type 0 where
  pub digits : Quad
  pub digits_are : AreHex digits
  pub value_is : value ≡ unit_of digits
  pub low : is_low_surrogate value ≡ true
  pub parts : bytes ≡ digits_of digits ++ rest

-- the escape of a low half stands first
pub record IsPartner (bytes : List ℕ) (value : ℕ) (rest : List ℕ) : Type 0 where
  pub digits : Quad
  pub digits_are : AreHex digits
  pub value_is : value ≡ unit_of digits
  pub low : is_low_surrogate value ≡ true
  pub parts : bytes ≡ escape digits ++ rest
