-- The number that digits spell.
use Rattle.std.proofs.Common.{◌≡◌, ◌<◌, ◌≤◌, ℕ, List, length, true, ap, arith, rules}
use Rattle.std.proofs.lemmas.Bool.Decides.{nat_tests}
use Rattle.std.specs.Prelude.{Result, Ok, Err, Some, None, if◌then◌else◌}
use Rattle.std.specs.Str.{all_ascii_digits}
use Rattle.std.specs.Str.Parse.{ParsesUnsigned}
use Rattle.std.proofs.lemmas.Str.Parse.{IsNumeralModel, numerals_by_fold, parse_gives, digits_value_short}
use Rattle.asl_mock.specs.Key.{read_on, number_in, is_number}

own : IsNumeralModel (λ ds. all_ascii_digits ds ≡ true) (read_on 0)
own = numerals_by_fold _ (search rules) read_on (search rules)

pub read_gives : {E : Type 0} (t : List ℕ) (r : Result ℕ E) → ParsesUnsigned 32 10 t r → all_ascii_digits t ≡ true → 0 < length t → length t ≤ 9 → r ≡ Ok (read_on 0 t)
read_gives t r h digits some few = parse_gives own 32 t r h digits some (omega (arith, digits_value_short own t 9 digits few))

pub number_there : (t : List ℕ) → all_ascii_digits t ≡ true → 0 < length t → length t ≤ 9 → number_in t ≡ Some (read_on 0 t)
number_there t digits some few = ap (λ b. if b then Some (read_on 0 t) else None) all
  where
    all : is_number t ≡ true
    all = grind (arith, nat_tests, digits, some, few)

pub no_number : {E : Type 0} (t : List ℕ) (r : Result ℕ E) (e : E) → ParsesUnsigned 32 10 t r → all_ascii_digits t ≡ true → 0 < length t → length t ≤ 9 → r ≡ Err e → ⊥
no_number t r e h digits some few is = absurd (cc (read_gives t r h digits some few, is))

pub a_number : {E : Type 0} (t : List ℕ) (r : Result ℕ E) (n : ℕ) → ParsesUnsigned 32 10 t r → all_ascii_digits t ≡ true → 0 < length t → length t ≤ 9 → r ≡ Ok n → Some n ≡ number_in t
a_number t r n h digits some few is = cc (number_there t digits some few, read_gives t r h digits some few, is)
