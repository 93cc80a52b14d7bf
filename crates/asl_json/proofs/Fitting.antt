-- A number in the limits has room for its spelling.
use Rattle.std.proofs.Common.{◌≡◌, ◌≤◌, ℕ, List, length, Bool, true, false, ◌||◌, ◌&&◌, not, nat_lt, nat_le, ◌==◌, refl}
use Rattle.std.proofs.lemmas.Bool.{ltb-false}
use Rattle.asl_json_data.specs.Number.{is_over, IsNumber, max_number_len}

or_off : (a b : Bool) → (a || b) ≡ false → a ≡ false
or_off true b e = e
or_off false b e = refl

pub number_fits : (s : List ℕ) → IsNumber s → length s ≤ 40
unfolding is_over
number_fits s n = ltb-false max_number_len (length s) (or_off (nat_lt max_number_len (length s)) _ n.1)
