-- Three pieces, one behind another.
use Rattle.std.proofs.Common.{ℕ, Result, Ok, Err, OnOk, ◌≡◌, List, ◌++◌, ap, ◌∙◌, append_assoc}
use Rattle.std.specs.Prelude.{if◌then◌else◌}
use Rattle.std.specs.Result.{is_ok}

pub three : {T E : Type 0} (r : Result T E) (a b c old mid late new : List ℕ) → mid ≡ old ++ a → late ≡ mid ++ b → OnOk r (new ≡ late ++ c) → OnOk r (new ≡ old ++ (a ++ (b ++ c)))
three (Ok v) a b c old mid late new first second third =
    third ∙ ap (λ (x : List ℕ). x ++ c) (second ∙ ap (λ (x : List ℕ). x ++ b) first) ∙ append_assoc (old ++ a) b c ∙ append_assoc old a (b ++ c)
three (Err e) a b c old mid late new first second third = tt

pub pushed : {T E : Type 0} (r : Result T E) (c late new : List ℕ) → new ≡ (if is_ok r then late ++ c else late) → OnOk r (new ≡ late ++ c)
pushed (Ok v) c late new h = h
pushed (Err e) c late new h = tt
