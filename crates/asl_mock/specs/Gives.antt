-- What a part of a file gives: its value, or the first place of those where a fault is.
use Rattle.std.specs.Prelude.{◌≡◌, List, [], Some, Result, Ok, Err}
use Rattle.asl_mock.specs.Places.{Place, first_of}

abbrev pub Gives : {X Y : Type 0} → (X → Y) → Y → List Place → Result X Place → Type 0
Gives view y ps (Ok x) = (ps ≡ []) × (view x ≡ y)
Gives view y ps (Err p) = first_of ps ≡ Some p
