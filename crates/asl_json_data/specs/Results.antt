-- Steps that may fail, one after another.
use Rattle.std.specs.Prelude.{Result, Ok, Err}

-- what follows has the value of a step; a failure is the whole's
infixl 10 ◌>>=◌
abbrev pub ◌>>=◌ : {A B E : Type 0} → Result A E → (A → Result B E) → Result B E
Ok a >>= f = f a
Err e >>= f = Err e
