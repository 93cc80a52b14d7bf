-- What a part of the reader answers, by the machine: it stands for a stretch of the machine's run.
use Rattle.std.specs.Prelude.{◌≡◌, ℕ, Bool, false, List, [], ◌∷◌, Result, Ok, Err}
use Rattle.asl_path.specs.declared.read.Halt.{Halt}
use Rattle.asl_path.specs.declared.read.Halt.TheVariants.{At, Memory}

-- the machine stops with so many bytes left, unless memory ran out
abbrev pub Fails : {Y : Type 0} → Halt → Result Y ℕ → Type 0
Fails Memory r = Unit {0}
Fails (At left) r = r ≡ Err left

-- the machine's run r is what further says of what was read
abbrev pub Leads : {X : Type 0} {Y : Type 0} → (X → Result Y ℕ) → Result X Halt → Result Y ℕ
    → Type 0
Leads further (Ok x) r = r ≡ further x
Leads further (Err e) r = Fails e r

-- none of these stands first
abbrev pub NotFirst : (ℕ → Bool) → List ℕ → Type 0
NotFirst p [] = Unit {0}
NotFirst p (c ∷ cs) = p c ≡ false
