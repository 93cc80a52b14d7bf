-- What the program leaves on its streams, and with which status it ends.
use Rattle.std.specs.Prelude.{ℕ, Bool, true, false, List, [], ◌∷◌, ◌≡◌, ◌<◌, ◌++◌, ◌⊎◌, length, take, codes}
use Rattle.asl_history.specs.Sinks.{counted}

-- the status where the text of an execution was printed whole, by whether it ended in success
abbrev pub status_of : Bool → ℕ
status_of true = 0
status_of false = 1

-- the line that tells a fault
abbrev pub fault_line : List ℕ → List ℕ
fault_line text = codes "fault: " ++ (text ++ 10 ∷ [])

-- a beginning of a text, and not the whole of it, came behind what a sink had taken
abbrev pub Breaks : List ℕ → List ℕ → List ℕ → Type 0
Breaks old new text = (n : ℕ) × (n < length text) × (new ≡ old ++ take n text)

-- ---- a sink, seen by what it has taken and how often it has failed, before and after

-- the use of a sink
pub record SinkUse (S : Type 0) : Type 0 where
  pub taken : S → List ℕ
  pub failures : S → ℕ
  pub before : S
  pub after : S

abbrev pub sink_use : {S : Type 0} → (S → List ℕ) → (S → ℕ) → S → S → SinkUse S
sink_use taken failures before after =
    record { taken = taken; failures = failures; before = before; after = after }

-- nothing was written to it
abbrev pub IsUntouched : {S : Type 0} → SinkUse S → Type 0
IsUntouched s = s.after ≡ s.before

-- it took the whole of a text, and didn't fail
abbrev pub IsWhole : {S : Type 0} → SinkUse S → List ℕ → Type 0
IsWhole s text =
    (s.taken s.after ≡ s.taken s.before ++ text) × (s.failures s.after ≡ s.failures s.before)

-- it failed, once, before the end of a text
abbrev pub IsBroken : {S : Type 0} → SinkUse S → List ℕ → Type 0
IsBroken s text =
    Breaks (s.taken s.before) (s.taken s.after) text
    × (s.failures s.after ≡ counted (s.failures s.before))

-- a text was printed and has this status, or its sink failed and the status is 2
abbrev pub IsPrinted : {S : Type 0} → SinkUse S → List ℕ → ℕ → ℕ → Type 0
IsPrinted s text wanted status =
    (IsWhole s text × (status ≡ wanted)) ⊎ (IsBroken s text × (status ≡ 2))

-- a text was told, as far as the sink didn't fail
abbrev pub IsTold : {S : Type 0} → SinkUse S → List ℕ → Type 0
IsTold s text = IsWhole s text ⊎ IsBroken s text
