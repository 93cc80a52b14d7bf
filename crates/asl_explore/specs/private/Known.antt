-- Outcomes whose texts are known.
use Rattle.std.specs.Prelude.{ℕ, ◌≡◌, true, is_some, List}
use Rattle.std.specs.List.{All}
use Rattle.std.specs.Coded.{Coded-set, coded_bool}
use Rattle.std.specs.HashMap.{HashMap, get_by_text}
use Rattle.std.specs.declared.string.String.{String}
use Rattle.asl_explore.specs.Reports.{ended_text}
use Rattle.asl_explore.specs.declared.found.Found.{Found}

-- the text of each outcome has a number
abbrev pub AreKnown : {Y S : Type 0} → HashMap (String Y) ℕ S → List Found → Type 0
AreKnown m fs = All (λ (f : Found). is_some (get_by_text m (ended_text f.outcome)) ≡ true) fs

-- there is one proof at most
pub known-prop : {Y S : Type 0} (m : HashMap (String Y) ℕ S) (fs : List Found) → IsProp (AreKnown m fs)
known-prop m fs a b = λ i k d l. Coded-set coded_bool _ _ (a k d l) (b k d l) i
