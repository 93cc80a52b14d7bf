-- Members of a canonical object by their names.
use Rattle.std.proofs.Common.{◌≡◌, ℕ, Bool, true, false, List, [], ◌∷◌, ◌++◌, refl, sym, ap, ◌∙◌}
use Rattle.std.specs.Borrow.{Bor}
use Rattle.std.specs.Option.{option_copied}
use Rattle.std.specs.Prelude.{Option, Some, None, option_map, if◌then◌else◌}
use Rattle.asl_json_data.specs.Data.{Data, dict, pairs}
use Rattle.asl_json.specs.Same.{bytes_eq}
use Rattle.asl_json.specs.Meaning.{value_at, value_in}
use Rattle.asl_def_schema.specs.Canon.{Named, opt, present}

abbrev pub or_else : Option Data → Option Data → Option Data
or_else (Some d) o = Some d
or_else None o = o

abbrev pub chosen : List ℕ → List (List ℕ × Option Data) → Option Data
chosen k [] = None
chosen k (m ∷ ms) = if bytes_eq k m.0 then or_else m.1 (chosen k ms) else chosen k ms

behind : (k l : List ℕ) (o rest : Option Data) (ms : List Named) → value_at k (pairs ms) ≡ rest → value_at k (pairs (opt l o ++ ms)) ≡ (if bytes_eq k l then or_else o rest else rest)
behind k l None rest ms e = by (bytes_eq k l)
  where
    by : (b : Bool) → value_at k (pairs ms) ≡ (if b then rest else rest)
    by true = e
    by false = e
behind k l (Some d) rest ms e = by (bytes_eq k l)
  where
    by : (b : Bool) → (if b then Some d else value_at k (pairs ms)) ≡ (if b then Some d else rest)
    by true = refl
    by false = e

pub present_at : (k : List ℕ) (ms : List (List ℕ × Option Data)) → value_at k (pairs (present ms)) ≡ chosen k ms
present_at k [] = refl
present_at k (m ∷ ms) = behind k m.0 m.1 (chosen k ms) (present ms) (present_at k ms)

or_none : (o : Option Data) → or_else o None ≡ o
or_none None = refl
or_none (Some d) = refl

-- the member of this name, where the name comes once
pub named : (k : List ℕ) (o : Option Data) (ms : List (List ℕ × Option Data)) → chosen k ms ≡ or_else o None → o ≡ value_in k (dict (pairs (present ms)))
named k o ms e = sym (present_at k ms ∙ e ∙ or_none o)

-- what is lent of an optional member
pub lent : {A : Type 0} (f : A → Data) (r : Option (Bor A)) (o : Option A) → option_copied r ≡ o → option_map (λ v. f v.now) r ≡ option_map f o
lent f None o e = ap (option_map f) e
lent f (Some v) o e = ap (option_map f) e
