-- `Next` decides no rule, and stands behind what does.
use Rattle.std.proofs.Common.{◌≡◌, ℕ, List, [], ◌∷◌, ◌++◌, Bool, true, false, refl, ap, ◌∙◌}
use Rattle.std.specs.Prelude.{Option, Some, codes}
use Rattle.asl_json_data.specs.Data.{Data, dict, pairs}
use Rattle.asl_json.specs.Same.{bytes_eq}
use Rattle.asl_json_data.specs.Distinct.{Members, has_key}
use Rattle.asl_json.specs.Meaning.{value_at}
use Rattle.asl_choice.specs.Truth.{variable, holds, decided}

pub next_at_end : (ms : Members) (d : Data) → has_key (codes "Next") ms ≡ false → value_at (codes "Next") (pairs (ms ++ (codes "Next", d) ∷ [])) ≡ Some d
next_at_end [] d e = refl
next_at_end (m ∷ ms) d e = by (bytes_eq (codes "Next") m.0) refl (next_at_end ms d)
  where
    by : (b : Bool) → bytes_eq (codes "Next") m.0 ≡ b → (has_key (codes "Next") ms ≡ false → value_at (codes "Next") (pairs (ms ++ (codes "Next", d) ∷ [])) ≡ Some d) → value_at (codes "Next") (pairs (m ∷ (ms ++ (codes "Next", d) ∷ []))) ≡ Some d
    by true p rest = absurd (let x = rw p at e in cc)
    by false p rest = rw p (rest (rw p at e))

variable_before : (ms : Members) (d : Data) → value_at (codes "Variable") (pairs (ms ++ (codes "Next", d) ∷ [])) ≡ value_at (codes "Variable") (pairs ms)
variable_before [] d = refl
variable_before (m ∷ ms) d = rw (variable_before ms d) refl

decided_before : (p : List ℕ) (ms : Members) (d x c : Data) → decided p (pairs (ms ++ (codes "Next", d) ∷ [])) x c ≡ decided p (pairs ms) x c
decided_before p [] d x c = refl
decided_before p (m ∷ ms) d x c = rw (decided_before p ms d x c) refl

pub holds_with_next : (ms : Members) (d x c : Data) → holds (dict (pairs (ms ++ (codes "Next", d) ∷ []))) x c ≡ holds (dict (pairs ms)) x c
holds_with_next ms d x c =
    ap (λ (v : Option Data). decided (variable v) (pairs (ms ++ (codes "Next", d) ∷ [])) x c) (variable_before ms d)
    ∙ decided_before (variable (value_at (codes "Variable") (pairs ms))) ms d x c
