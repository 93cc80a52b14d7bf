-- What stands behind the front of a text.
use Rattle.std.proofs.Common.{◌≡◌, ◌≢◌, ℕ, List, [], ◌∷◌, ◌++◌, Bool, true, false, drop, refl, sym, ap, ◌∙◌, eqb, Option, Some, None, MatchOption, option_map, if◌then◌else◌}
use Rattle.std.proofs.lemmas.Bool.{eqb-true}
use Rattle.std.proofs.Common.{eq-eqb}
use Rattle.std.specs.Str.Pattern.{FindsTextPrefix, StripsPrefix}
use denote.Ref.{Bor}
use Rattle.asl_mock_sample.specs.Paths.{stripped}

in_front : (p t : List ℕ) → stripped p (p ++ t) ≡ Some t
in_front [] t = refl
in_front (c ∷ p) t = ap (λ (b : Bool). if b then stripped p (p ++ t) else None) (eq-eqb c c refl) ∙ in_front p t

lacks_by : (c d : ℕ) (p t : List ℕ) (b : Bool) → eqb d c ≡ b → ((rest : List ℕ) → d ∷ t ≢ (c ∷ p) ++ rest) → (((rest : List ℕ) → t ≢ p ++ rest) → stripped p t ≡ None) → (if b then stripped p t else None) ≡ None
lacks_by c d p t false e lacks later = refl
lacks_by c d p t true e lacks later =
    let same : d ≡ c = eqb-true d c e in
    later (λ rest behind. lacks rest (cc (same, behind)))

lacks : (p t : List ℕ) → ((rest : List ℕ) → t ≢ p ++ rest) → stripped p t ≡ None
lacks [] t h = absurd (h t refl)
lacks (c ∷ p) [] h = refl
lacks (c ∷ p) (d ∷ t) h = lacks_by c d p t (eqb d c) refl h (lacks p t)

pub stripped_of : (p t : List ℕ) (r : Option (Bor (List ℕ))) → MatchOption r (FindsTextPrefix p t None) (λ x. StripsPrefix (FindsTextPrefix p) t x.now) → option_map (λ x. x.now) r ≡ stripped p t
stripped_of p t None h = sym (lacks p t h)
stripped_of p t (Some x) h =
    ap Some h.2 ∙ sym (ap (stripped p) h.1.1 ∙ in_front p (drop h.0 t))
