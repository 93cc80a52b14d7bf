-- Texts that are cut at a byte.
use Rattle.std.proofs.Common.{◌≡◌, ◌<◌, ℕ, List, Bool, true, false, length, sym, ap, ap₂, ◌∙◌, eqb, Option, Some, None, MatchOption, option_map, ltb, arith, if◌then◌else◌}
use Rattle.std.proofs.lemmas.Bool.{lt-ltb}
use Rattle.std.proofs.lemmas.Grind.{common_steps}
use Rattle.std.specs.List.{position_or_len, before_first, after_first}
use denote.Ref.{Bor}
use Rattle.asl_mock_sample.specs.Texts.{cut}

same_not_less : (n : ℕ) → ltb n n ≡ false
same_not_less n = grind (arith, common_steps)

pub cut_of : (c : ℕ) (t : List ℕ) (r : Option (Bor (List ℕ) × Bor (List ℕ)))
    → MatchOption r (position_or_len (λ b. eqb b c) t ≡ length t) (λ x. (position_or_len (λ b. eqb b c) t < length t) × (x.0.now ≡ before_first (λ b. eqb b c) t) × (x.1.now ≡ after_first (λ b. eqb b c) t))
    → option_map (λ x. (x.0.now, x.1.now)) r ≡ cut c t
cut_of c t None e =
    let no : ltb (position_or_len (λ b. eqb b c) t) (length t) ≡ false = ap (λ (n : ℕ). ltb n (length t)) e ∙ same_not_less (length t) in
    sym (ap (λ (b : Bool). if b then Some (before_first (λ b. eqb b c) t, after_first (λ b. eqb b c) t) else None) no)
cut_of c t (Some x) h =
    let yes : ltb (position_or_len (λ b. eqb b c) t) (length t) ≡ true = lt-ltb _ _ h.0 in
    ap₂ (λ (f g : List ℕ). Some (f, g)) h.1 h.2 ∙ sym (ap (λ (b : Bool). if b then Some (before_first (λ b. eqb b c) t, after_first (λ b. eqb b c) t) else None) yes)
