-- The first and the last byte of a text, and the spaces at its ends.
use Rattle.std.proofs.Common.{◌≡◌, ◌<◌, ◌≤◌, ◌+◌, ◌-◌, ◌==◌, ℕ, zero, suc, Bool, true, false, cond, List, [], ◌∷◌, ◌++◌, length, take, drop, get_or, refl, sym, ◌∙◌, ap, arith, length-take, get_or-take}
use Rattle.std.specs.Prelude.{◌&&◌, Option, Some, None, option_map, codes, nat_eq}
use Rattle.std.specs.List.{starts_with}
use Rattle.std.specs.Cmp.Lexicographic.{same_text}
use Rattle.std.proofs.lemmas.Bool.{eq-eqb, ne_eqb, eqb-true}
use Rattle.asl_lint_calls.specs.Cutting.{after_first, before_last, is_empty, without_front, without_end}

-- ---- the first byte

pub first_found : (b : ℕ) (t : List ℕ) → 0 < length t → get_or t 0 0 ≡ b → after_first b t ≡ Some (drop 1 t)
first_found b [] l h = absurd (omega arith)
first_found b (c ∷ cs) l h = let e = eq-eqb c b h in rw e refl

pub first_missing : (b : ℕ) (t : List ℕ) → (0 < length t → get_or t 0 0 ≡ b → ⊥) → after_first b t ≡ None
first_missing b [] h = refl
first_missing b (c ∷ cs) h = let e = ne_eqb c b (h (omega arith)) in rw e refl

-- a space less in front
pub front_more : (t r : List ℕ) → after_first 32 t ≡ Some r → (without_front t ≡ without_front r) × (length r < length t)
front_more [] r h = absurd (cc)
front_more (c ∷ cs) r h = by (c == 32) refl h
  where
    by : (e : Bool) → (c == 32) ≡ e → cond e (Some cs) None ≡ Some r → (cond (c == 32) (without_front cs) (c ∷ cs) ≡ without_front r) × (length r < length (c ∷ cs))
    by true p g = let same : cs ≡ r = cc in (rw p (ap without_front same), omega (arith, ap length same))
    by false p g = absurd (cc)

pub front_done : (t : List ℕ) → after_first 32 t ≡ None → t ≡ without_front t
front_done [] h = refl
front_done (c ∷ cs) h = by (c == 32) refl h
  where
    by : (e : Bool) → (c == 32) ≡ e → cond e (Some cs) None ≡ None → c ∷ cs ≡ cond (c == 32) (without_front cs) (c ∷ cs)
    by true p g = absurd (cc)
    by false p g = rw p refl

-- ---- the last one

pub last_found : (b : ℕ) (t : List ℕ) (n : ℕ) → length t ≡ suc n → get_or t n 0 ≡ b → before_last b t ≡ Some (take n t)
last_found b [] n l h = absurd (omega arith)
last_found b (c ∷ []) zero l h = let e = eq-eqb c b h in rw e refl
last_found b (c ∷ []) (suc n) l h = absurd (omega arith)
last_found b (c ∷ d ∷ cs) zero l h = absurd (omega arith)
last_found b (c ∷ d ∷ cs) (suc n) l h = let rest = last_found b (d ∷ cs) n (omega arith) h in rw rest refl

pub last_missing : (b : ℕ) (t : List ℕ) → ((n : ℕ) → length t ≡ suc n → get_or t n 0 ≡ b → ⊥) → before_last b t ≡ None
last_missing b [] h = refl
last_missing b (c ∷ []) h = let e = ne_eqb c b (h 0 (omega arith)) in rw e refl
last_missing b (c ∷ d ∷ cs) h =
    let rest = last_missing b (d ∷ cs) (λ n l g. h (suc n) (omega arith) g) in
    rw rest refl

-- a space less at the end
end_space : (t : List ℕ) → without_end (t ++ 32 ∷ []) ≡ without_end t
end_space [] = refl
end_space (c ∷ cs) = let rest = end_space cs in rw rest refl

pub last_parts : (b : ℕ) (t r : List ℕ) → before_last b t ≡ Some r → t ≡ r ++ b ∷ []
last_parts b [] r h = absurd (cc)
last_parts b (c ∷ []) r h = by (c == b) refl h
  where
    by : (e : Bool) → (c == b) ≡ e → cond e (Some []) None ≡ Some r → c ∷ [] ≡ r ++ b ∷ []
    by true p g = let same : [] ≡ r = cc in ap (λ (z : ℕ). z ∷ []) (eqb-true c b p) ∙ ap (λ (z : List ℕ). z ++ b ∷ []) same
    by false p g = absurd (cc)
last_parts b (c ∷ d ∷ cs) r h = by (before_last b (d ∷ cs)) h (λ u p. last_parts b (d ∷ cs) u p)
  where
    by : (o : Option (List ℕ)) → option_map (λ (u : List ℕ). c ∷ u) o ≡ Some r → ((u : List ℕ) → o ≡ Some u → d ∷ cs ≡ u ++ b ∷ []) → c ∷ d ∷ cs ≡ r ++ b ∷ []
    by (Some u) g k = let same : c ∷ u ≡ r = cc in ap (λ (z : List ℕ). c ∷ z) (k u refl) ∙ ap (λ (z : List ℕ). z ++ b ∷ []) same
    by None g k = absurd (cc)

length_one_more : (r : List ℕ) → length (r ++ 32 ∷ []) ≡ suc (length r)
length_one_more [] = refl
length_one_more (c ∷ cs) = let rest = length_one_more cs in omega (arith, rest)

pub end_more : (t r : List ℕ) → before_last 32 t ≡ Some r → (without_end t ≡ without_end r) × (length r < length t)
end_more t r h =
    let parts = last_parts 32 t r h in
    (ap without_end parts ∙ end_space r, omega (arith, ap length parts, length_one_more r))

pub end_done : (t : List ℕ) → before_last 32 t ≡ None → t ≡ without_end t
end_done [] h = refl
end_done (c ∷ []) h = by (c == 32) refl h
  where
    by : (e : Bool) → (c == 32) ≡ e → ◌≡◌ {A = Option (List ℕ)} (cond e (Some []) None) None → c ∷ [] ≡ cond ((c == 32) && true) [] (c ∷ [])
    by true p g = absurd (cc)
    by false p g = rw p refl
end_done (c ∷ d ∷ cs) h = by (end_done (d ∷ cs) (none (before_last 32 (d ∷ cs)) h))
  where
    none : (o : Option (List ℕ)) → option_map (λ (u : List ℕ). c ∷ u) o ≡ None → o ≡ None
    none (Some u) g = absurd (cc)
    none None g = refl

    kept : (a b : Bool) → b ≡ false → cond (a && b) [] (c ∷ without_end (d ∷ cs)) ≡ c ∷ without_end (d ∷ cs)
    kept true b e = rw e refl
    kept false b e = refl

    by : d ∷ cs ≡ without_end (d ∷ cs) → c ∷ d ∷ cs ≡ without_end (c ∷ d ∷ cs)
    by rest = ap (λ (z : List ℕ). c ∷ z) rest ∙ sym (kept (c == 32) (is_empty (without_end (d ∷ cs))) (ap is_empty (sym rest)))

-- ---- a word in front

pub word_here : (t u : List ℕ) → u ≡ codes "States." → starts_with nat_eq t u ≡ true → (7 ≤ length t) × (get_or t 6 0 ≡ 46)
word_here t u e h =
    let front : codes "States." ≡ take 7 t = same_text (codes "States.") (take 7 t) (sym (ap (starts_with nat_eq t) (sym e) ∙ h)) in
    (omega (arith, ap length front, length-take 7 t), sym (get_or-take 7 t 6 0 (omega arith)) ∙ ap (λ (z : List ℕ). get_or z 6 0) (sym front))
