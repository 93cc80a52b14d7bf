-- Offsets at the end of a text.
use Rattle.std.proofs.Common.{◌≡◌, ◌<◌, ◌+◌, ◌*◌, ◌⊎◌, inl, inr, ℕ, List, [], ◌∷◌, ◌++◌, ℤ, pos, neg_ℤ, sym, ◌∙◌, ap, arith, append_assoc, refl}
use Rattle.std.specs.Prelude.{codes}
use Rattle.std.proofs.lemmas.List.{append-nil}
use Rattle.asl_time.specs.Stamp.{digits}
use Rattle.asl_time.specs.Timestamp.{IsOffset, utc, plus, minus, IsNumericOffset}
use Rattle.asl_time.proofs.Parts.{marked, marked_one}

signed_opens : (sign hour minute : ℕ) → (sign ∷ []) ++ digits 2 hour ++ codes ":" ++ digits 2 minute ≡ marked sign hour (marked 58 minute [])
signed_opens sign hour minute = simp (append_assoc, append-nil)

-- an offset has the hour that stands first, and its minute follows
pub after_signed_hour : (t x : List ℕ) (sign hour minutes : ℕ) → hour < 100 → t ≡ marked sign hour x → (s : IsNumericOffset (sign ∷ []) minutes t) → (s.hour ≡ hour) × (x ≡ marked 58 s.minute [])
after_signed_hour t x sign hour minutes l e s =
    let m = s.hour_in in
    marked_one sign hour s.hour x (marked 58 s.minute []) t l (omega arith) e (s.text ∙ signed_opens sign s.hour s.minute)

-- and nothing else
pub signed_parts : (t x y : List ℕ) (sign hour minute minutes : ℕ) → hour < 100 → minute < 100 → t ≡ marked sign hour x → x ≡ marked 58 minute y → IsNumericOffset (sign ∷ []) minutes t → (hour < 24) × (minute < 60) × (y ≡ []) × (minutes ≡ hour * 60 + minute)
signed_parts t x y sign hour minute minutes l k e f s =
    let h = after_signed_hour t x sign hour minutes l e s in
    let j = s.minute_in in
    let m = marked_one 58 minute s.minute y [] x k (omega arith) f h.1 in
    let hour_is : s.hour ≡ hour = h.0 in
    let minute_is : s.minute ≡ minute = m.0 in
    (omega arith, omega arith, m.1, omega arith)

pub no_offset : (t : List ℕ) (ahead : ℤ) → (t ≡ codes "Z" → ⊥) → ((n : ℕ) → IsNumericOffset (codes "+") n t → ⊥) → ((n : ℕ) → IsNumericOffset (codes "-") n t → ⊥) → IsOffset ahead t → ⊥
no_offset t ahead z p m (utc e a) = z e
no_offset t ahead z p m (plus n s a) = p n s
no_offset t ahead z p m (minus n s a) = m n s

-- what an offset begins with
pub offset_opens : (ahead : ℤ) (t : List ℕ) → IsOffset ahead t → (more : List ℕ) × ((t ≡ 90 ∷ more) ⊎ ((t ≡ 43 ∷ more) ⊎ (t ≡ 45 ∷ more)))
offset_opens ahead t (utc e a) = ([], inl e)
offset_opens ahead t (plus n s a) = (digits 2 s.hour ++ marked 58 s.minute [], inr (inl (s.text ∙ signed_opens 43 s.hour s.minute)))
offset_opens ahead t (minus n s a) = (digits 2 s.hour ++ marked 58 s.minute [], inr (inr (s.text ∙ signed_opens 45 s.hour s.minute)))

signed_one : (t : List ℕ) (sign m n : ℕ) → IsNumericOffset (sign ∷ []) m t → IsNumericOffset (sign ∷ []) n t → m ≡ n
signed_one t sign m n a b =
    let l = a.hour_in in
    let k = a.minute_in in
    let p = signed_parts t (marked 58 a.minute []) [] sign a.hour a.minute n (omega arith) (omega arith) (a.text ∙ signed_opens sign a.hour a.minute) refl b in
    a.sum ∙ sym p.3

-- a text has one first byte
apart : (a b : ℕ) (x y t : List ℕ) → (a ≡ b → ⊥) → t ≡ a ∷ x → t ≡ b ∷ y → ⊥
apart a b x y t h e f =
    let first : a ≡ b = cc in
    h first

opens : (sign n : ℕ) (t : List ℕ) (s : IsNumericOffset (sign ∷ []) n t) → t ≡ marked sign s.hour (marked 58 s.minute [])
opens sign n t s = s.text ∙ signed_opens sign s.hour s.minute

-- two offsets that a text could be are one
pub offset_one : (a b : ℤ) (t : List ℕ) → IsOffset a t → IsOffset b t → a ≡ b
offset_one a b t (utc e p) (utc f q) = p ∙ sym q
offset_one a b t (utc e p) (plus n s q) = absurd (apart 90 43 _ _ t (λ e. omega arith) e (opens 43 n t s))
offset_one a b t (utc e p) (minus n s q) = absurd (apart 90 45 _ _ t (λ e. omega arith) e (opens 45 n t s))
offset_one a b t (plus m r p) (utc f q) = absurd (apart 43 90 _ _ t (λ e. omega arith) (opens 43 m t r) f)
offset_one a b t (plus m r p) (plus n s q) = p ∙ ap pos (signed_one t 43 m n r s) ∙ sym q
offset_one a b t (plus m r p) (minus n s q) = absurd (apart 43 45 _ _ t (λ e. omega arith) (opens 43 m t r) (opens 45 n t s))
offset_one a b t (minus m r p) (utc f q) = absurd (apart 45 90 _ _ t (λ e. omega arith) (opens 45 m t r) f)
offset_one a b t (minus m r p) (plus n s q) = absurd (apart 45 43 _ _ t (λ e. omega arith) (opens 45 m t r) (opens 43 n t s))
offset_one a b t (minus m r p) (minus n s q) = p ∙ ap (λ n. neg_ℤ (pos n)) (signed_one t 45 m n r s) ∙ sym q
