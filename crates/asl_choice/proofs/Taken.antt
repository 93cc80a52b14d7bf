-- What a pattern fits once bytes are taken from the front of it and of a text.
use Rattle.std.proofs.Common.{◌≡◌, ℕ, ◌≤◌, List, [], ◌∷◌, ◌++◌, length, refl, sym, subst, ap, ◌∙◌, append_assoc, length-append, arith}
use Rattle.std.specs.Prelude.{◌↔◌, Bool, true, false, nat_eq, if◌then◌else◌}
use Rattle.std.proofs.lemmas.List.{append_cancel_left}
use Rattle.asl_choice.specs.declared.pattern.Token.{Token}
use Rattle.asl_choice.specs.declared.pattern.Token.TheVariants.{Byte, Star}
use Rattle.asl_choice.specs.Patterns.{backslash, token_of, tokens, escaped, Fits}
use Rattle.asl_choice.specs.private.Taking.{bytes_then, IsStopped, over, star, broken, AreTaken, IsFront}

-- ---- bytes

put_back : (front : List ℕ) (us : List Token) (rest : List ℕ) → Fits us rest → Fits (bytes_then front us) (front ++ rest)
put_back [] us rest fit = fit
put_back (b ∷ bs) us rest fit = (bs ++ rest, refl, put_back bs us rest fit)

taken_away : (front : List ℕ) (us : List Token) (t : List ℕ) → Fits (bytes_then front us) t → (rest : List ℕ) × (t ≡ front ++ rest) × Fits us rest
taken_away [] us t fit = (t, refl, fit)
taken_away (b ∷ bs) us t fit =
    let left = taken_away bs us fit.0 fit.2 in
    (left.0, fit.1 ∙ ap (λ (x : List ℕ). b ∷ x) left.1, left.2)

pub left_fits : (ts us : List Token) (t rest : List ℕ) → AreTaken ts t us rest → Fits ts t → Fits us rest
left_fits ts us t rest a fit =
    let P : List Token → Type 0 = λ xs. Fits xs t in
    let left = taken_away a.front us t (subst P a.tokens fit) in
    subst (Fits us) (append_cancel_left a.front left.0 rest (sym left.1 ∙ a.text)) left.2

pub whole_fits : (ts us : List Token) (t rest : List ℕ) → AreTaken ts t us rest → Fits us rest → Fits ts t
whole_fits ts us t rest a fit =
    let P : List Token → Type 0 = λ xs. Fits xs t in
    subst P (sym a.tokens) (subst (Fits (bytes_then a.front us)) (sym a.text) (put_back a.front us rest fit))

-- ---- one more byte

then_more : (front : List ℕ) (b : ℕ) (us : List Token) → bytes_then (front ++ (b ∷ [])) us ≡ bytes_then front (Byte b ∷ us)
then_more [] b us = refl
then_more (c ∷ front) b us = ap (λ (x : List Token). Byte c ∷ x) (then_more front b us)

pub one_more : (ts us vs : List Token) (t rest left : List ℕ) (b : ℕ) → AreTaken ts t us rest → us ≡ Byte b ∷ vs → rest ≡ b ∷ left → AreTaken ts t vs left
one_more ts us vs t rest left b a e f = record {
  front = a.front ++ (b ∷ []);
  tokens = a.tokens ∙ ap (bytes_then a.front) e ∙ sym (then_more a.front b vs);
  text = a.text ∙ ap (λ (x : List ℕ). a.front ++ x) f ∙ sym (append_assoc a.front (b ∷ []) left);
}

-- ---- a star

-- where a text has two ends, the shorter is the end of the other
end_of : (a b r s : List ℕ) → a ++ r ≡ b ++ s → length b ≤ length a → (x : List ℕ) × (s ≡ x ++ r)
end_of a [] r s e h = (a, sym e)
end_of [] (y ∷ b) r s e h = absurd (omega arith)
end_of (x ∷ a) (y ∷ b) r s e h = end_of a b r s (cc) (omega arith)

more_before : (us : List Token) (x r : List ℕ) → Fits (Star ∷ us) r → Fits (Star ∷ us) (x ++ r)
more_before us x r fit = (x ++ fit.0, fit.1, ap (λ (y : List ℕ). x ++ y) fit.2 ∙ sym (append_assoc x fit.0 fit.1), fit.3)

earlier : (us : List Token) (x r rest : List ℕ) → IsStopped us → (us ≡ [] → rest ≡ []) → rest ≡ x ++ r → Fits us r → Fits us rest
earlier us x r rest (over e) ends split fit =
    let P : List Token → Type 0 = λ ts. Fits ts rest in
    subst P (sym e) (ends e)
earlier us x r rest (star vs e) ends split fit =
    let P : List Token → Type 0 = λ ts. Fits ts rest in
    let Q : List Token → Type 0 = λ ts. Fits ts r in
    subst P (sym e) (subst (Fits (Star ∷ vs)) (sym split) (more_before vs x r (subst Q e fit)))
earlier us x r rest (broken vs e) ends split fit =
    let Q : List Token → Type 0 = λ ts. Fits ts r in
    absurd (subst Q e fit)

-- the leftmost place is as good as any
pub leftmost : (ts us : List Token) (t rest : List ℕ) → IsFront ts t us rest → Fits (Star ∷ ts) t → Fits us rest
leftmost ts us t rest f fit =
    let P : List Token → Type 0 = λ xs. Fits xs fit.1 in
    let a = f.taken in
    let left = taken_away a.front us fit.1 (subst P a.tokens fit.3) in
    let whole : (fit.0 ++ a.front) ++ left.0 ≡ a.front ++ rest = append_assoc fit.0 a.front left.0 ∙ ap (λ (y : List ℕ). fit.0 ++ y) (sym left.1) ∙ sym fit.2 ∙ a.text in
    let split = end_of (fit.0 ++ a.front) a.front left.0 rest whole (omega (arith, length-append fit.0 a.front)) in
    earlier us split.0 left.0 rest f.stopped f.over split.1 left.2

pub at_leftmost : (ts us : List Token) (t rest : List ℕ) → IsFront ts t us rest → Fits (Star ∷ ts) t ↔ Fits us rest
at_leftmost ts us t rest f = (leftmost ts us t rest f, λ fit. ([], t, refl, whole_fits ts us t rest f.taken fit))

beyond : (ts : List Token) (c : ℕ) (t front rest : List ℕ) → (Fits ts (c ∷ t) → ⊥) → c ∷ t ≡ front ++ rest → Fits ts rest → Fits (Star ∷ ts) t
beyond ts c t [] rest off e fit = absurd (off (subst (Fits ts) (sym e) fit))
beyond ts c t (x ∷ front) rest off e fit = (front, rest, cc, fit)

-- where a pattern doesn't fit here, a star before it takes one more byte
pub further : (ts : List Token) (c : ℕ) (t : List ℕ) → (Fits ts (c ∷ t) → ⊥) → Fits (Star ∷ ts) (c ∷ t) → Fits (Star ∷ ts) t
further ts c t off fit = beyond ts c t fit.0 fit.1 off fit.2 fit.3

none_left : (ts : List Token) (front rest : List ℕ) → (Fits ts [] → ⊥) → [] ≡ front ++ rest → Fits ts rest → ⊥
none_left ts [] rest off e fit = off (subst (Fits ts) (sym e) fit)
none_left ts (x ∷ front) rest off e fit = absurd (cc)

pub no_further : (ts : List Token) → (Fits ts [] → ⊥) → Fits (Star ∷ ts) [] → ⊥
no_further ts off fit = none_left ts fit.0 fit.1 off fit.2 fit.3

-- ---- the end

some_token : (b : Bool) (c : ℕ) (cs : List ℕ) → (if b then escaped cs else (token_of c ∷ tokens cs)) ≡ [] → ⊥
some_token true c [] e = absurd (cc)
some_token true c (d ∷ ds) e = absurd (cc)
some_token false c cs e = absurd (cc)

pub no_tokens : (p : List ℕ) → tokens p ≡ [] → p ≡ []
no_tokens [] e = refl
no_tokens (c ∷ cs) e = absurd (some_token (nat_eq c backslash) c cs e)

stops : (p t : List ℕ) → IsStopped (tokens p) → ((us : List Token) → tokens p ≡ Star ∷ us → ⊥) → Fits (tokens p) t → (p ≡ []) × (t ≡ [])
stops p t (over e) none fit =
    let P : List Token → Type 0 = λ ts. Fits ts t in
    (no_tokens p e, subst P e fit)
stops p t (star us e) none fit = absurd (none us e)
stops p t (broken us e) none fit =
    let P : List Token → Type 0 = λ ts. Fits ts t in
    absurd (subst P e fit)

-- a pattern that goes on with neither a byte nor a star fits where both are over
pub ends : (p t : List ℕ) → IsStopped (tokens p) → ((us : List Token) → tokens p ≡ Star ∷ us → ⊥) → Fits (tokens p) t ↔ (p ≡ []) × (t ≡ [])
ends p t stopped none = (stops p t stopped none, λ both. let P : List ℕ → Type 0 = λ q. Fits (tokens q) t in subst P (sym both.0) both.1)

-- ---- steps of loops

pub furthest : (ts : List Token) (c : ℕ) (t rest whole : List ℕ) → (Fits (Star ∷ ts) whole ↔ Fits (Star ∷ ts) t) → t ≡ c ∷ rest → (Fits ts t → ⊥) → Fits (Star ∷ ts) whole ↔ Fits (Star ∷ ts) rest
furthest ts c t rest whole same e off =
    let here : Fits ts (c ∷ rest) → ⊥ = λ fit. off (subst (Fits ts) (sym e) fit) in (
      λ fit. further ts c rest here (subst (Fits (Star ∷ ts)) e (same.0 fit)),
      λ fit. same.1 (subst (Fits (Star ∷ ts)) (sym e) (more_before ts (c ∷ []) rest fit)),
    )

pub starred : (whole ts us vs : List Token) (text t rest : List ℕ) → (Fits whole text ↔ Fits ts t) → ts ≡ Star ∷ us → (Fits (Star ∷ us) t ↔ Fits vs rest) → Fits whole text ↔ Fits vs rest
starred whole ts us vs text t rest same e next =
    let P : List Token → Type 0 = λ xs. Fits xs t in
    (λ fit. next.0 (subst P e (same.0 fit)), λ fit. same.1 (subst P (sym e) (next.1 fit)))

pub nowhere : (ts : List Token) (t : List ℕ) → length t ≡ 0 → (Fits ts t → ⊥) → Fits (Star ∷ ts) t → ⊥
nowhere ts [] e off fit = no_further ts off fit
nowhere ts (x ∷ t) e off fit = absurd (omega (arith, e))
