-- Texts that are shown piece by piece.
use Rattle.std.proofs.Common.{ℕ, Result, Ok, Err, OnOk, ◌≡◌, List, [], ◌∷◌, ◌++◌, refl, sym, ◌∙◌, ap, append_assoc, append-nil}
use Rattle.std.proofs.lemmas.Grind.{flat_map-append}
use Rattle.std.proofs.lemmas.List.{take-append-drop}
use Rattle.std.specs.List.{flat_map}
use Rattle.std.specs.Prelude.{take, drop, if◌then◌else◌}
use Rattle.std.specs.Result.{is_ok}
use Rattle.asl_text.specs.declared.paint.Paint.{Paint}
use Rattle.asl_text.specs.Painted.{control, Piece, shown_piece, plain_piece, IsPainted, Adds}

-- ---- one behind another

pub joined : (a b x y : List ℕ) → IsPainted a x → IsPainted b y → IsPainted (a ++ b) (x ++ y)
joined a b x y (ps, t, s) (qs, u, v) = (
  ps ++ qs,
  ap (λ (z : List ℕ). z ++ b) t ∙ ap (λ (z : List ℕ). flat_map plain_piece ps ++ z) u ∙ sym (flat_map-append plain_piece ps qs),
  ap (λ (z : List ℕ). z ++ y) s ∙ ap (λ (z : List ℕ). flat_map shown_piece ps ++ z) v ∙ sym (flat_map-append shown_piece ps qs),
)

pub adds_both : (a b x y z : List ℕ) → Adds a x y → Adds b y z → Adds (a ++ b) x z
adds_both a b x y z (s, p, e) (t, q, f) = (s ++ t, joined a b s t p q, f ∙ ap (λ (w : List ℕ). w ++ t) e ∙ append_assoc x s t)

pub adds_none : (x : List ℕ) → Adds [] x x
adds_none x = ([], ([], refl, refl), sym (append-nil x))

one_piece : (p : Paint) (t : List ℕ) → IsPainted t (control p ++ t)
one_piece p t = ((p, t) ∷ [], sym (append-nil t), sym (append-nil (control p ++ t)))

-- ---- where memory lasts

pub piece_added : {T E : Type 0} (r : Result T E) (p : Paint) (t old mid new : List ℕ) → mid ≡ old ++ control p → new ≡ (if is_ok r then mid ++ t else mid) → OnOk r (Adds t old new)
piece_added (Ok v) p t old mid new m n = (control p ++ t, one_piece p t, n ∙ ap (λ (w : List ℕ). w ++ t) m ∙ append_assoc old (control p) t)
piece_added (Err e) p t old mid new m n = tt

pub then_added : {T E : Type 0} (r : Result T E) (a b x y z : List ℕ) → Adds a x y → OnOk r (Adds b y z) → OnOk r (Adds (a ++ b) x z)
then_added (Ok v) a b x y z f s = adds_both a b x y z f s
then_added (Err e) a b x y z f s = tt

pub then_none : {T E : Type 0} (r : Result T E) (a x y z : List ℕ) → Adds a x y → OnOk r (Adds [] y z) → OnOk r (Adds a x z)
then_none (Ok v) a x y z f s = rw (append-nil a) at (adds_both a [] x y z f s)
then_none (Err e) a x y z f s = tt

pub three_added : {T E : Type 0} (r : Result T E) (a b c w x y z v : List ℕ) → Adds a w x → Adds b x y → Adds c y z → OnOk r (Adds [] z v) → OnOk r (Adds (a ++ (b ++ c)) w v)
three_added r a b c w x y z v one two three last = then_none r (a ++ (b ++ c)) w z v (adds_both a (b ++ c) w x z one (adds_both b c x y z two three)) last

pub cut_added : {T E : Type 0} (r : Result T E) (t lead rest state outcome x y : List ℕ) (n m : ℕ) → lead ≡ take n t → rest ≡ drop n t → state ≡ take m rest → outcome ≡ drop m rest → OnOk r (Adds (lead ++ (state ++ outcome)) x y) → OnOk r (Adds t x y)
cut_added (Ok v) t lead rest state outcome x y n m one two three four h =
    let inner : state ++ outcome ≡ rest = ap (λ (z : List ℕ). z ++ outcome) three ∙ ap (λ (z : List ℕ). take m rest ++ z) four ∙ take-append-drop m rest in
    let whole : lead ++ (state ++ outcome) ≡ t = ap (λ (z : List ℕ). lead ++ z) inner ∙ ap (λ (z : List ℕ). z ++ rest) one ∙ ap (λ (z : List ℕ). take n t ++ z) two ∙ take-append-drop n t in
    rw whole at h
cut_added (Err e) t lead rest state outcome x y n m one two three four h = tt

-- ---- line by line

-- so much of a text is shown, and this is left
abbrev pub AreShown : List ℕ → List ℕ → List ℕ → List ℕ → Type 0
AreShown text rest old new = (a : List ℕ) × (text ≡ a ++ rest) × Adds a old new

pub none_shown : (text old : List ℕ) → AreShown text text old old
none_shown text old = ([], refl, adds_none old)

pub line_shown : (text rest line more old mid new : List ℕ) → AreShown text rest old mid → rest ≡ line ++ 10 ∷ more → Adds (line ++ 10 ∷ []) mid new → AreShown text more old new
line_shown text rest line more old mid new (a, is, shown) cut next = (
  a ++ (line ++ 10 ∷ []),
  is ∙ ap (λ (w : List ℕ). a ++ w) (cut ∙ sym (append_assoc line (10 ∷ []) more)) ∙ sym (append_assoc a (line ++ 10 ∷ []) more),
  adds_both a (line ++ 10 ∷ []) old mid new shown next,
)

pub last_shown : {T E : Type 0} (r : Result T E) (text rest old mid new : List ℕ) → AreShown text rest old mid → OnOk r (Adds rest mid new) → OnOk r (Adds text old new)
last_shown (Ok v) text rest old mid new (a, is, shown) last = rw (← is) at (adds_both a rest old mid new shown last)
last_shown (Err e) text rest old mid new h last = tt
