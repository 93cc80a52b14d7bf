-- An input has one reading.
use Rattle.std.proofs.Common.{◌≡◌, ℕ, ◌≤◌, ◌<◌, List, [], ◌∷◌, ◌++◌, length, refl, sym, ap, subst, ◌∙◌, ◌⊎◌, inl, inr, append_assoc, length-append, arith}
use Rattle.std.proofs.lemmas.List.{append-nil, append_cancel_left}
use Rattle.asl_base_protocol.specs.declared.item.Item.{Item}
use Rattle.asl_base_protocol.specs.declared.item.Item.TheVariants.{Content, BadHeader, TooLong}
use Rattle.asl_base_protocol.specs.declared.said.Said.{Said}
use Rattle.asl_base_protocol.specs.declared.said.Said.TheVariants.{Nothing, Length, Fault}
use Rattle.asl_base_protocol.specs.Fields.{said, IsNoLength}
use Rattle.asl_base_protocol.specs.Grammar.{longest_header, header_text, IsHeading, IsHeaded, IsBody, IsPartOfBody, IsOverlong, IsText, IsUnfinished, Reads}
use Rattle.asl_base_protocol.proofs.Cutting.{same_header, not_heading}

-- fronts of one list: of the same length, or one a front of the other
same_front : (a b x y : List ℕ) → length a ≡ length b → a ++ x ≡ b ++ y → a ≡ b
same_front [] [] x y n e = refl
same_front [] (d ∷ ds) x y n e = absurd (omega (arith, n))
same_front (c ∷ cs) [] x y n e = absurd (omega (arith, n))
same_front (c ∷ cs) (d ∷ ds) x y n e =
    let heads : c ≡ d = cc in
    let tails : cs ++ x ≡ ds ++ y = cc in
    let fewer : length cs ≡ length ds = omega (arith, n) in
    ap (λ (z : ℕ). z ∷ cs) heads ∙ ap (λ (zs : List ℕ). d ∷ zs) (same_front cs ds x y fewer tails)

front_of : (a b x y : List ℕ) → length a ≤ length b → a ++ x ≡ b ++ y → (z : List ℕ) × (b ≡ a ++ z)
front_of [] b x y n e = (b, refl)
front_of (c ∷ cs) [] x y n e = absurd (omega (arith, n))
front_of (c ∷ cs) (d ∷ ds) x y n e =
    let heads : d ≡ c = cc in
    let tails : cs ++ x ≡ ds ++ y = cc in
    let fewer : length cs ≤ length ds = omega (arith, n) in
    let f = front_of cs ds x y fewer tails in
    (f.0, ap (λ (z : ℕ). z ∷ ds) heads ∙ ap (λ (zs : List ℕ). c ∷ zs) f.1)

-- ---- items

text_ways : (i : Item) (t : List ℕ) → IsText i t → IsHeaded (IsBody i) t ⊎ (IsOverlong t × (i ≡ BadHeader))
text_ways (Content b) t h = inl h
text_ways BadHeader t h = elim h [ inl a ↦ inl a | inr b ↦ inr (b, refl) ]
text_ways (TooLong n) t h = inl h

pub record SameItem (i j : Item) (x y : List ℕ) : Type 0 where
  pub item : i ≡ j
  pub rest : x ≡ y

length_is : (m n : ℕ) → Length m ≡ Length n → m ≡ n
length_is m n e = cc

said_length : (s : Said) (n : ℕ) → IsNoLength s → s ≡ Length n → ⊥
said_length Nothing n h e = cc
said_length (Length m) n h e = h
said_length Fault n h e = cc

body_rest : (b c x y : List ℕ) → length b ≡ length c → b ++ x ≡ c ++ y → x ≡ y
body_rest b c x y n e =
    let same = same_front b c x y n e in
    append_cancel_left c x y (ap (λ (z : List ℕ). z ++ x) (sym same) ∙ e)

-- behind one header part
same_body : (i j : Item) (s : Said) (b c x y : List ℕ) → IsBody i s b → IsBody j s c → b ++ x ≡ c ++ y → SameItem i j x y
same_body (Content d) (Content f) s b c x y h g e =
    let n : length d ≡ length f = length_is (length d) (length f) (sym h.0 ∙ g.0) in
    let m : length b ≡ length c = omega (arith, ap length h.2, ap length g.2, n) in
    let same : b ≡ c = same_front b c x y m e in
    record { item = ap Content (sym h.2 ∙ same ∙ g.2); rest = body_rest b c x y m e }
same_body (Content d) BadHeader s b c x y h g e = absurd (said_length s (length d) g.0 h.0)
same_body (Content d) (TooLong n) s b c x y h g e =
    let m : length d ≡ n = length_is (length d) n (sym h.0 ∙ g.0) in
    absurd (omega (arith, h.1, g.1, m))
same_body BadHeader (Content f) s b c x y h g e = absurd (said_length s (length f) h.0 g.0)
same_body BadHeader BadHeader s b c x y h g e =
    record { item = refl; rest = ap (λ (z : List ℕ). z ++ x) (sym h.1) ∙ e ∙ ap (λ (z : List ℕ). z ++ y) g.1 }
same_body BadHeader (TooLong n) s b c x y h g e = absurd (said_length s n h.0 g.0)
same_body (TooLong n) (Content f) s b c x y h g e =
    let m : n ≡ length f = length_is n (length f) (sym h.0 ∙ g.0) in
    absurd (omega (arith, h.1, g.1, m))
same_body (TooLong n) BadHeader s b c x y h g e = absurd (said_length s n g.0 h.0)
same_body (TooLong n) (TooLong m) s b c x y h g e =
    let k : n ≡ m = length_is n m (sym h.0 ∙ g.0) in
    let l : length b ≡ length c = omega (arith, h.2, g.2, k) in
    record { item = ap TooLong k; rest = body_rest b c x y l e }

same_headed : (i j : Item) (t u x y : List ℕ) → IsHeaded (IsBody i) t → IsHeaded (IsBody j) u → t ++ x ≡ u ++ y → SameItem i j x y
same_headed i j t u x y h g e =
    let left : header_text h.lines ++ (h.body ++ x) ≡ t ++ x = sym (ap (λ (z : List ℕ). z ++ x) h.parts ∙ append_assoc (header_text h.lines) h.body x) in
    let right : u ++ y ≡ header_text g.lines ++ (g.body ++ y) = ap (λ (z : List ℕ). z ++ y) g.parts ∙ append_assoc (header_text g.lines) g.body y in
    let s = same_header h.lines g.lines (h.body ++ x) (g.body ++ y) h.lines_are g.lines_are (left ∙ e ∙ right) in
    same_body i j (said g.lines) h.body g.body x y (subst (λ (ls : List (List ℕ)). IsBody i (said ls) h.body) s.lines h.body_is) g.body_is s.rest

-- a header part that has ended in time isn't overlong
ended_or_not : (P : Said → List ℕ → Type 0) (t u x y : List ℕ) → IsHeaded P t → IsOverlong u → t ++ x ≡ u ++ y → ⊥
ended_or_not P t u x y h (g, n) e =
    let left : header_text h.lines ++ (h.body ++ x) ≡ t ++ x = sym (ap (λ (z : List ℕ). z ++ x) h.parts ∙ append_assoc (header_text h.lines) h.body x) in
    let within : length (header_text h.lines) ≤ length u = omega (arith, h.short, n) in
    let f = front_of (header_text h.lines) u (h.body ++ x) y within (left ∙ e) in
    not_heading h.lines g.lines f.0 g.line h.lines_are g.lines_are g.line_is (sym f.1 ∙ g.parts)

same_overlong : (i j : Item) (t u x y : List ℕ) → IsOverlong t × (i ≡ BadHeader) → IsOverlong u × (j ≡ BadHeader) → t ++ x ≡ u ++ y → SameItem i j x y
same_overlong i j t u x y (h, p) (g, q) e =
    let n : length t ≡ length u = omega (arith, h.1, g.1) in
    record { item = p ∙ sym q; rest = body_rest t u x y n e }

same_item : (i j : Item) (t u x y : List ℕ) → IsText i t → IsText j u → t ++ x ≡ u ++ y → SameItem i j x y
same_item i j t u x y h g e =
    elim (text_ways i t h) [
      | inl a ↦ elim (text_ways j u g) [ inl b ↦ same_headed i j t u x y a b e | inr b ↦ absurd (ended_or_not (IsBody i) t u x y a b.0 e) ]
      | inr a ↦ elim (text_ways j u g) [ inl b ↦ absurd (ended_or_not (IsBody j) u t y x b a.0 (sym e)) | inr b ↦ same_overlong i j t u x y a b e ]
    ]

-- ---- the rest

-- an item isn't a part of another one
body_or_part : (i : Item) (s : Said) (b c x : List ℕ) → IsBody i s b → IsPartOfBody s c → b ++ x ≡ c → ⊥
body_or_part (Content d) s b c x h g e =
    let m : length d ≡ g.0 = length_is (length d) g.0 (sym h.0 ∙ g.1) in
    omega (arith, m, g.2, ap length e, length-append b x, ap length h.2)
body_or_part BadHeader s b c x h g e = said_length s g.0 h.0 g.1
body_or_part (TooLong n) s b c x h g e =
    let m : n ≡ g.0 = length_is n g.0 (sym h.0 ∙ g.1) in
    omega (arith, m, g.2, ap length e, length-append b x, h.2)

headed_or_part : (i : Item) (t x r : List ℕ) → IsHeaded (IsBody i) t → IsHeaded IsPartOfBody r → t ++ x ≡ r → ⊥
headed_or_part i t x r h g e =
    let left : header_text h.lines ++ (h.body ++ x) ≡ t ++ x = sym (ap (λ (z : List ℕ). z ++ x) h.parts ∙ append_assoc (header_text h.lines) h.body x) in
    let s = same_header h.lines g.lines (h.body ++ x) g.body h.lines_are g.lines_are (left ∙ e ∙ g.parts) in
    body_or_part i (said g.lines) h.body g.body x (subst (λ (ls : List (List ℕ)). IsBody i (said ls) h.body) s.lines h.body_is) g.body_is s.rest

headed_or_heading : (i : Item) (t x r : List ℕ) → IsHeaded (IsBody i) t → IsHeading r → t ++ x ≡ r → ⊥
headed_or_heading i t x r h g e =
    let left : header_text h.lines ++ (h.body ++ x) ≡ t ++ x = sym (ap (λ (z : List ℕ). z ++ x) h.parts ∙ append_assoc (header_text h.lines) h.body x) in
    not_heading h.lines g.lines (h.body ++ x) g.line h.lines_are g.lines_are g.line_is (left ∙ e ∙ g.parts)

overlong_or_part : (t x r : List ℕ) → IsOverlong t → IsHeaded IsPartOfBody r → t ++ x ≡ r → ⊥
overlong_or_part t x r h g e = ended_or_not IsPartOfBody r t [] x g h (append-nil r ∙ sym e)

overlong_or_heading : (t x r : List ℕ) → IsOverlong t → length r < longest_header → t ++ x ≡ r → ⊥
overlong_or_heading t x r h n e = omega (arith, h.1, n, ap length e, length-append t x)

not_unfinished : (i : Item) (t x r : List ℕ) → IsText i t → IsUnfinished r → t ++ x ≡ r → ⊥
not_unfinished i t x r h g e =
    elim (text_ways i t h) [
      | inl a ↦ elim g [ inl b ↦ headed_or_heading i t x r a b.0 e | inr b ↦ headed_or_part i t x r a b e ]
      | inr a ↦ elim g [ inl b ↦ overlong_or_heading t x r a.0 b.1 e | inr b ↦ overlong_or_part t x r a.0 b e ]
    ]

pub one_reading : (is js : List Item) (r s input : List ℕ) → Reads is r input → Reads js s input → (is ≡ js) × (r ≡ s)
one_reading [] [] r s input h g = (refl, sym h.0 ∙ g.0)
one_reading [] (j ∷ js) r s input h (text, more, e, g, behind) = absurd (not_unfinished j text more r g h.1 (sym e ∙ h.0))
one_reading (i ∷ is) [] r s input (text, more, e, h, behind) g = absurd (not_unfinished i text more s h g.1 (sym e ∙ g.0))
one_reading (i ∷ is) (j ∷ js) r s input (text, more, e, h, behind) (text', more', f, g, behind') =
    let same = same_item i j text text' more more' h g (sym e ∙ f) in
    let others = one_reading is js r s more' (subst (Reads is r) same.rest behind) behind' in
    (ap (λ (k : Item). k ∷ is) same.item ∙ ap (λ (ks : List Item). j ∷ ks) others.0, others.1)
