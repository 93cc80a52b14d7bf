-- The lines of a text.
use Rattle.std.proofs.Common.{◌≡◌, ℕ, suc, ◌+◌, ◌-◌, ◌≤◌, add_assoc, append_assoc, zero-add, Bool, true, false, cond, List, [], ◌∷◌, ◌++◌, length, drop, refl, sym, ap, ◌∙◌, arith, length-append}
use Rattle.std.specs.Prelude.{not, ◌||◌, ◌&&◌, reverse, if◌then◌else◌}
use Rattle.std.specs.List.{after_last, suffix_len, prefix_len, list_any}
use Rattle.std.proofs.Math.Seq.{drop-append-add}
use Rattle.std.proofs.Math.Dec.{eqb}
use Rattle.std.proofs.lemmas.Bool.{eq-eqb}
use Rattle.std.proofs.lemmas.List.{reverse-append, length-reverse}
use Rattle.std.proofs.lemmas.List.Folds.{prefix_len-append}
use Rattle.std.proofs.lemmas.List.Sums.{suffix_len-le-length}
use Rattle.asl_lsp_positions.specs.declared.position.Encoding.{Encoding}
use Rattle.asl_lsp_positions.specs.declared.position.Position.{Position}
use Rattle.asl_lsp_positions.specs.Positions.{is_feed, is_return, is_line_end, ends_here, ends_behind, line_ends, width, position}
use Rattle.asl_lsp_positions.specs.Lines.{LineEnd, feed, return, return_feed, end_text, Line, joined, begins_with_feed, EndsSo, AreLines}
use Rattle.asl_lsp_positions.specs.private.Places.{return_behind}

-- ---- tests and sums

neither : (a b : Bool) → (a || b) ≡ false → (a ≡ false) × (b ≡ false)
neither false false h = (refl, refl)
neither true b h = absurd (cc)
neither false true h = absurd (cc)

zero_sum : (a b : ℕ) → a ≡ 0 → b ≡ 0 → a + b ≡ 0
zero_sum a b h k = omega arith

sum_is : (a b n : ℕ) → a ≡ n → b ≡ 1 → a + b ≡ suc n
sum_is a b n h k = omega arith

-- ---- what stands behind the last line end

-- up to an element that doesn't pass
stops : {X : Type 0} (q : X → Bool) (s r : List X) (x : X) → q x ≡ false → prefix_len q (s ++ x ∷ r) ≡ prefix_len q s
stops q [] r x h = ap (λ (b : Bool). cond b (1 + prefix_len q r) 0) h
stops q (y ∷ s) r x h = ap (λ (n : ℕ). cond (q y) (1 + n) 0) (stops q s r x h)

backwards : {X : Type 0} (a b : List X) (x : X) → reverse (a ++ x ∷ b) ≡ reverse b ++ x ∷ reverse a
backwards a b x = reverse-append a (x ∷ b) ∙ ap (λ (s : List _). s ++ reverse a) (reverse-append (x ∷ []) b) ∙ append_assoc (reverse b) (x ∷ []) (reverse a)

suffix_stops : {X : Type 0} (q : X → Bool) (a b : List X) (x : X) → q x ≡ false → suffix_len q (a ++ x ∷ b) ≡ suffix_len q b
suffix_stops q a b x h = ap (prefix_len q) (backwards a b x) ∙ stops q (reverse b) (reverse a) x h

after_one : {X : Type 0} (a b : List X) (x : X) (k : ℕ) → k ≤ length b → drop (length (a ++ x ∷ b) - k) (a ++ x ∷ b) ≡ drop (length b - k) b
after_one a b x k le =
    let n : length (a ++ x ∷ b) - k ≡ length a + suc (length b - k) = omega (arith, length-append a (x ∷ b)) in
    ap (λ (m : ℕ). drop m (a ++ x ∷ b)) n ∙ drop-append-add a (x ∷ b) (suc (length b - k))

after_end : {X : Type 0} (p : X → Bool) (a b : List X) (x : X) → p x ≡ true → after_last p (a ++ x ∷ b) ≡ after_last p b
after_end p a b x h =
    let q = λ (y : _). not (p y) in
    ap (λ (k : ℕ). drop (length (a ++ x ∷ b) - k) (a ++ x ∷ b)) (suffix_stops q a b x (ap not h))
    ∙ after_one a b x (suffix_len q b) (suffix_len-le-length q b)

-- every element passes
all_pass : {X : Type 0} (p : X → Bool) (t : List X) → list_any p t ≡ false → suffix_len (λ x. not (p x)) t ≡ length t
all_pass p [] h = refl
all_pass {X = X} p (x ∷ xs) h =
    let q : X → Bool = λ (y : X). not (p y) in
    let parts = neither (p x) (list_any p xs) h in
    let rest : suffix_len q xs ≡ length xs = all_pass p xs parts.1 in
    let turned : length (reverse xs) ≡ length xs = length-reverse xs in
    let here : prefix_len q (x ∷ []) ≡ 1 = ap (λ (b : Bool). cond (not b) (1 + 0) 0) parts.0 in
    let whole : eqb (prefix_len q (reverse xs)) (length (reverse xs)) ≡ true = eq-eqb (prefix_len q (reverse xs)) (length (reverse xs)) (rest ∙ sym turned) in
    ap (prefix_len q) (reverse-append (x ∷ []) xs)
    ∙ prefix_len-append q (reverse xs) (x ∷ [])
    ∙ ap (λ (b : Bool). cond b (length (reverse xs) + prefix_len q (x ∷ [])) (prefix_len q (reverse xs))) whole
    ∙ sum_is (length (reverse xs)) (prefix_len q (x ∷ [])) (length xs) turned here

all_after : {X : Type 0} (p : X → Bool) (t : List X) → list_any p t ≡ false → after_last p t ≡ t
all_after {X = X} p t h =
    let k : length t - suffix_len (λ (x : X). not (p x)) t ≡ 0 = let e = all_pass p t h in omega arith in
    ap (λ (n : ℕ). drop n t) k

after_text : (e : LineEnd) (t rest : List ℕ) → after_last is_line_end (t ++ (end_text e ++ rest)) ≡ after_last is_line_end rest
after_text feed t rest = after_end is_line_end t rest 10 refl
after_text return t rest = after_end is_line_end t rest 13 refl
after_text return_feed t rest = after_end is_line_end t (10 ∷ rest) 13 refl ∙ after_end is_line_end [] rest 10 refl

rest_is : (ls : List Line) (rest : List ℕ) → AreLines ls rest → after_last is_line_end (joined ls rest) ≡ rest
rest_is [] rest h = all_after is_line_end rest h
rest_is (l ∷ ls) rest h = after_text l.1 l.0 (joined ls rest) ∙ rest_is ls rest h.2

-- ---- how many lines end

-- by whether it is a line feed, whether it is a carriage return, and whether one stands before it
abbrev ends_by : Bool → Bool → Bool → ℕ
ends_by f r b = if r || (f && not b) then 1 else 0

none : (f r : Bool) → (f || r) ≡ false → (r ≡ false) × (ends_by f r false ≡ 0)
none false false h = (refl, refl)
none true r h = absurd (cc)
none false true h = absurd (cc)

ends_append : (r : Bool) (a b : List ℕ) → ends_behind r (a ++ b) ≡ ends_behind r a + ends_behind (return_behind r a) b
ends_append r [] b = omega arith
ends_append r (x ∷ xs) b =
    ap (λ (n : ℕ). ends_here r x + n) (ends_append (is_return x) xs b)
    ∙ sym (add_assoc (ends_here r x) (ends_behind (is_return x) xs) (ends_behind (return_behind (is_return x) xs) b))

one_line : (t : List ℕ) → list_any is_line_end t ≡ false → (ends_behind false t ≡ 0) × (return_behind false t ≡ false)
one_line [] h = (refl, refl)
one_line (x ∷ xs) h =
    let parts = neither (is_line_end x) (list_any is_line_end xs) h in
    let here = none (is_feed x) (is_return x) parts.0 in
    let rest = one_line xs parts.1 in
    let same : ends_behind (is_return x) xs ≡ ends_behind false xs = ap (λ (b : Bool). ends_behind b xs) here.0 in
    (zero_sum (ends_here false x) (ends_behind (is_return x) xs) here.1 (same ∙ rest.0), ap (λ (b : Bool). return_behind b xs) here.0 ∙ rest.1)

no_feed : (f r : Bool) → f ≡ false → ends_by f r true ≡ ends_by f r false
no_feed false r h = refl
no_feed true r h = absurd (cc)

without_feed : (t : List ℕ) → begins_with_feed t ≡ false → ends_behind true t ≡ ends_behind false t
without_feed [] h = refl
without_feed (c ∷ cs) h = ap (λ (n : ℕ). n + ends_behind (is_return c) cs) (no_feed (is_feed c) (is_return c) h)

end_counts : (e : LineEnd) (t : List ℕ) (n : ℕ) → EndsSo e t → ends_behind false t ≡ n → ends_behind false (end_text e ++ t) ≡ suc n
end_counts feed t n h k = let l : ends_behind false (10 ∷ t) ≡ 1 + ends_behind false t = refl in omega arith
end_counts return t n h k =
    let l : ends_behind false (13 ∷ t) ≡ 1 + ends_behind true t = refl in let m = without_feed t h in omega arith
end_counts return_feed t n h k = let l : ends_behind false (13 ∷ 10 ∷ t) ≡ 1 + (0 + ends_behind false t) = refl in omega arith

lines_are : (ls : List Line) (rest : List ℕ) → AreLines ls rest → line_ends (joined ls rest) ≡ length ls
lines_are [] rest h = (one_line rest h).0
lines_are (l ∷ ls) rest h =
    let first = one_line l.0 h.0 in
    let tail = end_text l.1 ++ joined ls rest in
    ends_append false l.0 tail
    ∙ ap (λ (n : ℕ). n + ends_behind (return_behind false l.0) tail) first.0
    ∙ ap (λ (b : Bool). 0 + ends_behind b tail) first.1
    ∙ ap (λ (n : ℕ). 0 + n) (end_counts l.1 (joined ls rest) (length ls) h.1 (lines_are ls rest h.2))
    ∙ zero-add (suc (length ls))

-- ---- both

abbrev at : ℕ → ℕ → Position
at n w = record { line = n; character = w }

pub position_is : (e : Encoding) (ls : List Line) (rest : List ℕ) → AreLines ls rest → position e (joined ls rest) ≡ record { line = length ls; character = width e rest }
position_is e ls rest h =
    ap (λ (n : ℕ). at n (width e (after_last is_line_end (joined ls rest)))) (lines_are ls rest h)
    ∙ ap (λ (t : List ℕ). at (length ls) (width e t)) (rest_is ls rest h)
