-- Where a header part ends: an input has one.
use Rattle.std.proofs.Common.{◌≡◌, ℕ, ◌==◌, ◌&&◌, cond, Bool, true, false, List, [], ◌∷◌, ◌++◌, refl, sym, ap, ◌∙◌, append_assoc}
use Rattle.std.specs.Prelude.{Option, Some, None}
use Rattle.std.proofs.lemmas.List.{append_cancel_right}
use Rattle.asl_base_protocol.specs.Grammar.{crlf, has_crlf, IsLine, AreLines, lines_text, header_text}
use Rattle.asl_base_protocol.proofs.Ends.{first_false, second_false}

-- what stands before the LF behind the first CR, and what stands behind it
abbrev with_front : ℕ → Option (List ℕ × List ℕ) → Option (List ℕ × List ℕ)
with_front c None = None
with_front c (Some p) = Some (c ∷ p.0, p.1)

abbrev cut : Bool → List ℕ → Option (List ℕ × List ℕ)
cut b [] = None
cut b (c ∷ cs) = cond (b && (c == 10)) (Some ([], cs)) (with_front c (cut (c == 13) cs))

cut_at : (b : Bool) (l x : List ℕ) → has_crlf b l ≡ false → cut b (l ++ (13 ∷ 10 ∷ x)) ≡ Some (l ++ 13 ∷ [], x)
cut_at true [] x h = refl
cut_at false [] x h = refl
cut_at b (c ∷ cs) x h =
    let e : (b && (c == 10)) ≡ false = first_false (b && (c == 10)) (has_crlf (c == 13) cs) h in
    rw e (ap (with_front c) (cut_at (c == 13) cs x (second_false (b && (c == 10)) (has_crlf (c == 13) cs) h)))

not_cut : (b : Bool) (l : List ℕ) → has_crlf b l ≡ false → cut b l ≡ None
not_cut b [] h = refl
not_cut b (c ∷ cs) h =
    let e : (b && (c == 10)) ≡ false = first_false (b && (c == 10)) (has_crlf (c == 13) cs) h in
    rw e (ap (with_front c) (not_cut (c == 13) cs (second_false (b && (c == 10)) (has_crlf (c == 13) cs) h)))

-- the first lines are one
record SameLine (l m x y : List ℕ) : Type 0 where
  pub line : l ≡ m
  pub rest : x ≡ y

one_pair : (p q : List ℕ × List ℕ) → Some p ≡ Some q → p ≡ q
one_pair p q e = cc

some_pair : (p : List ℕ × List ℕ) → Some p ≡ None → ⊥
some_pair p e = cc

same_line : (l m x y : List ℕ) → has_crlf false l ≡ false → has_crlf false m ≡ false → l ++ (13 ∷ 10 ∷ x) ≡ m ++ (13 ∷ 10 ∷ y) → SameLine l m x y
same_line l m x y h g e =
    let cuts = one_pair (l ++ 13 ∷ [], x) (m ++ 13 ∷ [], y) (sym (cut_at false l x h) ∙ ap (cut false) e ∙ cut_at false m y g) in
    record { line = append_cancel_right l m (13 ∷ []) (ap (λ (p : List ℕ × List ℕ). p.0) cuts); rest = ap (λ (p : List ℕ × List ℕ). p.1) cuts }

not_whole : (l m x : List ℕ) → has_crlf false l ≡ false → has_crlf false m ≡ false → l ++ (13 ∷ 10 ∷ x) ≡ m → ⊥
not_whole l m x h g e = some_pair (l ++ 13 ∷ [], x) (sym (cut_at false l x h) ∙ ap (cut false) e ∙ not_cut false m g)

no_crlf : (l : List ℕ) → IsLine l → has_crlf false l ≡ false
no_crlf [] h = absurd h
no_crlf (c ∷ cs) h = h

no_empty_line : (l : List ℕ) → IsLine l → l ≡ [] → ⊥
no_empty_line [] h e = h
no_empty_line (c ∷ cs) h e = cc

-- a line of a header part, and all behind its CR LF
regroup : (l : List ℕ) (ls : List (List ℕ)) (x : List ℕ) → header_text (l ∷ ls) ++ x ≡ l ++ (13 ∷ 10 ∷ (header_text ls ++ x))
regroup l ls x =
    ap (λ (y : List ℕ). y ++ x) (append_assoc l (crlf ++ lines_text ls) crlf)
    ∙ append_assoc l (crlf ++ (lines_text ls ++ crlf)) x

regroup_line : (l : List ℕ) (ls : List (List ℕ)) (k : List ℕ) → lines_text (l ∷ ls) ++ k ≡ l ++ (13 ∷ 10 ∷ (lines_text ls ++ k))
regroup_line l ls k = append_assoc l (crlf ++ lines_text ls) k

pub record SameHeader (ls ms : List (List ℕ)) (x y : List ℕ) : Type 0 where
  pub lines : ls ≡ ms
  pub rest : x ≡ y

-- of two header parts in front of an input
pub same_header : (ls ms : List (List ℕ)) (x y : List ℕ) → AreLines ls → AreLines ms → header_text ls ++ x ≡ header_text ms ++ y → SameHeader ls ms x y
same_header [] [] x y h g e = record { lines = refl; rest = cc }
same_header [] (m ∷ ms) x y h g e =
    let s = same_line [] m x (header_text ms ++ y) refl (no_crlf m g.0) (e ∙ regroup m ms y) in
    absurd (no_empty_line m g.0 (sym s.line))
same_header (l ∷ ls) [] x y h g e =
    let s = same_line l [] (header_text ls ++ x) y (no_crlf l h.0) refl (sym (regroup l ls x) ∙ e) in
    absurd (no_empty_line l h.0 s.line)
same_header (l ∷ ls) (m ∷ ms) x y h g e =
    let s = same_line l m (header_text ls ++ x) (header_text ms ++ y) (no_crlf l h.0) (no_crlf m g.0) (sym (regroup l ls x) ∙ (e ∙ regroup m ms y)) in
    let t = same_header ls ms x y h.1 g.1 s.rest in
    let lines : l ∷ ls ≡ m ∷ ms = ap (λ (k : List ℕ). k ∷ ls) s.line ∙ ap (λ (ks : List (List ℕ)). m ∷ ks) t.lines in
    record { lines = lines; rest = t.rest }

-- a header part that has ended isn't one that hasn't
pub not_heading : (ls ms : List (List ℕ)) (x k : List ℕ) → AreLines ls → AreLines ms → has_crlf false k ≡ false → header_text ls ++ x ≡ lines_text ms ++ k → ⊥
not_heading [] [] x k h g n e = not_whole [] k x refl n e
not_heading [] (m ∷ ms) x k h g n e =
    let s = same_line [] m x (lines_text ms ++ k) refl (no_crlf m g.0) (e ∙ regroup_line m ms k) in
    no_empty_line m g.0 (sym s.line)
not_heading (l ∷ ls) [] x k h g n e = not_whole l k (header_text ls ++ x) (no_crlf l h.0) n (sym (regroup l ls x) ∙ e)
not_heading (l ∷ ls) (m ∷ ms) x k h g n e =
    let s = same_line l m (header_text ls ++ x) (lines_text ms ++ k) (no_crlf l h.0) (no_crlf m g.0) (sym (regroup l ls x) ∙ (e ∙ regroup_line m ms k)) in
    not_heading ls ms x k h.1 g.1 n s.rest
