-- One byte more.
use Rattle.std.proofs.Common.{◌≡◌, ℕ, ◌+◌, ◌-◌, ◌*◌, ◌≤◌, ◌<◌, Bool, true, false, cond, List, [], ◌∷◌, ◌++◌, length, take, drop, get_or, refl, sym, ap, ◌∙◌, arith, add_assoc, length-append, length-drop}
use Rattle.std.specs.Prelude.{not, if◌then◌else◌}
use Rattle.std.specs.List.{after_last, suffix_len, prefix_len}
use Rattle.std.proofs.lemmas.List.{reverse-append, drop-append-le, drop_all, take_more, length-take-le}
use Rattle.std.proofs.lemmas.List.Sums.{sum_by_push, sum_by-cons, suffix_len-le-length}
use Rattle.std.proofs.lemmas.Grind.{common_steps}
use Rattle.asl_lsp_positions.specs.declared.position.Encoding.{Encoding}
use Rattle.asl_lsp_positions.specs.declared.position.Encoding.TheVariants as encoding
use Rattle.asl_lsp_positions.specs.declared.place.Place.{Place}
use Rattle.asl_lsp_positions.specs.Positions.{is_return, is_line_end, ends_here, ends_behind, units, width}
use Rattle.asl_lsp_positions.specs.private.Places.{return_behind, character_behind, behind, place, IsPlace}

-- ---- lines

ends_push : (r : Bool) (t : List ℕ) (c : ℕ) → ends_behind r (t ++ c ∷ []) ≡ ends_behind r t + ends_here (return_behind r t) c
ends_push r [] c = omega arith
ends_push r (x ∷ xs) c = ap (λ (n : ℕ). ends_here r x + n) (ends_push (is_return x) xs c) ∙ sym (add_assoc (ends_here r x) (ends_behind (is_return x) xs) (ends_here (return_behind (is_return x) xs) c))

return_push : (r : Bool) (t : List ℕ) (c : ℕ) → return_behind r (t ++ c ∷ []) ≡ is_return c
return_push r [] c = refl
return_push r (x ∷ xs) c = return_push (is_return x) xs c

one_end : (r : Bool) (c : ℕ) → ends_here r c ≤ 1
one_end r c = grind (arith, common_steps)

pub ends_within : (r : Bool) (t : List ℕ) → ends_behind r t ≤ length t
ends_within r [] = omega arith
ends_within r (x ∷ xs) = omega (arith, one_end r x, ends_within (is_return x) xs)

-- ---- what stands behind the last line end

suffix_push : {X : Type 0} (q : X → Bool) (t : List X) (c : X) → suffix_len q (t ++ c ∷ []) ≡ cond (q c) (1 + suffix_len q t) 0
suffix_push q t c = ap (prefix_len q) (reverse-append t (c ∷ []))

after_by : {X : Type 0} (t : List X) (c : X) (k : ℕ) → k ≤ length t → drop (length (t ++ c ∷ []) - (1 + k)) (t ++ c ∷ []) ≡ drop (length t - k) t ++ c ∷ []
after_by t c k le =
    let n : length (t ++ c ∷ []) - (1 + k) ≡ length t - k = omega (arith, length-append t (c ∷ [])) in
    ap (λ (m : ℕ). drop m (t ++ c ∷ [])) n ∙ drop-append-le (length t - k) t (c ∷ []) (omega arith)

after_behind : {X : Type 0} (p : X → Bool) (t : List X) (c : X) (b : Bool) → p c ≡ b → after_last p (t ++ c ∷ []) ≡ (if b then [] else after_last p t ++ c ∷ [])
after_behind {X = X} p t c true h =
    let q = λ (x : X). not (p x) in
    let k : suffix_len q (t ++ c ∷ []) ≡ 0 = suffix_push q t c ∙ ap (λ (v : Bool). cond (not v) (1 + suffix_len q t) 0) h in
    drop_all (length (t ++ c ∷ []) - suffix_len q (t ++ c ∷ [])) (t ++ c ∷ []) (omega arith)
after_behind {X = X} p t c false h =
    let q = λ (x : X). not (p x) in
    let k : suffix_len q (t ++ c ∷ []) ≡ 1 + suffix_len q t = suffix_push q t c ∙ ap (λ (v : Bool). cond (not v) (1 + suffix_len q t) 0) h in
    ap (λ (m : ℕ). drop (length (t ++ c ∷ []) - m) (t ++ c ∷ [])) k ∙ after_by t c (suffix_len q t) (suffix_len-le-length q t)

-- ---- widths

two_units : (e : Encoding) (c : ℕ) → units e c ≤ 2
two_units encoding.Utf8 c = omega arith
two_units encoding.Utf16 c = grind (arith, common_steps)

width_within : (e : Encoding) (t : List ℕ) → width e t ≤ 2 * length t
width_within e [] = omega arith
width_within e (x ∷ xs) =
    let parts : width e (x ∷ xs) ≡ units e x + width e xs = sum_by-cons (units e) x xs in
    let here = two_units e x in
    let rest = width_within e xs in
    rw parts (omega arith)

pub character_within : (e : Encoding) (t : List ℕ) → width e (after_last is_line_end t) ≤ 2 * length t
character_within e t = omega (arith, width_within e (after_last is_line_end t), length-drop (length t - suffix_len (λ x. not (is_line_end x)) t) t)

character_by : (e : Encoding) (t : List ℕ) (c : ℕ) (b : Bool) → width e (if b then [] else t ++ c ∷ []) ≡ (if b then 0 else width e t + units e c)
character_by e t c true = refl
character_by e t c false = sum_by_push (units e) t c

character_push : (e : Encoding) (t : List ℕ) (c : ℕ) → width e (after_last is_line_end (t ++ c ∷ [])) ≡ character_behind (width e (after_last is_line_end t)) e c
character_push e t c = ap (width e) (after_behind is_line_end t c (is_line_end c) refl) ∙ character_by e (after_last is_line_end t) c (is_line_end c)

-- ---- places

place_push : (e : Encoding) (t : List ℕ) (c : ℕ) → place e (t ++ c ∷ []) ≡ behind (place e t) e c
place_push e t c =
    let at : length (t ++ c ∷ []) ≡ length t + 1 = length-append t (c ∷ []) in
    let returned = return_push false t c in
    let line = ends_push false t c in
    let character = character_push e t c in
    cc

-- ... of a text
pub next_place : (e : Encoding) (t : List ℕ) (p : Place) (c d : ℕ) → IsPlace e t p → p.at < length t → c ≡ get_or t p.at d → IsPlace e t (behind p e c)
next_place e t p c d is inside here =
    let more : take (p.at + 1) t ≡ take p.at t ++ c ∷ [] = take_more t p.at d inside ∙ ap (λ (x : ℕ). take p.at t ++ x ∷ []) (sym here) in
    record {
      inside = omega arith;
      is = ap (λ (q : Place). behind q e c) is.is ∙ sym (place_push e (take p.at t) c) ∙ ap (place e) (sym more);
    }

-- lines and widths fit
pub line_within : (e : Encoding) (t : List ℕ) (p : Place) → IsPlace e t p → p.position.line ≤ p.at
line_within e t p is =
    let line = ap (λ (q : Place). q.position.line) is.is in
    omega (arith, ends_within false (take p.at t), length-take-le p.at t)

pub width_fits : (e : Encoding) (t : List ℕ) (p : Place) → IsPlace e t p → p.position.character ≤ 2 * p.at
width_fits e t p is =
    let character = ap (λ (q : Place). q.position.character) is.is in
    omega (arith, character_within e (take p.at t), length-take-le p.at t)
