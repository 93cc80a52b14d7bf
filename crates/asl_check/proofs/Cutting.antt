-- UTF-8 is cut at an ASCII byte.
use Rattle.std.proofs.Common.{◌≡◌, ℕ, ◌<◌, List, [], ◌∷◌, ◌++◌, length, get_or, drop, sym, subst, arith}
use Rattle.std.proofs.lemmas.List.{append_assoc, length-append}
use Rattle.std.proofs.Math.Seq.{take-append_seam, drop-append_seam, get_or-append_seam}
use Rattle.std.proofs.lemmas.Str.{IsUtf8-take, IsUtf8-append, IsUtf8-from_ascii, IsCharBoundary-before_ascii}
use Rattle.std.proofs.lemmas.Str.Ascii.{IsAscii-nil, IsAscii-cons}
use Rattle.std.specs.Str.{IsUtf8}
use Rattle.asl_json_scan.proofs.Fronts.{utf8_past, utf8_after}

pub utf8_byte : (c : ℕ) → c < 128 → IsUtf8 (c ∷ [])
utf8_byte c lt = IsUtf8-from_ascii (c ∷ []) (IsAscii-cons c [] lt IsAscii-nil)

pub utf8_cons : (c : ℕ) (t : List ℕ) → c < 128 → IsUtf8 t → IsUtf8 (c ∷ t)
utf8_cons c t lt u = IsUtf8-append (c ∷ []) t (utf8_byte c lt) u

within : (u : List ℕ) (c : ℕ) (v : List ℕ) → length u < length (u ++ c ∷ v)
within u c v = let e = length-append u (c ∷ v) in omega (arith, e)

pub cut_before : (u : List ℕ) (c : ℕ) (v : List ℕ) → c < 128 → IsUtf8 (u ++ c ∷ v) → IsUtf8 u
cut_before u c v lt h =
    let at : get_or (u ++ c ∷ v) (length u) 0 ≡ c = get_or-append_seam u c v 0 in
    let small : get_or (u ++ c ∷ v) (length u) 0 < 128 = subst (λ (x : ℕ). x < 128) (sym at) lt in
    subst IsUtf8 (take-append_seam u (c ∷ v)) (IsUtf8-take (u ++ c ∷ v) (length u) h (IsCharBoundary-before_ascii (u ++ c ∷ v) (length u) (within u c v) small))

-- and what stands behind it
pub cut_behind : (u : List ℕ) (c : ℕ) (v : List ℕ) → c < 128 → IsUtf8 (u ++ c ∷ v) → IsUtf8 v
cut_behind u c v lt h =
    let whole = u ++ c ∷ v in
    let rest : IsUtf8 (drop (length u) whole) = utf8_past whole u (length u) h (cut_before u c v lt h) (let e = within u c v in omega (arith, e)) (take-append_seam u (c ∷ v)) in
    utf8_after c v lt (subst IsUtf8 (drop-append_seam u (c ∷ v)) rest)

-- a byte more before
pub one_more : (u : List ℕ) (c : ℕ) (v : List ℕ) → (u ++ c ∷ []) ++ v ≡ u ++ c ∷ v
one_more u c v = append_assoc u (c ∷ []) v
