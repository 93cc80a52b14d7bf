-- Buffers that bytes were appended to.
use Rattle.std.proofs.Common.{◌≡◌, ℕ, ◌<◌, ◌≤◌, List, ◌++◌, length, take, cond, Bool, true, false, refl, sym, ap, subst, ◌∙◌, arith}
use Rattle.std.proofs.lemmas.List.{length-take, take_all, take_at, take-take, length-append}
use Rattle.std.proofs.lemmas.Str.{IsCharBoundary-from_take, IsUtf8-string_bytes}
use Rattle.std.specs.Prelude.{String, string_bytes}
use Rattle.std.specs.Str.{IsUtf8}
use Rattle.std.specs.String.Boundary.{IsSplitPoint}
use Rattle.asl_json_write.specs.Buffers.{Keeps}

pub keeps_same : (a b : List ℕ) → b ≡ a → Keeps a b
keeps_same a b e = record { front = take_all (length a) b (omega (arith, ap length e)) ∙ e }

pub keeps_more : (a b t : List ℕ) → b ≡ a ++ t → Keeps a b
keeps_more a b t e = record { front = ap (take (length a)) e ∙ take_at a t (length a) refl }

-- what it held is no longer than what it holds
pub keeps_length : (a b : List ℕ) → Keeps a b → length a ≤ length b
keeps_length a b h = omega (arith, length-take (length a) b, ap length h.front)

pub keeps_on : (a b c : List ℕ) → Keeps a b → Keeps b c → Keeps a c
keeps_on a b c h k =
    let shorter : length a ≤ length b = keeps_length a b h in
    record { front = sym (take-take (length a) (length b) c shorter) ∙ ap (take (length a)) k.front ∙ h.front }

-- it can be cut behind what it held
pub keeps_seam : (a b : List ℕ) → IsUtf8 a → IsUtf8 b → Keeps a b → IsSplitPoint b (length a)
keeps_seam a b u v h =
    let at = IsCharBoundary-from_take b (length a) v (keeps_length a b h) (subst IsUtf8 (sym h.front) u) in
    (at.0, λ _. at.1)

-- what is appended to it, or is not
pub keeps_pushed : (a b c t : List ℕ) → Keeps a b → c ≡ b ++ t → Keeps a c
keeps_pushed a b c t h e = keeps_on a b c h (keeps_more b c t e)

pub keeps_as : (a b c : List ℕ) → Keeps a b → c ≡ b → Keeps a c
keeps_as a b c h e = keeps_on a b c h (keeps_same b c e)

-- a text that still has in front what one held, which was these bytes, can be cut behind them
pub can_cut : {Z : Type 0} (held now : String Z) (bytes : List ℕ) → bytes ≡ string_bytes held → Keeps (string_bytes held) (string_bytes now)
    → IsSplitPoint (string_bytes now) (length bytes)
can_cut held now bytes e kept = rw e (keeps_seam (string_bytes held) (string_bytes now) (IsUtf8-string_bytes held) (IsUtf8-string_bytes now) kept)
