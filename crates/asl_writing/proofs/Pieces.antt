-- Pieces, one behind another. (An equation doesn't determine its pieces, since `++` unfolds; `Appends` does.)
use Rattle.std.proofs.Common.{◌≡◌, ℕ, List, ◌++◌, ap, ◌∙◌, append_assoc}
use Rattle.asl_writing.specs.Appends.{Appends}

pub right : {s t u p q : List ℕ} → Appends s p t → Appends t q u → Appends s (p ++ q) u
right {s} {t} {u} {p} {q} first second =
    record { is = second.is ∙ ap (λ (x : List ℕ). x ++ q) first.is ∙ append_assoc s p q }

-- the pieces are this text
pub written : {s t p w : List ℕ} → Appends s p t → p ≡ w → Appends s w t
written {s} {t} {p} {w} pieces same =
    record { is = pieces.is ∙ ap (λ (x : List ℕ). s ++ x) same }
