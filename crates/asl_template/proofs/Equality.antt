-- Comparing members.
use Rattle.std.proofs.Common.{◌≡◌, ℕ, List, ◌++◌, Bool, true, false, ◌&&◌, refl, sym, ap, subst, ◌∙◌}
use Rattle.std.specs.Prelude.{None}
use Rattle.asl_json_data.specs.Data.{Data, text}
use Rattle.asl_json.specs.Same.{bytes_eq, equal}
use Rattle.asl_json.proofs.Knowing.{bytes_eq-flip}
use Rattle.asl_template.specs.Names.{mark, name_before}
use Rattle.asl_template.specs.private.View.{field_data, Fits}
use Rattle.asl_template.specs.declared.part.Part.{Part}
use Rattle.asl_template.specs.declared.part.Field.{Field}
use Rattle.asl_template.specs.declared.part.Field.TheVariants.{Kept}
use Rattle.asl_template.proofs.Keyed.{differ, same_mark, unmarked}

-- whether two members are equal
abbrev pub alike : List ℕ × Data → List ℕ × Data → Bool
alike m n = bytes_eq m.0 n.0 && equal m.1 n.1

and_false : (a b : Bool) → a ≡ false → false ≡ (a && b)
and_false false b e = refl
and_false true b e = absurd cc

-- a computed member and one that isn't
apart : (n k : List ℕ) (d e : Data) → name_before k ≡ None → false ≡ alike (n ++ mark, d) (k, e)
apart n k d e none = and_false (bytes_eq (n ++ mark) k) (equal d e) (differ (n ++ mark) k (unmarked k n none))

pub kept_computed : (f g : Field) (k n t : List ℕ) (p : Part) → f ≡ Kept k p → Fits f → field_data g ≡ (n ++ mark, text t) → false ≡ alike (field_data f) (field_data g)
kept_computed f g k n t p is fits same =
    let none : name_before k ≡ None = subst Fits is fits in
    subst (λ (h : Field). false ≡ alike (field_data h) (field_data g)) (sym is) (subst (λ (m : List ℕ × Data). false ≡ alike (field_data (Kept k p)) m) (sym same)
    (and_false (bytes_eq k (n ++ mark)) (equal (field_data (Kept k p)).1 (text t)) (bytes_eq-flip k (n ++ mark) ∙ differ (n ++ mark) k (unmarked k n none))))

pub computed_kept : (f : Field) (k n t : List ℕ) (p : Part) → f ≡ Kept k p → Fits f → false ≡ alike (n ++ mark, text t) (field_data f)
computed_kept f k n t p is fits =
    let none : name_before k ≡ None = subst Fits is fits in
    subst (λ (h : Field). false ≡ alike (n ++ mark, text t) (field_data h)) (sym is) (apart n k (text t) (field_data (Kept k p)).1 none)

pub both_computed : (f : Field) (n m t u : List ℕ) (r : Bool) → field_data f ≡ (m ++ mark, text u) → r ≡ (bytes_eq n m && bytes_eq t u) → r ≡ alike (n ++ mark, text t) (field_data f)
both_computed f n m t u r same is =
    is ∙ ap (λ (b : Bool). b && bytes_eq t u) (bytes_eq-flip n m ∙ same_mark n m) ∙ ap (alike (n ++ mark, text t)) (sym same)

short : (r b x : Bool) → r ≡ b → r ≡ false → r ≡ (b && x)
short r b x is off = off ∙ and_false b x (sym is ∙ off)

-- two computed members of different names
pub named_apart : (f : Field) (n m t u : List ℕ) (r : Bool) → field_data f ≡ (m ++ mark, text u) → r ≡ bytes_eq n m → r ≡ false → r ≡ alike (n ++ mark, text t) (field_data f)
named_apart f n m t u r same is off = both_computed f n m t u r same (short r (bytes_eq n m) (bytes_eq t u) is off)
