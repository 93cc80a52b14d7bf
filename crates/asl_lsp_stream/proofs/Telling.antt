-- What is told of items, one after another.
use Rattle.std.proofs.Common.{◌≡◌, ◌∙◌, ◌<◌, ◌+◌, ℕ, List, [], ◌∷◌, ◌++◌, length, refl, sym, ap, subst}
use Rattle.std.specs.Prelude.{take, get_or}
use Rattle.std.proofs.Math.Seq.{take-length}
use Rattle.std.proofs.lemmas.Grind.{take_at_read}
use Rattle.std.proofs.lemmas.List.{append_assoc, append-nil}
use Rattle.asl_base_protocol.specs.declared.item.Item.{Item}
use Rattle.asl_lsp.specs.declared.phase.Phase.{Phase}
use Rattle.asl_lsp_stream.specs.Streams.{ItemTells, Told}

-- these and those behind them
pub told-append : (p q r : Phase) (is js : List Item) (t u : List ℕ) → Told p is q t → Told q js r u → Told p (is ++ js) r (t ++ u)
told-append p q r [] js t u h g = subst (λ (z : Phase). Told z js r (t ++ u)) h.0 (subst (λ (z : List ℕ). Told q js r (z ++ u)) (sym h.1) g)
told-append p q r (i ∷ is) js t u h g = (h.0, h.1, h.2 ++ u, h.3, told-append h.0 q r is js h.2 u h.4 g, ap (λ (z : List ℕ). z ++ u) h.5 ∙ append_assoc h.1 h.2 u)

told-one : (p q : Phase) (i : Item) (t : List ℕ) → ItemTells p i q t → Told p (i ∷ []) q t
told-one p q i t h = (q, t, [], h, (refl, refl), sym (append-nil t))

-- and one more
pub told-more : (p q r : Phase) (items : List Item) (n : ℕ) (i : Item) (t u v : List ℕ) → n < length items → i ≡ get_or items n i → Told p (take n items) q t → ItemTells q i r u → v ≡ t ++ u → Told p (take (n + 1) items) r v
told-more p q r items n i t u v lt at h g e =
    let longer : take (n + 1) items ≡ take n items ++ i ∷ [] = (take_at_read items n i lt).1 ∙ ap (λ (z : Item). take n items ++ z ∷ []) (sym at) in
    subst (λ (z : List Item). Told p z r v) (sym longer) (subst (Told p (take n items ++ i ∷ []) r) (sym e) (told-append p q r (take n items) (i ∷ []) t u h (told-one q r i u g)))

-- all of them
pub told-all : (p q : Phase) (items more : List Item) (n : ℕ) (t : List ℕ) → n ≡ length items → items ≡ more → Told p (take n items) q t → Told p more q t
told-all p q items more n t e same h = subst (λ (z : List Item). Told p z q t) (ap (λ (k : ℕ). take k items) e ∙ take-length items ∙ same) h
