-- Labels, character by character.
use Rattle.std.proofs.Common.{◌≡◌, ℕ, List, [], ◌∷◌, ◌++◌, refl, sym, ◌∙◌, ap, append_assoc}
use Rattle.std.specs.Prelude.{map}
use Rattle.std.proofs.lemmas.List.{append-nil}
use Rattle.asl_text.proofs.Letters.{whole}
use Rattle.asl_graph.specs.declared.language.Language.{Language}
use Rattle.asl_graph.specs.Names.{shown_char, shown_behind}

-- the last of these characters, or the one before them
abbrev pub last_behind : ℕ → List ℕ → ℕ
last_behind before [] = before
last_behind before (c ∷ cs) = last_behind c cs

one_more : (l : Language) (b : ℕ) (ys : List ℕ) (c : ℕ) → shown_behind l b (ys ++ c ∷ []) ≡ shown_behind l b ys ++ shown_char l (last_behind b ys) c
one_more l b [] c = append-nil (shown_char l b c)
one_more l b (y ∷ ys) c = ap (λ (x : List ℕ). shown_char l b y ++ x) (one_more l y ys c) ∙ sym (append_assoc (shown_char l b y) (shown_behind l y ys) (shown_char l (last_behind y ys) c))

pub last_more : (b : ℕ) (ys : List ℕ) (c : ℕ) → last_behind b (ys ++ c ∷ []) ≡ c
last_more b [] c = refl
last_more b (y ∷ ys) c = last_more y ys c

pub step : (l : Language) (start old new ys : List ℕ) (b c : ℕ) → old ≡ start ++ shown_behind l 0 ys → b ≡ last_behind 0 ys → new ≡ old ++ shown_char l b c → new ≡ start ++ shown_behind l 0 (ys ++ c ∷ [])
step l start old new ys b c so_far behind is =
    is
    ∙ ap (λ (x : List ℕ). x ++ shown_char l b c) so_far
    ∙ ap (λ (x : ℕ). (start ++ shown_behind l 0 ys) ++ shown_char l x c) behind
    ∙ append_assoc start (shown_behind l 0 ys) (shown_char l (last_behind 0 ys) c)
    ∙ ap (λ (x : List ℕ). start ++ x) (sym (one_more l 0 ys c))

pub end : (l : Language) (start out ys cs : List ℕ) → out ≡ start ++ shown_behind l 0 ys → map (λ c. c) ys ≡ cs → out ≡ start ++ shown_behind l 0 cs
end l start out ys cs so_far all = so_far ∙ ap (λ (x : List ℕ). start ++ shown_behind l 0 x) (whole ys cs all)
