-- Cutting a text at separators, character by character.
use Rattle.std.proofs.Common.{◌≡◌, ℕ, Bool, true, false, List, [], ◌∷◌, ◌++◌, refl, sym, ap, ◌∙◌, append_assoc}
use Rattle.std.specs.Char.{encode_utf8}
use Rattle.std.specs.Str.{encode_utf8_all}
use Rattle.std.proofs.lemmas.List.{append-nil}
use Rattle.asl_json_data.specs.Data.{Data}
use Rattle.asl_intrinsic_functions.specs.Texts.{is_among, in_first, between, unless_empty, texts_of}
use Rattle.asl_intrinsic_functions.specs.private.Loops.{split_behind}

-- the texts of pieces, where the first one has these bytes in front
abbrev texts_behind : List ℕ → List (List ℕ) → List Data
texts_behind front [] = unless_empty front
texts_behind front (p ∷ ps) = unless_empty (front ++ encode_utf8_all p) ++ texts_of ps

first_behind : (front : List ℕ) (c : ℕ) (ps : List (List ℕ)) → texts_behind (front ++ encode_utf8 c) ps ≡ texts_behind front (in_first c ps)
first_behind front c [] = ap (λ (bs : List ℕ). unless_empty (front ++ bs)) (sym (append-nil (encode_utf8 c))) ∙ sym (append-nil (unless_empty (front ++ (encode_utf8 c ++ []))))
first_behind front c (p ∷ ps) = ap (λ (bs : List ℕ). unless_empty bs ++ texts_of ps) (append_assoc front (encode_utf8 c) (encode_utf8_all p))

none_behind : (ps : List (List ℕ)) → texts_behind [] ps ≡ texts_of ps
none_behind [] = refl
none_behind (p ∷ ps) = refl

pub split_are : (separators piece cs : List ℕ) → split_behind separators piece cs ≡ texts_behind piece (between separators cs)
split_are separators piece [] = ap unless_empty (sym (append-nil piece)) ∙ sym (append-nil (unless_empty (piece ++ [])))
split_are separators piece (c ∷ cs) = by (is_among c separators) refl (split_are separators [] cs) (split_are separators (piece ++ encode_utf8 c) cs)
  where
    by : (b : Bool) → is_among c separators ≡ b → split_behind separators [] cs ≡ texts_behind [] (between separators cs) → split_behind separators (piece ++ encode_utf8 c) cs ≡ texts_behind (piece ++ encode_utf8 c) (between separators cs)
        → split_behind separators piece (c ∷ cs) ≡ texts_behind piece (between separators (c ∷ cs))
    by true is ends goes = rw is ((λ i. unless_empty (sym (append-nil piece) i) ++ (ends ∙ none_behind (between separators cs)) i))
    by false is ends goes = rw is (goes ∙ first_behind piece c (between separators cs))

pub split_texts : (separators cs : List ℕ) → split_behind separators [] cs ≡ texts_of (between separators cs)
split_texts separators cs = split_are separators [] cs ∙ none_behind (between separators cs)
