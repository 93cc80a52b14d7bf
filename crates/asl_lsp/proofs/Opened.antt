-- The open documents.
use Rattle.std.proofs.Common.{◌≡◌, ℕ, suc, ◌+◌, ◌<◌, Bool, true, false, List, [], ◌∷◌, ◌++◌, length, slice_set, refl, sym, ap, ◌∙◌, arith}
use Rattle.std.specs.Prelude.{Option, Some, None, option_map, if◌then◌else◌}
use Rattle.asl_json.specs.Same.{bytes_eq}
use Rattle.asl_lsp.specs.declared.document.Document.{Document}
use Rattle.asl_lsp.specs.Documents.{document_index, put}

-- a number further on
abbrev pub further : ℕ → Option ℕ → Option ℕ
further i o = option_map (λ n. i + n) o

-- the number by the test of the first one
abbrev number_by : Bool → Option ℕ → Option ℕ
number_by b o = if b then Some 0 else option_map suc o

one_number : (i j : ℕ) → Some i ≡ Some j → i ≡ j
one_number i j e = cc

no_number : (i : ℕ) → None ≡ Some i → ⊥
no_number i e = cc

within_by : (b : Bool) (o : Option ℕ) (n i : ℕ) → ((j : ℕ) → o ≡ Some j → j < n) → number_by b o ≡ Some i → i < suc n
within_by true o n i h e = let z = one_number 0 i e in omega arith
within_by false None n i h e = absurd (no_number i e)
within_by false (Some j) n i h e = let z = one_number (suc j) i e in let l = h j refl in omega arith

pub index_within : (u : List ℕ) (ds : List Document) (i : ℕ) → document_index u ds ≡ Some i → i < length ds
index_within u [] i e = absurd (no_number i e)
index_within u (d ∷ ds) i e = within_by (bytes_eq u d.uri) (document_index u ds) (length ds) i (index_within u ds) e

put_by : (b : Bool) (o : Option ℕ) (d e : Document) (es : List Document) (i : ℕ) → ((j : ℕ) → o ≡ Some j → slice_set es j d ≡ put d es)
    → number_by b o ≡ Some i → slice_set (e ∷ es) i d ≡ (if b then d ∷ es else e ∷ put d es)
put_by true o d e es i h n = ap (λ (k : ℕ). slice_set (e ∷ es) k d) (sym (one_number 0 i n))
put_by false None d e es i h n = absurd (no_number i n)
put_by false (Some j) d e es i h n = ap (λ (k : ℕ). slice_set (e ∷ es) k d) (sym (one_number (suc j) i n)) ∙ ap (λ (xs : List Document). e ∷ xs) (h j refl)

pub put_there : (d : Document) (ds : List Document) (i : ℕ) → document_index d.uri ds ≡ Some i → slice_set ds i d ≡ put d ds
put_there d [] i n = absurd (no_number i n)
put_there d (e ∷ es) i n = put_by (bytes_eq d.uri e.uri) (document_index d.uri es) d e es i (put_there d es) n

number_none : (i : ℕ) → Some i ≡ None → ⊥
number_none i e = cc

put_new_by : (b : Bool) (o : Option ℕ) (d e : Document) (es : List Document) → (o ≡ None → es ++ d ∷ [] ≡ put d es)
    → number_by b o ≡ None → e ∷ (es ++ d ∷ []) ≡ (if b then d ∷ es else e ∷ put d es)
put_new_by true o d e es h n = absurd (number_none 0 n)
put_new_by false None d e es h n = ap (λ (xs : List Document). e ∷ xs) (h refl)
put_new_by false (Some j) d e es h n = absurd (number_none (suc j) n)

pub put_behind : (d : Document) (ds : List Document) → document_index d.uri ds ≡ None → ds ++ d ∷ [] ≡ put d ds
put_behind d [] n = refl
put_behind d (e ∷ es) n = put_new_by (bytes_eq d.uri e.uri) (document_index d.uri es) d e es (put_behind d es) n
