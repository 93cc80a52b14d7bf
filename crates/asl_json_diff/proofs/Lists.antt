-- What stands at a number of a list, and behind it.
use Rattle.std.proofs.Common.{◌≡◌, ℕ, zero, suc, ◌<◌, ◌+◌, List, [], ◌∷◌, ◌++◌, length, get_or, drop, refl, sym, ap, ◌∙◌, append_assoc, arith}
use Rattle.std.proofs.lemmas.List.{drop_more}
use Rattle.std.specs.Prelude.{Option, slice_get}
use Rattle.asl_json_data.specs.Data.{Data, chain}
use Rattle.asl_json.specs.View.{data_of, items_of}
use Rattle.asl_json.specs.declared.value.Json.{Json}
use Rattle.asl_json_data.specs.Data.{Chain}
use Rattle.asl_json_write.specs.Pointers.{index_part}
use Rattle.asl_json_diff.specs.Changes.{first_item, later_items, part_change, item_changes}

pub item_there : (vs : List Json) (i : ℕ) → slice_get (items_of vs) i ≡ first_item (chain (items_of (drop i vs)))
item_there [] zero = refl
item_there [] (suc i) = refl
item_there (v ∷ vs) zero = refl
item_there (v ∷ vs) (suc i) = item_there vs i

pub items_behind : (vs : List Json) (i : ℕ) → later_items (chain (items_of (drop i vs))) ≡ chain (items_of (drop (suc i) vs))
items_behind [] zero = refl
items_behind [] (suc i) = refl
items_behind (v ∷ vs) zero = refl
items_behind (v ∷ vs) (suc i) = items_behind vs i

-- one item of the old list more: the lines so far and those that are left are the same
pub items_step : (lead p : List ℕ) (ds es : List Json) (i : ℕ) (v : Json) (old new all : List ℕ) → i < length ds → v ≡ get_or ds i v
    → old ++ item_changes lead p i (chain (items_of (drop i ds))) (chain (items_of (drop i es))) ≡ all
    → new ≡ old ++ part_change lead (p ++ index_part i) (data_of v) (slice_get (items_of es) i)
    → new ++ item_changes lead p (i + 1) (chain (items_of (drop (i + 1) ds))) (chain (items_of (drop (i + 1) es))) ≡ all
items_step lead p ds es i v old new all lt at so_far is =
    let next : suc i ≡ i + 1 = omega arith in
    let front : drop i ds ≡ v ∷ drop (i + 1) ds = drop_more ds i v lt ∙ ap (λ (x : Json). x ∷ drop (i + 1) ds) (sym at) in
    let part : List ℕ = part_change lead (p ++ index_part i) (data_of v) (slice_get (items_of es) i) in
    let rest : List ℕ = item_changes lead p (i + 1) (chain (items_of (drop (i + 1) ds))) (chain (items_of (drop (i + 1) es))) in
    let here : item_changes lead p i (chain (items_of (drop i ds))) (chain (items_of (drop i es))) ≡ part ++ rest =
    ap (λ (xs : List Json). item_changes lead p i (chain (items_of xs)) (chain (items_of (drop i es)))) front
    ∙ ap (λ (o : Option Data). part_change lead (p ++ index_part i) (data_of v) o ++ item_changes lead p (suc i) (chain (items_of (drop (i + 1) ds))) (later_items (chain (items_of (drop i es))))) (sym (item_there es i))
    ∙ ap (λ (c : Chain). part ++ item_changes lead p (suc i) (chain (items_of (drop (i + 1) ds))) c) (items_behind es i)
    ∙ ap (λ (n : ℕ). part ++ item_changes lead p n (chain (items_of (drop (i + 1) ds))) (chain (items_of (drop n es)))) next in
    ap (λ (x : List ℕ). x ++ rest) is ∙ append_assoc old part rest ∙ ap (λ (x : List ℕ). old ++ x) (sym here) ∙ so_far
