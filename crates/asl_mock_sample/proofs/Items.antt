-- Lists that are merged item by item.
use Rattle.std.proofs.Common.{◌≡◌, ◌≤◌, ◌<◌, ◌+◌, ℕ, zero, suc, List, [], ◌∷◌, ◌++◌, length, get_or, drop, refl, sym, ap, ◌∙◌, arith}
use Rattle.std.proofs.lemmas.List.{drop_more, drop_all}
use Rattle.std.specs.Prelude.{Option, slice_get}
use Rattle.std.specs.Option.{option_map_or}
use Rattle.asl_json_data.specs.Data.{Data, Chain, chain}
use Rattle.asl_json.specs.View.{data_of, items_of, unchained}
use Rattle.asl_json.specs.declared.value.Json.{Json}
use Rattle.asl_mock_sample.specs.Merging.{first_item, later_items, merged, merged_items}

unchained-chain : (ds : List Data) → unchained (chain ds) ≡ ds
unchained-chain [] = refl
unchained-chain (d ∷ ds) = ap (λ (x : List Data). d ∷ x) (unchained-chain ds)

item_there : (vs : List Json) (i : ℕ) → slice_get (items_of vs) i ≡ first_item (chain (items_of (drop i vs)))
item_there [] zero = refl
item_there [] (suc i) = refl
item_there (v ∷ vs) zero = refl
item_there (v ∷ vs) (suc i) = item_there vs i

items_behind : (vs : List Json) (i : ℕ) → later_items (chain (items_of (drop i vs))) ≡ chain (items_of (drop (suc i) vs))
items_behind [] zero = refl
items_behind [] (suc i) = refl
items_behind (v ∷ vs) zero = refl
items_behind (v ∷ vs) (suc i) = items_behind vs i

-- one item more
pub items_step : (ds es : List Json) (i : ℕ) (v : Json) (done new all : List Data) → i < length ds → v ≡ get_or ds i v
    → merged_items done (chain (items_of (drop i ds))) (chain (items_of (drop i es))) ≡ all
    → new ≡ done ++ option_map_or (merged (data_of v)) (slice_get (items_of es) i) (data_of v) ∷ []
    → merged_items new (chain (items_of (drop (i + 1) ds))) (chain (items_of (drop (i + 1) es))) ≡ all
items_step ds es i v done new all lt at so_far is =
    let next : suc i ≡ i + 1 = omega arith in
    let front : drop i ds ≡ v ∷ drop (i + 1) ds = drop_more ds i v lt ∙ ap (λ (x : Json). x ∷ drop (i + 1) ds) (sym at) in
    let rest : Chain = chain (items_of (drop (i + 1) ds)) in
    let here : merged_items done (chain (items_of (drop i ds))) (chain (items_of (drop i es))) ≡ merged_items new rest (chain (items_of (drop (i + 1) es))) =
    ap (λ (xs : List Json). merged_items done (chain (items_of xs)) (chain (items_of (drop i es)))) front
    ∙ ap (λ (o : Option Data). merged_items (done ++ option_map_or (merged (data_of v)) o (data_of v) ∷ []) rest (later_items (chain (items_of (drop i es))))) (sym (item_there es i))
    ∙ ap (λ (xs : List Data). merged_items xs rest (later_items (chain (items_of (drop i es))))) (sym is)
    ∙ ap (λ (c : Chain). merged_items new rest c) (items_behind es i)
    ∙ ap (λ (n : ℕ). merged_items new rest (chain (items_of (drop n es)))) next in
    sym here ∙ so_far

-- no item of the first list is left
pub items_end : (ds es : List Json) (n : ℕ) (done all : List Data) → length ds ≤ n
    → merged_items done (chain (items_of (drop n ds))) (chain (items_of (drop n es))) ≡ all
    → done ++ items_of (drop n es) ≡ all
items_end ds es n done all le so_far =
    ap (λ (xs : List Data). done ++ xs) (sym (unchained-chain (items_of (drop n es))))
    ∙ ap (λ (xs : List Json). merged_items done (chain (items_of xs)) (chain (items_of (drop n es)))) (sym (drop_all n ds le))
    ∙ so_far
