-- States while they are gathered.
use Rattle.std.proofs.Common.{◌≡◌, ℕ, suc, ◌+◌, ◌<◌, List, ◌∷◌, ◌++◌, length, get_or, drop, sym, ◌∙◌, ap, append_assoc, arith}
use Rattle.std.specs.Prelude.{map}
use Rattle.std.proofs.lemmas.List.{drop_more}
use Rattle.asl_json_data.specs.Data.{chain}
use Rattle.asl_json.specs.View.{data_of, items_of}
use Rattle.asl_json.specs.declared.value.Json.{Json}
use Rattle.asl_def_schema.specs.declared.sort.Sort.{Sort}
use Rattle.asl_lint_messages.specs.States.{Stated, further, states_in, item_states}

add_one : (i : ℕ) → i + 1 ≡ suc i
add_one i = omega arith

items_split : (s : Sort) (vs : List Json) (i : ℕ) (v : Json) → i < length vs → v ≡ get_or vs i v → item_states s i (chain (items_of (drop i vs))) ≡ map (further i) (states_in s (data_of v)) ++ item_states s (i + 1) (chain (items_of (drop (i + 1) vs)))
items_split s vs i v lt at = ap (λ (xs : List Json). item_states s i (chain (items_of xs))) (drop_more vs i v lt ∙ ap (λ (x : Json). x ∷ drop (i + 1) vs) (sym at)) ∙ ap (λ (n : ℕ). map (further i) (states_in s (data_of v)) ++ item_states s n (chain (items_of (drop (i + 1) vs)))) (sym (add_one i))

pub items_gathered : (s : Sort) (vs : List Json) (i : ℕ) (v : Json) (now new part all : List Stated) → i < length vs → v ≡ get_or vs i v → now ++ item_states s i (chain (items_of (drop i vs))) ≡ all → part ≡ states_in s (data_of v) → new ≡ now ++ map (further i) part → new ++ item_states s (i + 1) (chain (items_of (drop (i + 1) vs))) ≡ all
items_gathered s vs i v now new part all lt at h is_part is =
    let rest = item_states s (i + 1) (chain (items_of (drop (i + 1) vs))) in
    ap (λ (ns : List Stated). ns ++ rest) (is ∙ ap (λ (ns : List Stated). now ++ map (further i) ns) is_part)
    ∙ append_assoc now (map (further i) (states_in s (data_of v))) rest
    ∙ ap (λ (ns : List Stated). now ++ ns) (sym (items_split s vs i v lt at)) ∙ h
