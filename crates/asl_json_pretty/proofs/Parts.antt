-- Writing the parts of a list or an object one after another.
use Rattle.std.proofs.Common.{◌≡◌, ℕ, zero, suc, ◌+◌, ◌<◌, List, [], ◌∷◌, ◌++◌, length, get_or, drop, refl, sym, ap, ◌∙◌, append_assoc, add-one}
use Rattle.asl_json_data.specs.Data.{Data, Chain, no_items, item, Pairs, no_members, member, chain, pairs}
use Rattle.asl_json_data.specs.Grammar.{colon, close_bracket, close_brace}
use Rattle.asl_json_data.specs.Compact.{separator, quoted}
use Rattle.asl_json.specs.View.{data_of, items_of, members_of}
use Rattle.asl_json.specs.declared.value.Json.{Json}
use Rattle.asl_json.specs.declared.value.Member.{Member}
use Rattle.asl_json_write.proofs.Parts.{drop_next}
use Rattle.asl_json_pretty.specs.Pretty.{deeper, pretty_at, pretty_items, pretty_more_items, pretty_members, pretty_more}
use Rattle.asl_json_pretty.specs.private.Ends.{end_of}

-- what is still to be written, with its bracket
abbrev pub items_left : List ℕ → ℕ → Chain → List ℕ
items_left line zero ds = pretty_items line ds
items_left line (suc i) ds = pretty_more_items line ds

abbrev pub members_left : List ℕ → ℕ → Pairs → List ℕ
members_left line zero ms = pretty_members line ms
members_left line (suc i) ms = pretty_more line ms

items_next : (line : List ℕ) (i : ℕ) (d : Data) (ds : Chain) → items_left line i (item d ds) ≡ separator i ++ (deeper line ++ (pretty_at (deeper line) d ++ pretty_more_items line ds))
items_next line zero d ds = refl
items_next line (suc i) d ds = refl

members_next : (line : List ℕ) (i : ℕ) (k : List ℕ) (d : Data) (ms : Pairs)
    → members_left line i (member k d ms) ≡ separator i ++ (deeper line ++ ((quoted k ++ colon ∷ 32 ∷ pretty_at (deeper line) d) ++ pretty_more line ms))
members_next line zero k d ms = refl
members_next line (suc i) k d ms = refl

pub items_end : (line : List ℕ) (i : ℕ) → items_left line i no_items ≡ end_of line i ++ close_bracket ∷ []
items_end line zero = refl
items_end line (suc i) = refl

pub members_end : (line : List ℕ) (i : ℕ) → members_left line i no_members ≡ end_of line i ++ close_brace ∷ []
members_end line zero = refl
members_end line (suc i) = refl

pub items_step : (line out new all : List ℕ) (vs : List Json) (i : ℕ) (v : Json) → i < length vs → get_or vs i v ≡ v → out ++ items_left line i (chain (items_of (drop i vs))) ≡ all
    → new ≡ ((out ++ separator i) ++ deeper line) ++ pretty_at (deeper line) (data_of v) → new ++ items_left line (i + 1) (chain (items_of (drop (i + 1) vs))) ≡ all
items_step line out new all vs i v lt e so_far is =
    let rest = chain (items_of (drop (suc i) vs)) in
    let here = pretty_at (deeper line) (data_of v) in
    let next : items_left line i (chain (items_of (drop i vs))) ≡ separator i ++ (deeper line ++ (here ++ pretty_more_items line rest)) = ap (λ (xs : List Json). items_left line i (chain (items_of xs))) (drop_next vs i v lt e) ∙ items_next line i (data_of v) rest in
    let regrouped : (((out ++ separator i) ++ deeper line) ++ here) ++ pretty_more_items line rest ≡ out ++ (separator i ++ (deeper line ++ (here ++ pretty_more_items line rest))) = simp append_assoc in
    rw (add-one, is) (regrouped ∙ ap (λ (x : List ℕ). out ++ x) (sym next) ∙ so_far)

pub members_step : (line out new all : List ℕ) (ms : List Member) (i : ℕ) (m : Member) → i < length ms → get_or ms i m ≡ m → out ++ members_left line i (pairs (members_of (drop i ms))) ≡ all
    → new ≡ ((((out ++ separator i) ++ deeper line) ++ quoted m.key) ++ colon ∷ 32 ∷ []) ++ pretty_at (deeper line) (data_of m.value) → new ++ members_left line (i + 1) (pairs (members_of (drop (i + 1) ms))) ≡ all
members_step line out new all ms i m lt e so_far is =
    let rest = pairs (members_of (drop (suc i) ms)) in
    let here = pretty_at (deeper line) (data_of m.value) in
    let next : members_left line i (pairs (members_of (drop i ms))) ≡ separator i ++ (deeper line ++ ((quoted m.key ++ colon ∷ 32 ∷ here) ++ pretty_more line rest)) = ap (λ (xs : List Member). members_left line i (pairs (members_of xs))) (drop_next ms i m lt e) ∙ members_next line i m.key (data_of m.value) rest in
    let regrouped : (((((out ++ separator i) ++ deeper line) ++ quoted m.key) ++ colon ∷ 32 ∷ []) ++ here) ++ pretty_more line rest ≡ out ++ (separator i ++ (deeper line ++ ((quoted m.key ++ colon ∷ 32 ∷ here) ++ pretty_more line rest))) = simp append_assoc in
    rw (add-one, is) (regrouped ∙ ap (λ (x : List ℕ). out ++ x) (sym next) ∙ so_far)
