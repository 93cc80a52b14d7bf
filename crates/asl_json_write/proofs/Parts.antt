-- Writing the parts of a list or an object one after another.
use Rattle.std.proofs.Common.{◌≡◌, ℕ, zero, suc, ◌+◌, ◌<◌, List, [], ◌∷◌, ◌++◌, length, get_or, drop, refl, sym, ap, ◌∙◌, append_assoc, add-one, arith}
use Rattle.asl_json_data.specs.Data.{Data, Chain, no_items, item, Pairs, no_members, member, chain, pairs}
use Rattle.asl_json_data.specs.Grammar.{colon, close_brace}
use Rattle.asl_json_data.specs.Compact.{separator, quoted, compact, compact_items, compact_more_items, compact_members, compact_more}
use Rattle.asl_json.specs.View.{data_of, items_of, members_of}
use Rattle.asl_json.specs.declared.value.Json.{Json}
use Rattle.asl_json.specs.declared.value.Member.{Member}

-- what is still to be written, with its bracket
abbrev pub items_left : ℕ → Chain → List ℕ
items_left zero ds = compact_items ds
items_left (suc i) ds = compact_more_items ds

abbrev pub members_left : ℕ → Pairs → List ℕ
members_left zero ms = compact_members ms
members_left (suc i) ms = compact_more ms

pub items_next : (i : ℕ) (d : Data) (ds : Chain) → items_left i (item d ds) ≡ separator i ++ (compact d ++ compact_more_items ds)
items_next zero d ds = refl
items_next (suc i) d ds = refl

pub members_next : (i : ℕ) (k : List ℕ) (d : Data) (ms : Pairs) → members_left i (member k d ms) ≡ separator i ++ ((quoted k ++ colon ∷ compact d) ++ compact_more ms)
members_next zero k d ms = refl
members_next (suc i) k d ms = refl

pub items_end : (i : ℕ) → items_left i no_items ≡ 93 ∷ []
items_end zero = refl
items_end (suc i) = refl

pub members_end : (i : ℕ) → members_left i no_members ≡ close_brace ∷ []
members_end zero = refl
members_end (suc i) = refl

pub drop_next : {A : Type 0} (xs : List A) (i : ℕ) (x : A) → i < length xs → get_or xs i x ≡ x → drop i xs ≡ x ∷ drop (suc i) xs
drop_next [] i x lt e = absurd (omega arith)
drop_next (y ∷ xs) zero x lt e = ap (λ z. z ∷ xs) e
drop_next (y ∷ xs) (suc i) x lt e = drop_next xs i x (omega arith) e

pub items_step : (out new all : List ℕ) (vs : List Json) (i : ℕ) (v : Json) → i < length vs → get_or vs i v ≡ v → out ++ items_left i (chain (items_of (drop i vs))) ≡ all → new ≡ (out ++ separator i) ++ compact (data_of v)
    → new ++ items_left (i + 1) (chain (items_of (drop (i + 1) vs))) ≡ all
items_step out new all vs i v lt e so_far is =
    let rest = chain (items_of (drop (suc i) vs)) in
    let next : items_left i (chain (items_of (drop i vs))) ≡ separator i ++ (compact (data_of v) ++ compact_more_items rest) = ap (λ (xs : List Json). items_left i (chain (items_of xs))) (drop_next vs i v lt e) ∙ items_next i (data_of v) rest in
    rw (add-one, is) (append_assoc (out ++ separator i) (compact (data_of v)) (compact_more_items rest) ∙ append_assoc out (separator i) (compact (data_of v) ++ compact_more_items rest) ∙ ap (λ (x : List ℕ). out ++ x) (sym next) ∙ so_far)

pub members_step : (out new all : List ℕ) (ms : List Member) (i : ℕ) (m : Member) → i < length ms → get_or ms i m ≡ m → out ++ members_left i (pairs (members_of (drop i ms))) ≡ all → new ≡ (((out ++ separator i) ++ quoted m.key) ++ colon ∷ []) ++ compact (data_of m.value)
    → new ++ members_left (i + 1) (pairs (members_of (drop (i + 1) ms))) ≡ all
members_step out new all ms i m lt e so_far is =
    let rest = pairs (members_of (drop (suc i) ms)) in
    let next : members_left i (pairs (members_of (drop i ms))) ≡ separator i ++ ((quoted m.key ++ colon ∷ compact (data_of m.value)) ++ compact_more rest) = ap (λ (xs : List Member). members_left i (pairs (members_of xs))) (drop_next ms i m lt e) ∙ members_next i m.key (data_of m.value) rest in
    let regrouped : ((((out ++ separator i) ++ quoted m.key) ++ colon ∷ []) ++ compact (data_of m.value)) ++ compact_more rest ≡ out ++ (separator i ++ ((quoted m.key ++ colon ∷ compact (data_of m.value)) ++ compact_more rest)) = simp append_assoc in
    rw (add-one, is) (regrouped ∙ ap (λ (x : List ℕ). out ++ x) (sym next) ∙ so_far)
