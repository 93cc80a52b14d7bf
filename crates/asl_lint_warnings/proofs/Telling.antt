-- The walk over the parts of a value, one behind another.
use Rattle.std.proofs.Common.{◌≡◌, ℕ, suc, ◌+◌, ◌<◌, Bool, ◌||◌, List, ◌∷◌, ◌++◌, length, get_or, drop, sym, ◌∙◌, ap, add-one, append_assoc}
use Rattle.std.specs.Fmt.{decimal}
use Rattle.std.proofs.lemmas.List.{drop_more}
use Rattle.asl_json_data.specs.Data.{chain, Pairs, pairs}
use Rattle.asl_json.specs.View.{data_of, items_of, members_of}
use Rattle.asl_json.specs.declared.value.Json.{Json}
use Rattle.asl_json.specs.declared.value.Member.{Member}
use Rattle.asl_def_schema.specs.declared.fault.Step.{Step}
use Rattle.asl_def_schema.specs.declared.sort.Sort.{Sort}
use Rattle.asl_def_schema.specs.Members.{Shape, sort_at, item_sort}
use Rattle.asl_def_schema.specs.Claims.{step}
use Rattle.asl_lint_warnings.specs.Kinds.{Noted, noted}
use Rattle.asl_lint_warnings.specs.Handlers.{brings, item_kind}
use Rattle.asl_lint_warnings.specs.Constants.{constant_warnings, constant_items, constant_members, constant_member}
use Rattle.asl_lint_warnings.specs.Warnings.{Spot, further, beside, warnings, item_warnings, member_warnings}

-- two parts are told, and the rest stands behind them
told : (a b c x y rest all : List Noted) → a ++ (x ++ (y ++ rest)) ≡ all → b ≡ a ++ x → c ≡ b ++ y → c ++ rest ≡ all
told a b c x y rest all so_far first second =
    ap (λ (l : List Noted). l ++ rest) (second ∙ ap (λ (l : List Noted). l ++ y) first)
    ∙ append_assoc (a ++ x) y rest ∙ append_assoc a x (y ++ rest) ∙ so_far

pub items_step : (p : Spot) (s : Sort) (before after : List ℕ → Bool) (a b c all : List Noted) (vs : List Json) (i : ℕ) (v : Json) → i < length vs → v ≡ get_or vs i v
    → a ++ item_warnings p s before i (chain (items_of (drop i vs))) ≡ all
    → b ≡ a ++ noted (step i (decimal i) ∷ p.place) (item_kind s before (data_of v))
    → c ≡ b ++ warnings (further p (step i (decimal i))) (item_sort s) (data_of v)
    → ((n : List ℕ) → after n ≡ (before n || brings s (data_of v) n))
    → c ++ item_warnings p s after (i + 1) (chain (items_of (drop (i + 1) vs))) ≡ all
items_step p s before after a b c all vs i v lt at so_far first second grown =
    let d : drop i vs ≡ v ∷ drop (i + 1) vs = drop_more vs i v lt ∙ ap (λ (x : Json). x ∷ drop (i + 1) vs) (sym at) in
    let more : List ℕ → Bool = λ n. before n || brings s (data_of v) n in
    let same : more ≡ after = λ j n. sym (grown n) j in
    let rest = item_warnings p s more (suc i) (chain (items_of (drop (i + 1) vs))) in
    let x = noted (step i (decimal i) ∷ p.place) (item_kind s before (data_of v)) in
    let y = warnings (further p (step i (decimal i))) (item_sort s) (data_of v) in
    let split : a ++ (x ++ (y ++ rest)) ≡ all = ap (λ (xs : List Json). a ++ item_warnings p s before i (chain (items_of xs))) (sym d) ∙ so_far in
    let done : c ++ rest ≡ all = told a b c x y rest all split first second in
    ap (λ (n : ℕ). c ++ item_warnings p s after n (chain (items_of (drop (i + 1) vs)))) (add-one i)
    ∙ ap (λ (f : List ℕ → Bool). c ++ item_warnings p s f (suc i) (chain (items_of (drop (i + 1) vs)))) (sym same)
    ∙ done

pub members_step : (p : Spot) (s : Sort) (sh : Shape) (ps : Pairs) (key : List ℕ) (a b c all : List Noted) (ms : List Member) (i : ℕ) (m : Member) → i < length ms → m ≡ get_or ms i m → key ≡ m.key
    → a ++ member_warnings p s sh ps i (pairs (members_of (drop i ms))) ≡ all
    → b ≡ a ++ beside (further p (step i key)) s ps i m.key (data_of m.value)
    → c ≡ b ++ warnings (further p (step i key)) (sort_at sh m.key) (data_of m.value)
    → c ++ member_warnings p s sh ps (i + 1) (pairs (members_of (drop (i + 1) ms))) ≡ all
members_step p s sh ps key a b c all ms i m lt at named so_far first second =
    let d : drop i ms ≡ m ∷ drop (i + 1) ms = drop_more ms i m lt ∙ ap (λ (x : Member). x ∷ drop (i + 1) ms) (sym at) in
    let rest = member_warnings p s sh ps (suc i) (pairs (members_of (drop (i + 1) ms))) in
    let x = beside (further p (step i m.key)) s ps i m.key (data_of m.value) in
    let y = warnings (further p (step i m.key)) (sort_at sh m.key) (data_of m.value) in
    let split : a ++ (x ++ (y ++ rest)) ≡ all = ap (λ (xs : List Member). a ++ member_warnings p s sh ps i (pairs (members_of xs))) (sym d) ∙ so_far in
    let first2 : b ≡ a ++ x = first ∙ ap (λ (k : List ℕ). a ++ beside (further p (step i k)) s ps i m.key (data_of m.value)) named in
    let second2 : c ≡ b ++ y = second ∙ ap (λ (k : List ℕ). b ++ warnings (further p (step i k)) (sort_at sh m.key) (data_of m.value)) named in
    ap (λ (n : ℕ). c ++ member_warnings p s sh ps n (pairs (members_of (drop (i + 1) ms)))) (add-one i)
    ∙ told a b c x y rest all split first2 second2

-- one part is told, and the rest stands behind it
told_one : (a b x rest all : List Noted) → a ++ (x ++ rest) ≡ all → b ≡ a ++ x → b ++ rest ≡ all
told_one a b x rest all so_far first = ap (λ (l : List Noted). l ++ rest) first ∙ append_assoc a x rest ∙ so_far

pub constants_step : (place : List Step) (a b all : List Noted) (vs : List Json) (i : ℕ) (v : Json) → i < length vs → v ≡ get_or vs i v
    → a ++ constant_items place i (chain (items_of (drop i vs))) ≡ all
    → b ≡ a ++ constant_warnings (step i (decimal i) ∷ place) (data_of v)
    → b ++ constant_items place (i + 1) (chain (items_of (drop (i + 1) vs))) ≡ all
constants_step place a b all vs i v lt at so_far first =
    let d : drop i vs ≡ v ∷ drop (i + 1) vs = drop_more vs i v lt ∙ ap (λ (x : Json). x ∷ drop (i + 1) vs) (sym at) in
    let rest = constant_items place (suc i) (chain (items_of (drop (i + 1) vs))) in
    let x = constant_warnings (step i (decimal i) ∷ place) (data_of v) in
    let split : a ++ (x ++ rest) ≡ all = ap (λ (xs : List Json). a ++ constant_items place i (chain (items_of xs))) (sym d) ∙ so_far in
    ap (λ (n : ℕ). b ++ constant_items place n (chain (items_of (drop (i + 1) vs)))) (add-one i)
    ∙ told_one a b x rest all split first

pub constant_members_step : (place : List Step) (key : List ℕ) (a b all : List Noted) (ms : List Member) (i : ℕ) (m : Member) → i < length ms → m ≡ get_or ms i m → key ≡ m.key
    → a ++ constant_members place i (pairs (members_of (drop i ms))) ≡ all
    → b ≡ a ++ constant_member (step i key ∷ place) m.key (data_of m.value)
    → b ++ constant_members place (i + 1) (pairs (members_of (drop (i + 1) ms))) ≡ all
constant_members_step place key a b all ms i m lt at named so_far first =
    let d : drop i ms ≡ m ∷ drop (i + 1) ms = drop_more ms i m lt ∙ ap (λ (x : Member). x ∷ drop (i + 1) ms) (sym at) in
    let rest = constant_members place (suc i) (pairs (members_of (drop (i + 1) ms))) in
    let x = constant_member (step i m.key ∷ place) m.key (data_of m.value) in
    let split : a ++ (x ++ rest) ≡ all = ap (λ (xs : List Member). a ++ constant_members place i (pairs (members_of xs))) (sym d) ∙ so_far in
    let first2 : b ≡ a ++ x = first ∙ ap (λ (k : List ℕ). a ++ constant_member (step i k ∷ place) m.key (data_of m.value)) named in
    ap (λ (n : ℕ). b ++ constant_members place n (pairs (members_of (drop (i + 1) ms)))) (add-one i)
    ∙ told_one a b x rest all split first2
