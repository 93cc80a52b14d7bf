-- Cutting a list into pieces.
use Rattle.std.proofs.Common.{◌≡◌, ℕ, zero, suc, ◌+◌, ◌-◌, ◌<◌, ◌≤◌, min, nat_le, Bool, true, false, Ok, Result, List, [], ◌∷◌, ◌++◌, length, take, drop, refl, sym, ap, ◌∙◌, arith, append_assoc, length-append}
use Rattle.std.proofs.lemmas.List.{take_min, take-map, drop-map, drop_all}
use Rattle.asl_json_data.specs.Data.{Data, list, chain}
use Rattle.asl_json.specs.View.{data_of, items_of}
use Rattle.asl_json.specs.declared.value.Json.{Json}
use Rattle.asl_intrinsic_functions.specs.Lists.{pieces}
use Rattle.asl_intrinsic_functions.specs.declared.fault.EvalFault.{EvalFault}

piece_more : (most n : ℕ) (ds : List Data) → 0 < most → 0 < length ds → pieces most n ds ≡ list (chain (take n ds)) ∷ pieces (most - 1) n (drop n ds)
piece_more zero n ds lt some = absurd (omega arith)
piece_more (suc most) n [] lt some = absurd (omega arith)
piece_more (suc most) n (d ∷ ds) lt some = let less : suc most - 1 ≡ most = omega arith in rw less refl

-- the front of a list is no longer than it
take_front : (n : ℕ) (vs : List Json) → items_of (take (min n (length vs)) vs) ≡ take n (items_of vs)
take_front n vs = ap items_of (take_min n vs) ∙ sym (take-map data_of n vs)

len_items : (vs : List Json) → length (items_of vs) ≡ length vs
len_items [] = refl
len_items (v ∷ vs) = ap suc (len_items vs)

drop_at : (n : ℕ) (vs : List Json) (b : Bool) → nat_le n (length vs) ≡ b → items_of (drop (min n (length vs)) vs) ≡ drop n (items_of vs)
drop_at n vs true e = let same : min n (length vs) ≡ n = within n (length vs) e in rw same (sym (drop-map data_of n vs))
  where
    within : (n l : ℕ) → nat_le n l ≡ true → min n l ≡ n
    within n l e = grind (arith, e)
drop_at n vs false e =
    let all : min n (length vs) ≡ length vs = beyond n (length vs) e in
    rw all (ap items_of (drop_all (length vs) vs (omega arith)) ∙ sym (drop_all n (items_of vs) (omega (arith, len_items vs, more n (length vs) e))))
  where
    beyond : (n l : ℕ) → nat_le n l ≡ false → min n l ≡ l
    beyond n l e = grind (arith, e)

    more : (n l : ℕ) → nat_le n l ≡ false → l ≤ n
    more n l e = grind (arith, e)

drop_front : (n : ℕ) (vs : List Json) → items_of (drop (min n (length vs)) vs) ≡ drop n (items_of vs)
drop_front n vs = drop_at n vs (nat_le n (length vs)) refl

pub items_push : (vs : List Json) (v : Json) → items_of (vs ++ v ∷ []) ≡ items_of vs ++ data_of v ∷ []
items_push [] v = refl
items_push (w ∷ vs) v = ap (λ (x : List Data). data_of w ∷ x) (items_push vs v)

pub next_piece : (l n : ℕ) (done front rest : List Json) (v : Json) → ◌≡◌ {A = Result Data EvalFault} (Ok (list (chain (items_of front)))) (Ok (data_of v)) → front ≡ take (min n (length rest)) rest → 0 < length rest → length rest + length done ≤ l
    → items_of (done ++ v ∷ []) ++ pieces (l - length (done ++ v ∷ [])) n (items_of (drop (min n (length rest)) rest)) ≡ items_of done ++ pieces (l - length done) n (items_of rest)
next_piece l n done front rest v is e some within =
    let count : l - length (done ++ v ∷ []) ≡ l - length done - 1 = omega (arith, length-append done (v ∷ [])) in
    let shown : data_of v ≡ list (chain (take n (items_of rest))) = sym (ok_same _ _ is) ∙ ap (λ (x : List Json). list (chain (items_of x))) e ∙ ap (λ (x : List Data). list (chain x)) (take_front n rest) in
    rw (items_push done v, count, drop_front n rest, shown) (
    append_assoc (items_of done) (list (chain (take n (items_of rest))) ∷ []) (pieces (l - length done - 1) n (drop n (items_of rest)))
    ∙ ap (λ (x : List Data). items_of done ++ x) (sym (piece_more (l - length done) n (items_of rest) (omega (arith, some, within)) (omega (arith, len_items rest, some)))))
  where
    ok_same : (a b : Data) → ◌≡◌ {A = Result Data EvalFault} (Ok a) (Ok b) → a ≡ b
    ok_same a b h = cc
