-- How often names come.
use Rattle.std.proofs.Common.{◌≡◌, ℕ, zero, suc, ◌+◌, ◌≤◌, ◌<◌, List, [], ◌∷◌, ◌++◌, length, take, get_or, Bool, true, false, not, refl, sym, ◌∙◌, ap, subst, arith}
use Rattle.std.specs.Prelude.{Option, Some, map, if◌then◌else◌}
use Rattle.std.specs.Cmp.Lexicographic.{same_text}
use Rattle.std.specs.Fmt.{decimal}
use Rattle.asl_json_data.specs.Data.{Data, Pairs, no_members, member, chain, pairs}
use Rattle.asl_json.specs.Same.{bytes_eq}
use Rattle.asl_json.specs.private.SameLaws.{bytes_refl}
use Rattle.asl_json.specs.Meaning.{value_at}
use Rattle.asl_json_data.specs.Distinct.{has_key}
use Rattle.asl_json.specs.View.{data_of, items_of, members_of}
use Rattle.asl_json.specs.declared.value.Json.{Json}
use Rattle.asl_json.specs.declared.value.Member.{Member}
use Rattle.asl_def_schema.specs.declared.fault.Step.{Step}
use Rattle.asl_def_schema.specs.declared.sort.Sort.TheVariants as sort
use Rattle.asl_def_schema.specs.declared.sort.Kind.{Kind}
use Rattle.asl_def_schema.specs.Members.{Shape, shape_of, sort_at, is_among}
use Rattle.asl_def_schema.specs.First.{Each, Hold}
use Rattle.asl_def_schema.specs.States.{Named as StateNamed, further, own_name, states_in, item_states, member_states, unique_claims}
use Rattle.asl_def_schema.specs.Canon.{Named}
use Rattle.asl_def.specs.private.Built.{tally, canon_rows}

pub tally-append : {A : Type 0} (k : List ℕ) (xs ys : List (List ℕ × A)) → tally k (xs ++ ys) ≡ tally k xs + tally k ys
tally-append k [] ys = omega arith
tally-append k (x ∷ xs) ys = omega (arith, tally-append k xs ys)

-- a name that never comes is no key
pub no_key : (k : List ℕ) (t : List Named) → tally k t ≡ 0 → has_key k t ≡ false
no_key k [] e = refl
no_key k (m ∷ ms) e = by (bytes_eq k m.0) refl (no_key k ms)
  where
    by : (b : Bool) → bytes_eq k m.0 ≡ b → (tally k ms ≡ 0 → has_key k ms ≡ false) → has_key k (m ∷ ms) ≡ false
    by true h rest = absurd (let x = rw h at e in omega (arith, x))
    by false h rest = rw h (rest (let x = rw h at e in omega (arith, x)))

pub own_once : (k : List ℕ) (t : List Named) (d : Data) (rest : List Named) → tally k t + tally k ((k, d) ∷ rest) ≤ 1 → has_key k t ≡ false
own_once k t d rest h = no_key k t (let x = rw (bytes_refl k) at h in omega (arith, x))

pub tally-rows : (k : List ℕ) (ms : List Named) → tally k (canon_rows ms) ≡ tally k ms
tally-rows k [] = refl
tally-rows k (m ∷ ms) = omega (arith, tally-rows k ms)

-- ---- names that all differ

times : List ℕ → List (List ℕ) → ℕ
times k [] = 0
times k (n ∷ ns) = (if bytes_eq k n then 1 else 0) + times k ns

times-push : (k : List ℕ) (ns : List (List ℕ)) (n : List ℕ) → times k (ns ++ n ∷ []) ≡ times k ns + (if bytes_eq k n then 1 else 0)
unfolding times
times-push k [] n = omega arith
times-push k (x ∷ ns) n = omega (arith, times-push k ns n)

none_among : (k : List ℕ) (ns : List (List ℕ)) → not (is_among k ns) ≡ true → times k ns ≡ 0
unfolding times
none_among k [] e = refl
none_among k (n ∷ ns) e = by (bytes_eq k n) refl (none_among k ns)
  where
    by : (b : Bool) → bytes_eq k n ≡ b → (not (is_among k ns) ≡ true → times k ns ≡ 0) → times k (n ∷ ns) ≡ 0
    by true h rest = absurd (let x = rw h at e in cc)
    by false h rest = rw h (let x = rw h at e in omega (arith, rest x))

pushed_once : (seen : List (List ℕ)) (n : List ℕ) → not (is_among n seen) ≡ true → ((k : List ℕ) → times k seen ≤ 1) → (k : List ℕ) → times k (seen ++ n ∷ []) ≤ 1
pushed_once seen n new once k = by (bytes_eq k n) refl
  where
    by : (b : Bool) → bytes_eq k n ≡ b → times k (seen ++ n ∷ []) ≤ 1
    by true h =
        let none : times k seen ≡ 0 = subst (λ (l : List ℕ). times l seen ≡ 0) (sym (same_text k n (sym h))) (none_among n seen new) in
        rw (times-push k seen n, h) (omega (arith, none))
    by false h = rw (times-push k seen n, h) (omega (arith, once k))

once_behind : (seen : List (List ℕ)) (ns : List StateNamed) → Each Hold (unique_claims seen ns) → ((k : List ℕ) → times k seen ≤ 1) → (k : List ℕ) → times k seen + tally k ns ≤ 1
once_behind seen [] h once k = omega (arith, once k)
once_behind seen (n ∷ ns) h once k = omega (arith, times-push k seen n.0, once_behind (seen ++ n.0 ∷ []) ns h.1 (pushed_once seen n.0 h.0 once) k)

pub unique_once : (ns : List StateNamed) → Each Hold (unique_claims [] ns) → (k : List ℕ) → tally k ns ≤ 1
unfolding times
unique_once ns h k = omega (arith, once_behind [] ns h (λ l. omega arith) k)

-- ---- the states of a value

tally-under : (k : List ℕ) (s : Step) (ns : List StateNamed) → tally k (map (further s) ns) ≡ tally k ns
tally-under k s [] = refl
tally-under k s (n ∷ ns) = omega (arith, tally-under k s ns)

-- those of a member are among those of its object
pub tally_member : (k name : List ℕ) (sh : Shape) (i : ℕ) (ms : Pairs) (d : Data) → value_at name ms ≡ Some d → tally k (states_in (sort_at sh name) d) ≤ tally k (member_states sh i ms)
tally_member k name sh i no_members d e = absurd cc
tally_member k name sh i (member l v ms) d e = by (bytes_eq name l) refl (λ f. tally_member k name sh (suc i) ms d f)
  where
    own : List StateNamed
    own = own_name (sort_at sh l) l

    step : Step
    step = record { at = i; name = l }

    parts : tally k (member_states sh i (member l v ms)) ≡ (tally k own + tally k (states_in (sort_at sh l) v)) + tally k (member_states sh (suc i) ms)
    parts = tally-append k (map (further step) (own ++ states_in (sort_at sh l) v)) (member_states sh (suc i) ms) ∙ ap (λ (n : ℕ). n + tally k (member_states sh (suc i) ms)) (tally-under k step (own ++ states_in (sort_at sh l) v) ∙ tally-append k own (states_in (sort_at sh l) v))

    by : (b : Bool) → bytes_eq name l ≡ b → (value_at name ms ≡ Some d → tally k (states_in (sort_at sh name) d) ≤ tally k (member_states sh (suc i) ms)) → tally k (states_in (sort_at sh name) d) ≤ tally k (member_states sh i (member l v ms))
    by true h rest =
        let same : v ≡ d = let x = rw h at e in cc in
        let named : name ≡ l = same_text name l (sym h) in
        subst (λ (x : Data). tally k (states_in (sort_at sh name) x) ≤ tally k (member_states sh i (member l v ms))) same
        (subst (λ (n : List ℕ). tally k (states_in (sort_at sh n) v) ≤ tally k (member_states sh i (member l v ms))) (sym named) (omega (arith, parts)))
    by false h rest = omega (arith, parts, rest (rw h at e))

-- those inside the states of a machine
abbrev pub inner : List ℕ → List Named → ℕ
inner k [] = 0
inner k (m ∷ ms) = tally k (states_in sort.State m.1) + inner k ms

pub tally_states : (k : List ℕ) (o : Option Kind) (i : ℕ) (ms : List Named) → tally k (member_states (shape_of sort.States o) i (pairs ms)) ≡ tally k ms + inner k ms
tally_states k o i [] = refl
tally_states k o i (m ∷ ms) =
    let step : Step = record { at = i; name = m.0 } in
    let own : List StateNamed = (m.0, []) ∷ [] in
    let here = tally-append k (map (further step) (own ++ states_in sort.State m.1)) (member_states (shape_of sort.States o) (suc i) (pairs ms)) in
    omega (arith, here, tally-under k step (own ++ states_in sort.State m.1), tally_states k o (suc i) ms)

pub inner_at : (k : List ℕ) (ms : List Member) (i : ℕ) (m : Member) → i < length ms → m ≡ get_or ms i m → inner k (members_of (take i ms)) + tally k (states_in sort.State (data_of m.value)) ≤ inner k (members_of ms)
inner_at k [] i m lt e = absurd (omega arith)
inner_at k (x ∷ ms) zero m lt e =
    let same : tally k (states_in sort.State (data_of m.value)) ≡ tally k (states_in sort.State (data_of x.value)) = ap (λ (y : Member). tally k (states_in sort.State (data_of y.value))) e in
    omega (arith, same)
inner_at k (x ∷ ms) (suc i) m lt e = omega (arith, inner_at k ms i m (omega arith) e)

-- those of machines, one after another
abbrev pub within_items : List ℕ → List Data → ℕ
within_items k [] = 0
within_items k (d ∷ ds) = tally k (states_in sort.Machine d) + within_items k ds

pub tally_items : (k : List ℕ) (i : ℕ) (ds : List Data) → tally k (item_states sort.Machine i (chain ds)) ≡ within_items k ds
tally_items k i [] = refl
tally_items k i (d ∷ ds) =
    let step : Step = record { at = i; name = decimal i } in
    omega (arith, tally-append k (map (further step) (states_in sort.Machine d)) (item_states sort.Machine (suc i) (chain ds)), tally-under k step (states_in sort.Machine d), tally_items k (suc i) ds)

pub items_at : (k : List ℕ) (vs : List Json) (i : ℕ) (v : Json) → i < length vs → v ≡ get_or vs i v → within_items k (items_of (take i vs)) + tally k (states_in sort.Machine (data_of v)) ≤ within_items k (items_of vs)
items_at k [] i v lt e = absurd (omega arith)
items_at k (x ∷ vs) zero v lt e =
    let same : tally k (states_in sort.Machine (data_of v)) ≡ tally k (states_in sort.Machine (data_of x)) = ap (λ (y : Json). tally k (states_in sort.Machine (data_of y))) e in
    omega (arith, same)
items_at k (x ∷ vs) (suc i) v lt e = omega (arith, items_at k vs i v (omega arith) e)
