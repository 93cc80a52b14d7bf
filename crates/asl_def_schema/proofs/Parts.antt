-- The items of a list and the states of a machine that are without faults.
use Rattle.std.proofs.Common.{◌≡◌, ℕ, zero, suc, ◌<◌, List, [], ◌∷◌, ◌++◌, length, get_or, Bool, true, refl, sym, subst, arith}
use Rattle.std.specs.Prelude.{Option, map, codes, not}
use Rattle.std.specs.Fmt.{decimal}
use Rattle.asl_json_data.specs.Data.{Data, list, dict, chain, pairs}
use Rattle.asl_json.specs.Meaning.{value_at}
use Rattle.asl_json_data.specs.Distinct.{Members}
use Rattle.asl_json.specs.View.{data_of, items_of, members_of}
use Rattle.asl_json.specs.declared.value.Json.{Json}
use Rattle.asl_json.specs.declared.value.Member.{Member}
use Rattle.asl_def_schema.specs.declared.sort.Sort.{Sort}
use Rattle.asl_def_schema.specs.declared.sort.Sort.TheVariants as sort
use Rattle.asl_def_schema.specs.declared.sort.Kind.{Kind}
use Rattle.asl_def_schema.specs.Members.{shape_of, kind_named, item_sort}
use Rattle.asl_def_schema.specs.Claims.{Spot, step, under, heres, demands, claims, at_item, at_member, item_claims, member_claims, is_nonempty, is_list, is_name}
use Rattle.asl_def_schema.specs.First.{Each, Hold}
use Rattle.asl_def_schema.specs.Clean.{IsCleanAmong, AreItemsClean, AreStatesClean}
use Rattle.asl_def_schema.proofs.Inside.{each_left, each_right, each_under, own_hold, object_inside}

items_hold : (names : List ℕ → Bool) (p : Spot) (s : Sort) (i : ℕ) (ds : List Data) → ((k : List ℕ) → p.names k ≡ names k) → Each Hold (item_claims p s i (chain ds)) → AreItemsClean names s ds
items_hold names p s i [] named h = tt
items_hold names p s i (d ∷ ds) named h =
    let spot = at_item p (not (is_nonempty (chain ds))) in
    let part = map (under (step i (decimal i))) (claims spot s d) in
    let rest = item_claims p s (suc i) (chain ds) in
    let first : IsCleanAmong names s d = record { spot = spot; named = named; hold = each_under (step i (decimal i)) (claims spot s d) (each_left Hold part rest h) } in
    (first, items_hold names p s (suc i) ds named (each_right Hold part rest h))

pub items_clean : (names : List ℕ → Bool) (s : Sort) (ds : List Data) → is_list s ≡ true → IsCleanAmong names s (list (chain ds)) → AreItemsClean names (item_sort s) ds
items_clean names s ds e c =
    let own = heres (demands c.spot s (list (chain ds))) in
    let all = c.hold in
    items_hold names c.spot (item_sort s) 0 ds c.named (each_right Hold own (item_claims c.spot (item_sort s) 0 (chain ds)) (rw e at all))

pub item_clean : (names : List ℕ → Bool) (s : Sort) (vs : List Json) (i : ℕ) (v : Json) → AreItemsClean names s (items_of vs) → i < length vs → v ≡ get_or vs i v → IsCleanAmong names s (data_of v)
item_clean names s [] i v h lt e = absurd (omega arith)
item_clean names s (x ∷ vs) zero v h lt e = subst (λ (y : Json). IsCleanAmong names s (data_of y)) (sym e) h.0
item_clean names s (x ∷ vs) (suc i) v h lt e = item_clean names s vs i v h.1 (omega arith) e

states_hold : (names : List ℕ → Bool) (p : Spot) (seen : Members) (i : ℕ) (ms : Members) (o : Option Kind) → ((k : List ℕ) → p.names k ≡ names k) → Each Hold (member_claims p (shape_of sort.States o) seen i (pairs ms)) → AreStatesClean names ms
states_hold names p seen i [] o named h = tt
states_hold names p seen i (m ∷ ms) o named h =
    let spot = at_member p (shape_of sort.States o) seen m.0 m.1 in
    let part = map (under (step i m.0)) (claims spot sort.State m.1) in
    let rest = member_claims p (shape_of sort.States o) (seen ++ m ∷ []) (suc i) (pairs ms) in
    let own = each_under (step i m.0) (claims spot sort.State m.1) (each_left Hold part rest h) in
    let first : IsCleanAmong names sort.State m.1 = record { spot = spot; named = named; hold = own } in
    (first, (own_hold spot sort.State m.1 own).1.0, states_hold names p (seen ++ m ∷ []) (suc i) ms o named (each_right Hold part rest h))

pub states_clean : (names : List ℕ → Bool) (ms : Members) → IsCleanAmong names sort.States (dict (pairs ms)) → AreStatesClean names ms
states_clean names ms c =
    let o = kind_named (value_at (codes "Type") (pairs ms)) in
    let inside = object_inside names sort.States (pairs ms) refl c in
    states_hold names inside.spot [] 0 ms o inside.named inside.members

pub state_clean : (names : List ℕ → Bool) (ms : List Member) (i : ℕ) (m : Member) → AreStatesClean names (members_of ms) → i < length ms → m ≡ get_or ms i m → IsCleanAmong names sort.State (data_of m.value)
state_clean names [] i m h lt e = absurd (omega arith)
state_clean names (x ∷ ms) zero m h lt e = subst (λ (y : Member). IsCleanAmong names sort.State (data_of y.value)) (sym e) h.0
state_clean names (x ∷ ms) (suc i) m h lt e = state_clean names ms i m h.2 (omega arith) e

-- the name of a state has from 1 to 80 characters
pub state_named : (names : List ℕ → Bool) (ms : List Member) (i : ℕ) (m : Member) → AreStatesClean names (members_of ms) → i < length ms → m ≡ get_or ms i m → is_name m.key ≡ true
state_named names [] i m h lt e = absurd (omega arith)
state_named names (x ∷ ms) zero m h lt e = subst (λ (y : Member). is_name y.key ≡ true) (sym e) h.1
state_named names (x ∷ ms) (suc i) m h lt e = state_named names ms i m h.2 (omega arith) e
