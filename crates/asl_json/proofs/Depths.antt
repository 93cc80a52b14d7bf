-- What a value holds is less deep than the value.
use Rattle.std.proofs.Common.{ℕ, suc, ◌≡◌, ◌≤◌, ◌<◌, List, [], ◌∷◌, length, get_or, ap, subst, arith}
use Rattle.asl_json_data.specs.Data.{Data, null, boolean, number, text, list, dict, Chain, no_items, item, Pairs, no_members, chain, pairs, depth, items_depth, members_depth}
use Rattle.asl_json.specs.View.{data_of, items_of, members_of}
use Rattle.asl_json.specs.Meaning.{count}
use Rattle.asl_json.specs.declared.value.Json.{Json}
use Rattle.asl_json.specs.declared.value.Member.{Member}
use Rattle.asl_json.proofs.Sounding.{item_depth, member_depth}
use Rattle.asl_json.specs.Access.{members_in, items_in}

no_member : (ms : List Member) (i : ℕ) → i < length ms → pairs (members_of ms) ≡ no_members → ⊥
no_member [] i lt h = absurd (omega arith)
no_member (x ∷ xs) i lt h = let z : suc (count (pairs (members_of xs))) ≡ 0 = ap count h in absurd (omega (arith, z))

pub member_under : (d : Data) (ms : List Member) (i : ℕ) (m : Member) → i < length ms → m ≡ get_or ms i m → pairs (members_of ms) ≡ members_in d → depth (data_of m.value) < depth d
member_under null ms i m lt e h = absurd (no_member ms i lt h)
member_under (boolean b) ms i m lt e h = absurd (no_member ms i lt h)
member_under (number s) ms i m lt e h = absurd (no_member ms i lt h)
member_under (text s) ms i m lt e h = absurd (no_member ms i lt h)
member_under (list ds) ms i m lt e h = absurd (no_member ms i lt h)
member_under (dict ps) ms i m lt e h =
    let within : depth (data_of m.value) ≤ members_depth ps = subst (λ (x : Pairs). depth (data_of m.value) ≤ members_depth x) h (member_depth ms i m lt e) in
    omega (arith, within)

abbrev length_of : Chain → ℕ
length_of no_items = 0
length_of (item d ds) = suc (length_of ds)

no_item : (vs : List Json) (i : ℕ) → i < length vs → chain (items_of vs) ≡ no_items → ⊥
no_item [] i lt h = absurd (omega arith)
no_item (x ∷ xs) i lt h = let z : suc (length_of (chain (items_of xs))) ≡ 0 = ap length_of h in absurd (omega (arith, z))

pub item_under : (d : Data) (vs : List Json) (i : ℕ) (v : Json) → i < length vs → v ≡ get_or vs i v → chain (items_of vs) ≡ items_in d → depth (data_of v) < depth d
item_under null vs i v lt e h = absurd (no_item vs i lt h)
item_under (boolean b) vs i v lt e h = absurd (no_item vs i lt h)
item_under (number s) vs i v lt e h = absurd (no_item vs i lt h)
item_under (text s) vs i v lt e h = absurd (no_item vs i lt h)
item_under (dict ms) vs i v lt e h = absurd (no_item vs i lt h)
item_under (list ds) vs i v lt e h =
    let within : depth (data_of v) ≤ items_depth ds = subst (λ (x : Chain). depth (data_of v) ≤ items_depth x) h (item_depth vs i v lt e) in
    omega (arith, within)
