-- What every value has, in the parts of a value, one part after the other.
use Rattle.std.proofs.Common.{◌≡◌, ℕ, zero, suc, ◌+◌, ◌<◌, ◌≤◌, List, [], ◌∷◌, length, get_or, drop, sym, ◌∙◌, subst, ap, arith}
use Rattle.std.proofs.lemmas.List.{drop_more, drop_all}
use Rattle.std.specs.Str.{IsUtf8}
use Rattle.asl_json_data.specs.Data.{Data, dict, chain, pairs, depth, items_depth, members_depth}
use Rattle.asl_json_data.specs.Distinct.{Members, AreDistinct}
use Rattle.asl_json.specs.Sound.{KeysDiffer, KeysDifferInItems, KeysDifferInMembers, IsSound, AreSoundItems, AreSoundMembers}
use Rattle.asl_json.specs.View.{data_of, items_of, members_of, unpaired, unpaired-pairs}
use Rattle.asl_json.specs.declared.value.Json.{Json}
use Rattle.asl_json.specs.declared.value.Member.{Member}

-- ---- a part is no deeper than its whole

pub item_depth : (vs : List Json) (i : ℕ) (v : Json) → i < length vs → v ≡ get_or vs i v → depth (data_of v) ≤ items_depth (chain (items_of vs))
item_depth [] i v lt e = absurd (omega arith)
item_depth (x ∷ xs) zero v lt e = rw e (omega arith)
item_depth (x ∷ xs) (suc i) v lt e = omega (arith, item_depth xs i v (omega arith) e)

pub member_depth : (ms : List Member) (i : ℕ) (m : Member) → i < length ms → m ≡ get_or ms i m → depth (data_of m.value) ≤ members_depth (pairs (members_of ms))
member_depth [] i m lt e = absurd (omega arith)
member_depth (x ∷ xs) zero m lt e = rw e (omega arith)
member_depth (x ∷ xs) (suc i) m lt e = omega (arith, member_depth xs i m (omega arith) e)

-- ---- what the rest has, all have

abbrev HaveItems : List Json → Type 0
HaveItems vs = KeysDifferInItems (chain (items_of vs)) × AreSoundItems (chain (items_of vs))

abbrev HaveMembers : List Member → Type 0
HaveMembers ms = KeysDifferInMembers (pairs (members_of ms)) × AreSoundMembers (pairs (members_of ms))

abbrev pub ItemsGo : List Json → List Json → Type 0
ItemsGo rest all = HaveItems rest → HaveItems all

abbrev pub MembersGo : List Member → List Member → Type 0
MembersGo rest all = HaveMembers rest → HaveMembers all

pub items_go : (vs : List Json) (i : ℕ) (v : Json) → i < length vs → v ≡ get_or vs i v → KeysDiffer (data_of v) → IsSound (data_of v) → ItemsGo (drop i vs) vs → ItemsGo (drop (i + 1) vs) vs
items_go vs i v lt at keys sound go =
    let split : drop i vs ≡ v ∷ drop (i + 1) vs = drop_more vs i v lt ∙ ap (λ (x : Json). x ∷ drop (i + 1) vs) (sym at) in
    let all : ItemsGo (v ∷ drop (i + 1) vs) vs = subst (λ (xs : List Json). ItemsGo xs vs) split go in
    λ h. all ((keys, h.0), (sound, h.1))

pub items_gone : (vs : List Json) (i : ℕ) → length vs ≤ i → ItemsGo (drop i vs) vs → HaveItems vs
items_gone vs i past go =
    let all : ItemsGo [] vs = subst (λ (xs : List Json). ItemsGo xs vs) (drop_all i vs past) go in
    all (tt, tt)

pub members_go : (ms : List Member) (i : ℕ) (m : Member) → i < length ms → m ≡ get_or ms i m → IsUtf8 m.key → KeysDiffer (data_of m.value) → IsSound (data_of m.value) → MembersGo (drop i ms) ms → MembersGo (drop (i + 1) ms) ms
members_go ms i m lt at utf8 keys sound go =
    let split : drop i ms ≡ m ∷ drop (i + 1) ms = drop_more ms i m lt ∙ ap (λ (x : Member). x ∷ drop (i + 1) ms) (sym at) in
    let all : MembersGo (m ∷ drop (i + 1) ms) ms = subst (λ (xs : List Member). MembersGo xs ms) split go in
    λ h. all ((keys, h.0), (utf8, (sound, h.1)))

pub members_gone : (ms : List Member) (i : ℕ) → length ms ≤ i → MembersGo (drop i ms) ms → HaveMembers ms
members_gone ms i past go =
    let all : MembersGo [] ms = subst (λ (xs : List Member). MembersGo xs ms) (drop_all i ms past) go in
    all (tt, tt)

pub object_differs : (d : Data) (ms : Members) → d ≡ dict (pairs ms) → AreDistinct [] ms → KeysDifferInMembers (pairs ms) → KeysDiffer d
object_differs d ms e distinct h = subst KeysDiffer (sym e) (subst (AreDistinct []) (sym (unpaired-pairs ms)) distinct, h)
