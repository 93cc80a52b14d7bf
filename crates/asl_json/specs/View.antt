-- What a clause sees of a value.
use Rattle.std.specs.Prelude.{◌≡◌, List, [], ◌∷◌, ℕ, map, refl}
use Rattle.std.proofs.Common.{ap, sym, ◌∙◌}
use Rattle.asl_json_data.specs.Data as spec
use Rattle.asl_json_data.specs.Data.{Data, Chain, no_items, item, Pairs, no_members, member, chain, pairs}
use Rattle.asl_json.specs.declared.value.Json.{Json}
use Rattle.asl_json.specs.declared.value.Json.TheVariants.{Null, Bool, Num, Text, List as JsonList, Dict}
use Rattle.asl_json.specs.declared.value.Member.{Member}

abbrev pub data_of : Json → Data
data_of Null = spec.null
data_of (Bool b) = spec.boolean b
data_of (Num s) = spec.number s
data_of (Text s) = spec.text s
data_of (JsonList ds) = spec.list (chain ds)
data_of (Dict ms) = spec.dict (pairs ms)

abbrev pub items_of : List Json → List Data
items_of vs = map data_of vs

abbrev pub member_of : Member → List ℕ × Data
member_of m = (m.key, data_of m.value)

abbrev pub members_of : List Member → List (List ℕ × Data)
members_of ms = map member_of ms

-- ---- and back

abbrev pub unchained : Chain → List Data
unchained no_items = []
unchained (item d ds) = d ∷ unchained ds

abbrev pub unpaired : Pairs → List (List ℕ × Data)
unpaired no_members = []
unpaired (member k d ms) = (k, d) ∷ unpaired ms

-- the value of these data
abbrev pub json_of : Data → Json
json_of spec.null = Null
json_of (spec.boolean b) = Bool b
json_of (spec.number s) = Num s
json_of (spec.text s) = Text s
json_of (spec.list ds) = JsonList (unchained ds)
json_of (spec.dict ms) = Dict (unpaired ms)

unchained-chain : (ds : List Data) → unchained (chain ds) ≡ ds
unchained-chain [] = refl
unchained-chain (d ∷ ds) = ap (λ (x : List Data). d ∷ x) (unchained-chain ds)

pub unpaired-pairs : (ms : List (List ℕ × Data)) → unpaired (pairs ms) ≡ ms
unpaired-pairs [] = refl
unpaired-pairs (m ∷ ms) = ap (λ (x : List (List ℕ × Data)). m ∷ x) (unpaired-pairs ms)

chain-unchained : (ds : Chain) → chain (unchained ds) ≡ ds
chain-unchained no_items = refl
chain-unchained (item d ds) = ap (item d) (chain-unchained ds)

pub pairs-unpaired : (ms : Pairs) → pairs (unpaired ms) ≡ ms
pairs-unpaired no_members = refl
pairs-unpaired (member k d ms) = ap (member k d) (pairs-unpaired ms)

pub json_of-data_of : (v : Json) → json_of (data_of v) ≡ v
json_of-data_of Null = refl
json_of-data_of (Bool b) = refl
json_of-data_of (Num s) = refl
json_of-data_of (Text s) = refl
json_of-data_of (JsonList ds) = ap JsonList (unchained-chain ds)
json_of-data_of (Dict ms) = ap Dict (unpaired-pairs ms)

pub data_of-json_of : (d : Data) → data_of (json_of d) ≡ d
data_of-json_of spec.null = refl
data_of-json_of (spec.boolean b) = refl
data_of-json_of (spec.number s) = refl
data_of-json_of (spec.text s) = refl
data_of-json_of (spec.list ds) = ap spec.list (chain-unchained ds)
data_of-json_of (spec.dict ms) = ap spec.dict (pairs-unpaired ms)

-- values of one data are one
pub same_json : (v w : Json) → data_of v ≡ data_of w → v ≡ w
same_json v w e = sym (json_of-data_of v) ∙ ap json_of e ∙ json_of-data_of w
