-- A part of a value with several owners.
use Rattle.std.proofs.Common.{ℕ, ◌≡◌, ◌<◌, ◌∙◌, List, length, ap, sym, get_or, arith}
use Rattle.std.specs.Prelude.{Some, slice_get}
use Rattle.std.proofs.lemmas.List.{length-map}
use Rattle.std.proofs.lemmas.Option.{slice_get-get_or}
use Rattle.asl_json_data.specs.Data.{Data, null}
use Rattle.asl_json.specs.View.{data_of, items_of, json_of-data_of, data_of-json_of}
use Rattle.asl_json_shared.specs.Sharing.{items_in, value_or_null, part_in}
use Rattle.asl_json.specs.declared.value.Json.{Json}
use Rattle.asl_json.specs.declared.value.Json.TheVariants.{List as JsonList}
use Rattle.asl_json.proofs.Accessing.{item_here}

read_is_shown : (ds : List Data) (i : ℕ) (v : Json) → slice_get ds i ≡ Some (data_of v) → v ≡ value_or_null (slice_get ds i)
read_is_shown ds i v e = rw e (sym (json_of-data_of v))

-- what is read of a list's values is the part
pub read_is_part : (w : Json) (ds : List Data) (vs : List Json) (i : ℕ) (v : Json) → w ≡ JsonList ds → items_of vs ≡ ds → i < length (items_in w) → v ≡ get_or vs i v → v ≡ part_in w (Some i)
read_is_part w ds vs i v is shown lt e =
    let long : length (items_in w) ≡ length (items_of vs) = ap (λ (z : Json). length (items_in z)) is ∙ ap length (sym shown) in
    rw (is, ← shown) (read_is_shown (items_of vs) i v (item_here vs i v (omega (arith, lt, long, length-map vs data_of)) e))

kept : (ds : List Data) (i : ℕ) → i < length ds → Some (data_of (value_or_null (slice_get ds i))) ≡ slice_get ds i
kept ds i lt = rw (slice_get-get_or ds i null lt) (ap (λ (z : Data). Some z) (data_of-json_of (get_or ds i null)))

-- a part that is there is the item
pub part_is_item : (w : Json) (ds : List Data) (i : ℕ) → items_in w ≡ ds → i < length ds → Some (data_of (part_in w (Some i))) ≡ slice_get ds i
part_is_item w ds i is lt = rw is (kept ds i lt)
