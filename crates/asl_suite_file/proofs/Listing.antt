-- Lists as their items, and back.
use Rattle.std.proofs.Common.{◌≡◌, List, [], ap}
use Rattle.asl_json_data.specs.Data.{Data, chain}
use Rattle.asl_json.specs.View.{json_of-data_of, unchained}
use Rattle.asl_json.specs.declared.value.Json.{Json}
use Rattle.asl_json.specs.declared.value.Json.TheVariants.{List as JsonList}

abbrev listed : Json → List Data
listed (JsonList ds) = ds
listed v = []

pub unchained_chain : (ds : List Data) → unchained (chain ds) ≡ ds
unchained_chain ds = ap listed (json_of-data_of (JsonList ds))
