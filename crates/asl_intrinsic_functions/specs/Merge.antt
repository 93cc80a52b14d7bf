-- `States.JsonMerge` (Amazon States Language, "Intrinsic Functions").
use Rattle.std.specs.Prelude.{ℕ, false, not, List, ◌++◌, map, Ok}
use Rattle.std.specs.List.{filter}
use Rattle.std.specs.Option.{unwrap_or}
use Rattle.asl_json_data.specs.Results.{◌>>=◌}
use Rattle.asl_json_data.specs.Data.{Data, boolean, dict, pairs}
use Rattle.asl_json_data.specs.Distinct.{Members, has_key}
use Rattle.asl_json.specs.Meaning.{value_at}
use Rattle.asl_intrinsic_functions.specs.Outcome.{Outcome, fails}
use Rattle.asl_intrinsic_functions.specs.Converting.{object_in}
use Rattle.asl_intrinsic_functions.specs.declared.fault.Reason.TheVariants.{Unfit}

-- a member m, with the value of ns where ns has its key
abbrev pub overridden : Members → List ℕ × Data → List ℕ × Data
overridden ns m = (m.0, unwrap_or (value_at m.0 (pairs ns)) m.1)

-- the members of ms in order, with the values of ns where ns has the key; then the others of ns
-- (Developer Guide, "Intrinsics for JSON data manipulation": shallow mode)
abbrev pub merged : Members → Members → Members
merged ms ns = map (overridden ns) ms ++ filter (λ n. not (has_key n.0 ms)) ns

-- only the shallow merge is there, which the third argument asks for
abbrev pub false_in : Data → Outcome (Unit {0})
false_in (boolean false) = Ok tt
false_in d = fails Unfit

-- `States.JsonMerge(a, b, false)`: no key comes twice in a or in b
abbrev pub json_merge : Data → Data → Data → Outcome Data
json_merge d e f = do
  ms ← object_in d
  ns ← object_in e
  u ← false_in f
  Ok (dict (pairs (merged ms ns)))
