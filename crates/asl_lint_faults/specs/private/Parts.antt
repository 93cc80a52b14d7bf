-- The demands on a list, one by one.
use Rattle.std.specs.Prelude.{List, [], ◌∷◌, ◌&&◌, nat_le, Option, Some, None}
use Rattle.asl_json_data.specs.Data.{Chain}
use Rattle.asl_def_schema.specs.declared.fault.FaultKind.{FaultKind}
use Rattle.asl_def_schema.specs.declared.sort.Sort.{Sort}
use Rattle.asl_def_schema.specs.declared.sort.Sort.TheVariants as sort
use Rattle.asl_def_schema.specs.Demands.{Demand, in_range, last}
use Rattle.asl_def_schema.specs.Claims.{Spot, is_nonempty, item_count, is_last}
use Rattle.asl_def_schema.specs.First.{Found}

abbrev pub count_demands : Sort → Chain → List Demand
count_demands sort.Machines ds = in_range (is_nonempty ds && nat_le (item_count ds) 999999999) ∷ []
count_demands sort.Rules ds = in_range (is_nonempty ds) ∷ []
count_demands sort.InnerRules ds = in_range (is_nonempty ds) ∷ []
count_demands sort.ErrorNames ds = in_range (is_nonempty ds) ∷ []
count_demands s ds = []

abbrev pub last_demands : Spot → Sort → Chain → List Demand
last_demands p sort.ErrorNames ds = last (is_last p.ends ds) ∷ []
last_demands p s ds = []

-- a fault at its own place, where there is one
abbrev pub listed : Option FaultKind → List Found
listed None = []
listed (Some k) = (k, []) ∷ []
