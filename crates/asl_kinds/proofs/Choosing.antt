-- Where a Choice goes on, by what its rules say.
use Rattle.std.proofs.Common.{◌≡◌, List, codes, refl, sym}
use Rattle.std.specs.Prelude.{Option, Some, Result}
use Rattle.asl_json_data.specs.Data.{Data, list, chain}
use Rattle.asl_intrinsic_functions.proofs.Converting.{list_back}
use Rattle.asl_json.specs.Meaning.{value_in}
use Rattle.asl_choice.specs.Truth.{Fault}
use Rattle.asl_def_states.specs.Choosing.{chosen_next}
use Rattle.asl_kinds.specs.Members.{target_by, chosen_target}

pub decided_by : (d y c : Data) (rules : List Data) (r : Result (Option Data) Fault) → Some (list (chain rules)) ≡ value_in (codes "Choices") d → r ≡ chosen_next rules y c → chosen_target d y c ≡ target_by (value_in (codes "Default") d) r
decided_by d y c rules r choices next = rw (sym choices, list_back rules, sym next) refl
