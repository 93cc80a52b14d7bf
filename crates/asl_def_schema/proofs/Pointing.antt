-- The text of a place, from the outermost step in.
use Rattle.std.proofs.Common.{◌≡◌, ℕ, ◌+◌, ◌-◌, ◌<◌, List, ◌++◌, length, get_or, drop, reverse}
use Rattle.asl_json_write.proofs.Pointing.{one_further}
use Rattle.asl_def_schema.specs.declared.fault.Step.{Step}
use Rattle.asl_def_schema.specs.Pointers.{pointer_part, pointer_text}

pub pointer_step : (ss : List Step) (i : ℕ) (s : Step) (old new : List ℕ) → i < length ss → s ≡ get_or ss (length ss - 1 - i) s → old ≡ pointer_text (reverse (drop (length ss - i) ss)) → new ≡ old ++ pointer_part s → new ≡ pointer_text (reverse (drop (length ss - (i + 1)) ss))
pointer_step = one_further pointer_part
