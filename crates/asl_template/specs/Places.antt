-- The text of a place: a JSON Pointer (RFC 6901, sections 3 and 4).
use Rattle.std.specs.Prelude.{ℕ, List}
use Rattle.std.specs.List.{flat_map}
use Rattle.asl_json_write.specs.Pointers.{name_part, index_part}
use Rattle.asl_path.specs.declared.step.Step.{Step}
use Rattle.asl_path.specs.declared.step.Step.TheVariants.{Name, Index}

abbrev pub step_part : Step → List ℕ
step_part (Name k) = name_part k
step_part (Index i) = index_part i

abbrev pub pointer_text : List Step → List ℕ
pointer_text ss = flat_map step_part ss
