-- The text of a place: a JSON Pointer (RFC 6901, sections 3 and 4).
use Rattle.std.specs.Prelude.{ℕ, List}
use Rattle.std.specs.List.{flat_map}
use Rattle.asl_json_write.specs.Pointers.{name_part}
use Rattle.asl_def_schema.specs.declared.fault.Step.{Step}

abbrev pub pointer_part : Step → List ℕ
pointer_part s = name_part s.name

abbrev pub pointer_text : List Step → List ℕ
pointer_text ss = flat_map pointer_part ss
