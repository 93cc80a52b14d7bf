-- Equality of values says whether they are one.
use Rattle.std.specs.Prelude.{◌≡◌}
use Rattle.std.specs.Bool.{Decides}
use Rattle.std.specs.Cmp.{IsPartialEquivalence, IsEquivalence, decided, partial_equiv_from_equiv}
use Rattle.asl_json_data.specs.Data.{Data}
use Rattle.asl_json.specs.Same.{equal}
use Rattle.asl_def_fields.specs.private.EqualLaws.{data_exact}

pub equal_decides : (x y : Data) → Decides (equal x y) (x ≡ y)
equal_decides = data_exact

pub equal_equivalence : IsEquivalence equal
equal_equivalence = decided equal equal_decides

pub equal_laws : IsPartialEquivalence equal
equal_laws = partial_equiv_from_equiv equal_equivalence
