-- Equality is an equivalence.
use Rattle.std.specs.Cmp.{IsPartialEquivalence, IsEquivalence, partial_equiv_from_equiv}
use Rattle.std.specs.Cmp.Lexicographic.{lists_equiv}
use Rattle.asl_def_shared.specs.contracts.body.BodyEq.TheImpl.Laws as laws
use Rattle.asl_def_shared.specs.Equal.{bodies_equal}

pub bodies_equivalence : IsEquivalence bodies_equal
bodies_equivalence = lists_equiv laws.laws-law

pub bodies_laws : IsPartialEquivalence bodies_equal
bodies_laws = partial_equiv_from_equiv bodies_equivalence
