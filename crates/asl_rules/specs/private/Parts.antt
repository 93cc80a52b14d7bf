-- What a formula has so far, while it is read.
use Rattle.std.specs.Prelude.{List, [], ◌∷◌, ◌++◌}
use Rattle.asl_rules.specs.Tree.{Formula, AnyOf, AllOf, Operand, any_of, all_of, formula}

-- premises, formulas with an `or` behind each, operands with an `and` behind each
abbrev pub Parts : Type 0
Parts = List AnyOf × (List AllOf × List Operand)

abbrev pub premises : Parts → List AnyOf
premises p = p.0

abbrev pub terms : Parts → List AllOf
terms p = (p.1).0

abbrev pub factors : Parts → List Operand
factors p = (p.1).1

abbrev pub no_parts : Parts
no_parts = ([], ([], []))

-- with an operand, and `and` behind it
abbrev pub with_and : Parts → Operand → Parts
with_and p o = (premises p, (terms p, factors p ++ o ∷ []))

-- and `or` behind it
abbrev pub with_or : Parts → Operand → Parts
with_or p o = (premises p, (terms p ++ all_of (factors p) o ∷ [], []))

-- and `=>` behind it
abbrev pub with_implies : Parts → Operand → Parts
with_implies p o = (premises p ++ any_of (terms p) (all_of (factors p) o) ∷ [], ([], []))

-- the formula that ends with an operand
abbrev pub whole : Parts → Operand → Formula
whole p o = formula (premises p) (any_of (terms p) (all_of (factors p) o))
