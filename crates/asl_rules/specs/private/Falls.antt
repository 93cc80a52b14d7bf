-- What a formula holds is smaller than itself.
use Rattle.std.specs.Prelude.{◌≤◌, ◌+◌, max, List, [], ◌∷◌}
use Rattle.std.proofs.Common.{arith}
use denote.Param.Weighed.{most}
use Rattle.asl_rules.specs.Tree.{AnyOf, AllOf, Operand, formula, any_of, all_of, formula_size, any_size, all_size, operand_size}
use Rattle.asl_rules.specs.private.View.{operand}
use Rattle.asl_rules.specs.declared.formula.Node.{Node}
use Rattle.asl_rules.specs.declared.formula.Node.TheVariants.{Atom, Not, Group}
use Rattle.asl_rules.specs.declared.formula.AllOf.TheDeep.{deep-Node}

pub formula_falls : (ps : List AnyOf) (c : AnyOf) → max (most (λ p. any_size p + 1) ps) (max (any_size c + 1) 0) ≤ formula_size (formula ps c)
formula_falls [] c = omega arith
formula_falls (p ∷ ps) c = omega (arith, formula_falls ps c)

pub any_falls : (bs : List AllOf) (a : AllOf) → max (most (λ b. all_size b + 1) bs) (max (all_size a + 1) 0) ≤ any_size (any_of bs a)
any_falls [] a = omega arith
any_falls (b ∷ bs) a = omega (arith, any_falls bs a)

pub all_falls : (ps : List Operand) (o : Operand) → max (most (λ p. operand_size p + 1) ps) (max (operand_size o + 1) 0) ≤ all_size (all_of ps o)
all_falls [] o = omega arith
all_falls (p ∷ ps) o = omega (arith, all_falls ps o)

pub operand_falls : (n : Node) → max (deep-Node n) 0 ≤ operand_size (operand n)
operand_falls (Atom a) = omega arith
operand_falls (Not o) = omega arith
operand_falls (Group f) = omega arith
