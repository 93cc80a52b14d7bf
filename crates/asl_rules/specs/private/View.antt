-- What a clause sees of an operand.
use Rattle.asl_rules.specs.Tree as tree
use Rattle.asl_rules.specs.declared.formula.Node.{Node}
use Rattle.asl_rules.specs.declared.formula.Node.TheVariants.{Atom, Not, Group}

abbrev pub operand : Node → tree.Operand
operand (Atom a) = tree.atom a
operand (Not o) = tree.denied o.value
operand (Group f) = tree.group f.value
