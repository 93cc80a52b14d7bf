-- The code by which a proof tells two formulas apart.
use Rattle.std.specs.Prelude.{◌≡◌}
use Rattle.std.proofs.Common.{ap}
use Rattle.std.specs.Coded.{Coded}
use base.Stored.{Gv, gnil, gnum, gcons}
use Rattle.asl_rules.specs.Tree.{Formula, conclusion, implies, AnyOf, one, or, AllOf, alone, and, Operand, atom, denied, group}
use Rattle.asl_rules.specs.contracts.atom.Atom as atoms

abbrev tail : Gv → Gv
tail gnil = gnil
tail (gnum n) = gnil
tail (gcons a b) = b

abbrev head : Gv → Gv
head gnil = gnil
head (gnum n) = gnil
head (gcons a b) = a

abbrev mutual
  pub formula_code : Formula → Gv
  formula_code (conclusion a) = gcons (any_code a) gnil
  formula_code (implies a f) = gcons (any_code a) (formula_code f)

  pub any_code : AnyOf → Gv
  any_code (one a) = gcons (all_code a) gnil
  any_code (or a b) = gcons (all_code a) (any_code b)

  pub all_code : AllOf → Gv
  all_code (alone o) = gcons (operand_code o) gnil
  all_code (and o a) = gcons (operand_code o) (all_code a)

  pub operand_code : Operand → Gv
  operand_code (atom a) = gcons (gnum 0) (atoms.the_row.coded.code a)
  operand_code (denied o) = gcons (gnum 1) (operand_code o)
  operand_code (group f) = gcons (gnum 2) (formula_code f)

mutual
  pub formula_inj : (x y : Formula) → formula_code x ≡ formula_code y → x ≡ y
  formula_inj (conclusion a) (conclusion b) p = ap conclusion (any_inj a b (ap head p))
  formula_inj (implies a f) (implies b g) p = λ i. implies (any_inj a b (ap head p) i) (formula_inj f g (ap tail p) i)
  formula_inj (conclusion a) (implies b (conclusion g)) p = absurd cc
  formula_inj (conclusion a) (implies b (implies c g)) p = absurd cc
  formula_inj (implies a (conclusion f)) (conclusion b) p = absurd cc
  formula_inj (implies a (implies c f)) (conclusion b) p = absurd cc

  pub any_inj : (x y : AnyOf) → any_code x ≡ any_code y → x ≡ y
  any_inj (one a) (one b) p = ap one (all_inj a b (ap head p))
  any_inj (or a f) (or b g) p = λ i. or (all_inj a b (ap head p) i) (any_inj f g (ap tail p) i)
  any_inj (one a) (or b (one g)) p = absurd cc
  any_inj (one a) (or b (or c g)) p = absurd cc
  any_inj (or a (one f)) (one b) p = absurd cc
  any_inj (or a (or c f)) (one b) p = absurd cc

  pub all_inj : (x y : AllOf) → all_code x ≡ all_code y → x ≡ y
  all_inj (alone a) (alone b) p = ap alone (operand_inj a b (ap head p))
  all_inj (and a f) (and b g) p = λ i. and (operand_inj a b (ap head p) i) (all_inj f g (ap tail p) i)
  all_inj (alone a) (and b (alone g)) p = absurd cc
  all_inj (alone a) (and b (and c g)) p = absurd cc
  all_inj (and a (alone f)) (alone b) p = absurd cc
  all_inj (and a (and c f)) (alone b) p = absurd cc

  pub operand_inj : (x y : Operand) → operand_code x ≡ operand_code y → x ≡ y
  operand_inj (atom a) (atom b) p = ap atom (atoms.the_row.coded.inj a b (ap tail p))
  operand_inj (denied a) (denied b) p = ap denied (operand_inj a b (ap tail p))
  operand_inj (group a) (group b) p = ap group (formula_inj a b (ap tail p))
  operand_inj x y p = absurd cc

abbrev pub coded_formula : Coded Formula
coded_formula = record { code = formula_code; inj = formula_inj }

abbrev pub coded_any : Coded AnyOf
coded_any = record { code = any_code; inj = any_inj }

abbrev pub coded_all : Coded AllOf
coded_all = record { code = all_code; inj = all_inj }

abbrev pub coded_operand : Coded Operand
coded_operand = record { code = operand_code; inj = operand_inj }
