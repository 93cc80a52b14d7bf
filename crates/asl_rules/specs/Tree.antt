-- A formula as a tree. Each operator has its operand and what follows, so `=>` associates to the right; with `and` and `or` that makes no
-- difference.
use Rattle.std.specs.Prelude.{ℕ, suc, max, List, [], ◌∷◌}
use Rattle.asl_rules.specs.declared.atom.Atom.{Atom}

mutual
  pub data Formula : Type 0 where
    conclusion : AnyOf → Formula
    -- a premise, and what it implies
    implies : AnyOf → Formula → Formula

  pub data AnyOf : Type 0 where
    one : AllOf → AnyOf
    or : AllOf → AnyOf → AnyOf

  pub data AllOf : Type 0 where
    alone : Operand → AllOf
    and : Operand → AllOf → AllOf

  pub data Operand : Type 0 where
    atom : Atom → Operand
    denied : Operand → Operand
    -- in parentheses
    group : Formula → Operand

-- ---- of lists

abbrev pub formula : List AnyOf → AnyOf → Formula
formula [] c = conclusion c
formula (p ∷ ps) c = implies p (formula ps c)

abbrev pub any_of : List AllOf → AllOf → AnyOf
any_of [] a = one a
any_of (b ∷ bs) a = or b (any_of bs a)

abbrev pub all_of : List Operand → Operand → AllOf
all_of [] o = alone o
all_of (p ∷ ps) o = and p (all_of ps o)

-- ---- how deep a tree is

abbrev mutual
  pub formula_size : Formula → ℕ
  formula_size (conclusion a) = suc (any_size a)
  formula_size (implies a f) = max (suc (any_size a)) (formula_size f)

  pub any_size : AnyOf → ℕ
  any_size (one a) = suc (all_size a)
  any_size (or a b) = max (suc (all_size a)) (any_size b)

  pub all_size : AllOf → ℕ
  all_size (alone o) = suc (operand_size o)
  all_size (and o a) = max (suc (operand_size o)) (all_size a)

  pub operand_size : Operand → ℕ
  operand_size (atom a) = 0
  operand_size (denied o) = suc (operand_size o)
  operand_size (group f) = suc (formula_size f)
