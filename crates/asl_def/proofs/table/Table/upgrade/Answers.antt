use Rattle.std.proofs.Common.{[], ap, ◌∙◌, sym, subst}
use Rattle.asl_def_states.specs.Show.{shown, AreInOrder}
use Rattle.asl_def.proofs.NewerShown.{order_newer, shown_newer}
use Rattle.asl_def.proofs.table.Table.upgrade.Goals as goal

pub invariant_of-self : goal.invariant_of-self
invariant_of-self c = subst (AreInOrder 0) (sym c.upgrade_all.ensures) (order_newer 0 c.self.inside.states.entries c.self.invariant)

pub returns : goal.returns
returns c = rw (← c.self.view_is) (ap (shown []) c.upgrade_all.ensures ∙ shown_newer [] c.self.inside.states.entries)
