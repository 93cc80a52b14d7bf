use Rattle.std.proofs.Common.{◌∙◌}
use Rattle.std.specs.Prelude.{Some, None}
use Rattle.asl_def_states.specs.declared.state.State.{State}
use Rattle.asl_def.proofs.Tables.{looked_up, number_shown}
use Rattle.asl_def.proofs.table.Table.find.Goals as goal

pub returns-in_err-number-clause-number : goal.returns-in_err-number-clause-number
returns-in_err-number-clause-number c = rw (← c.self.view_is, c.from_residual.ensures) (c.in_err-number.ensures.index ∙ number_shown c.args.name.now c.self.inside.states.entries)

pub returns-in_err-number-clause-state : goal.returns-in_err-number-clause-state
returns-in_err-number-clause-state c = rw (← c.self.view_is, c.from_residual.ensures) (looked_up (λ (s : State). s) None c.args.name.now c.self.inside.states.entries c.self.invariant c.in_err-number.ensures.value)

pub returns-clause-number : goal.returns-clause-number
returns-clause-number c = rw (← c.self.view_is) (c.in_ok-number.ensures.index ∙ number_shown c.args.name.now c.self.inside.states.entries)

pub returns-clause-state : goal.returns-clause-state
returns-clause-state c = rw (← c.self.view_is) (looked_up (λ (s : State). s) (Some c.in_ok-number.state.now) c.args.name.now c.self.inside.states.entries c.self.invariant c.in_ok-number.ensures.value)
