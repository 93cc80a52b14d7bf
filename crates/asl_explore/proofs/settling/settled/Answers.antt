use Rattle.std.proofs.Common.{◌≡◌, ◌∙◌, sym, ap, Some}
use Rattle.asl_json_data.specs.Data.{Data}
use Rattle.asl_json.specs.View.{data_of}
use Rattle.asl_def.specs.Machines.{state_object, states_of}
use Rattle.asl_def_states.specs.Show.{state_of}
use Rattle.asl_def_states.specs.declared.state.State.{State}
use Rattle.asl_explore.proofs.SettledTasks.{settled-is}
use Rattle.asl_explore.proofs.settling.settled.Goals as goal

pub returns : goal.returns
returns c =
    let machine = c.args.setup.now.machine in
    let arm = c.in-Some-default-Task in
    let d : Data = data_of c.in_ok-json.field-0 in
    let is : state_object c.args.name.now machine ≡ Some d =
    sym arm.ensures.object ∙ ap (λ (z : State). Some (state_of (states_of machine) z)) arm.field-0-1-is ∙ ap Some (sym c.in_ok-json.ensures) in
    (sym arm.ensures.number, settled-is c.args.setup.now c.args.name.now c.settled_from.result d is (sym c.may_read.ensures ∙ c.if-may_read.false) c.settled_from.ensures)
