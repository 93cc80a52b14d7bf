use Rattle.std.proofs.Common.{◌≡◌, ◌+◌, ℕ, List, refl, sym, ap, ◌∙◌}
use Rattle.std.specs.Prelude.{Some, slice_get}
use Rattle.asl_json_data.specs.Data.{Data}
use Rattle.asl_def_schema.specs.Canon.{Named}
use Rattle.asl_def_states.specs.Show.{state_of}
use Rattle.asl_def_shared.specs.Bodies.{machine_of}
use Rattle.asl_def.specs.Own.{own_states_in}
use Rattle.asl_def.proofs.Outermost.{own_at, own_past}
use Rattle.asl_def.proofs.Wholes.{among_all}
use Rattle.asl_def.proofs.machine.Machine.own_state.Goals as goal

pub returns-then-number-parts : goal.returns-then-number-parts
returns-then-number-parts c = rw (← c.parts-parts.ensures.shown) (sym (own_past c.parts-parts.result.now.table c.parts-parts.result.now.heading c.parts-parts.result.now.root c.args.number c.parts-parts.ensures.whole.within c.if-number-parts.true))

pub returns : goal.returns
returns c =
    let parts = c.parts-parts.result.now in
    let whole : Data = machine_of parts.table parts.heading parts.root in
    let named = ap (λ (k : List ℕ). Some (k, state_of parts.table c.in_ok-name.state.now)) c.as_str.ensures.value in
    let at = own_at parts.table parts.heading parts.root c.args.number (parts.root.first + c.args.number) c.if-number-parts.false refl in
    let over = among_all (λ (u : List Named). Some (c.as_str.result.now, state_of u c.in_ok-name.state.now) ≡ slice_get (own_states_in whole) c.args.number) parts.table parts.heading parts.root c.parts-parts.ensures.whole (named ∙ sym (at ∙ c.in_ok-name.ensures.some)) in
    rw (← c.parts-parts.ensures.shown) over
