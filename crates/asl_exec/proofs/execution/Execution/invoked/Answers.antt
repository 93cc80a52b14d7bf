use Rattle.std.proofs.Common.{◌≡◌, ◌∙◌, true, false, sym, ap, Some}
use Rattle.asl_def.specs.Machines.{states_of}
use Rattle.asl_run_branches.specs.Branches.{record_at}
use Rattle.asl_exec.specs.Steps.{invokes_by, object_in}
use Rattle.asl_exec.proofs.Going.{invoked-if}
use Rattle.asl_exec.proofs.execution.Execution.invoked.Goals as goal

pub returns-then-invokes_in : goal.returns-then-invokes_in
returns-then-invokes_in c =
    let d = c.args.self.now.setup.machine in
    let r = c.held-current.result.now in
    let there : record_at c.args.place.now c.args.self.now.world.branches ≡ Some r = sym c.in_ok-frame.ensures.record ∙ ap Some (sym c.held-current.ensures) in
    let yes : invokes_by (object_in d r) ≡ true = ap invokes_by (sym c.state_of.ensures.object) ∙ sym (c.invokes_in.ensures (states_of d)) ∙ c.if-invokes_in.true in
    c.state.ensures ∙ sym (invoked-if d (record_at c.args.place.now c.args.self.now.world.branches) r true there yes)

pub returns-else-invokes_in : goal.returns-else-invokes_in
returns-else-invokes_in c =
    let d = c.args.self.now.setup.machine in
    let r = c.held-current.result.now in
    let there : record_at c.args.place.now c.args.self.now.world.branches ≡ Some r = sym c.in_ok-frame.ensures.record ∙ ap Some (sym c.held-current.ensures) in
    let no : invokes_by (object_in d r) ≡ false = ap invokes_by (sym c.state_of.ensures.object) ∙ sym (c.invokes_in.ensures (states_of d)) ∙ c.if-invokes_in.false in
    sym (invoked-if d (record_at c.args.place.now c.args.self.now.world.branches) r false there no)
