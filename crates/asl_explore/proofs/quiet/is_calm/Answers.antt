use Rattle.std.proofs.Common.{◌∙◌, inl, sym, ap}
use Rattle.asl_def.specs.Machines.{states_of}
use Rattle.asl_run_input.specs.declared.setup.Setup.{Setup}
use Rattle.asl_exec.specs.Steps.{object_in, invokes_by}
use Rattle.asl_explore.proofs.quiet.is_calm.Goals as goal

pub returns-then-not-invokes_in : goal.returns-then-not-invokes_in
returns-then-not-invokes_in c t =
    let shown = c.invokes_in.ensures (states_of c.setup.result.now.machine) in
    inl (ap (λ (s : Setup). invokes_by (object_in s.machine c.args.current.now)) (sym c.setup.ensures)
    ∙ ap invokes_by (sym c.state_of-number.ensures.object) ∙ sym shown ∙ c.if-not-invokes_in.true)
