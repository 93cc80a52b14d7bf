use Rattle.std.proofs.Common.{◌++◌, ◌∙◌, List, ℕ, ap, inl, inr, refl, codes}
use Rattle.asl_host.specs.Outcomes.{fault_line}
use Rattle.asl_cli.specs.Faults.{mending}
use Rattle.asl_cli.specs.Streams.{unless_quiet}
use Rattle.asl_cli.proofs.fault.CommandFault.write.Goals as goal

pub returns-in-Err : goal.returns-in-Err
returns-in-Err g c = (fault_line (codes "OutOfMemory"), inr refl, c.tell_fault.ensures)

pub returns-in-Ok : goal.returns-in-Ok
returns-in-Ok g c = (
  fault_line c.as_str.result.now ++ c.unless_quiet.result.now,
  inl (ap (λ (t : List ℕ). fault_line c.as_str.result.now ++ t) (c.unless_quiet.ensures ∙ ap (unless_quiet c.args.quiet) c.mending.ensures) ∙ ap (λ (t : List ℕ). fault_line t ++ unless_quiet c.args.quiet (mending c.args.self.now)) (c.as_str.ensures.value ∙ c.in-Ok.ensures)),
  c.tell.ensures,
)
