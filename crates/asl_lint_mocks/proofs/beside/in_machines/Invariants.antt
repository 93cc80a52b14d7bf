use Rattle.std.proofs.Common.{take}
use Rattle.std.specs.Prelude.{option_map}
use Rattle.asl_json.specs.View.{members_of}
use Rattle.asl_mock.specs.Places.{in_each}
use Rattle.asl_lint_mocks.specs.Beside.{in_machine, is_meant}
use Rattle.asl_lint_mocks.specs.Places.{AreAt, numbers_of}
use Rattle.asl_lint_mocks.specs.private.Fitting.{fitting}
use Rattle.asl_lint_mocks.proofs.beside.in_machines.Given as goal

abbrev pub invariant-loop-i : goal.invariant-loop-i
invariant-loop-i l = AreAt (members_of l.machines) (numbers_of l.all.items) (in_each (λ m. in_machine (fitting l.sort l.known) (is_meant (option_map (λ k. k.now) l.machine) (members_of l.machines) m.0) m) (members_of (take l.i l.machines)))
