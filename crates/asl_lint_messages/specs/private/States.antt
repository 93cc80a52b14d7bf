-- States as the code has them.
use Rattle.std.specs.Prelude.{reverse}
use Rattle.asl_lint_messages.specs.States.{Stated}
use Rattle.asl_lint_messages.specs.declared.states.State.TheInside.{Inside}

abbrev pub stated : Inside → Stated
stated a = record { name = a.name.now; kind = a.kind; place = reverse a.back.items }
