use Rattle.std.proofs.Common.{refl, subst, List}
use Rattle.asl_threads.specs.Runs.{SeatView}
use Rattle.asl_threads.specs.Closing.{run_view, Refuses}
use Rattle.asl_threads.proofs.closing.judge.Goals as goal

pub returns-in-Some : goal.returns-in-Some
returns-in-Some g c = (
  c.rows.ensures.replay,
  record {
    cause = subst (λ (xs : List SeatView). Refuses (run_view c.args.setup c.args.label c.args.count) c.args.shared xs c.in-Some.cause) c.as_slice.ensures.value c.in-Some.ensures;
    run_is = refl;
    holds_it = c.of-state.ensures;
    seats_are = refl;
  },
)
