use Rattle.std.proofs.Common.{◌≡◌, true}
use Rattle.std.specs.List.{AllWithin}
use Rattle.asl_run_state.specs.Bare.{bare}
use Rattle.asl_exec.specs.Probes.{setup_of}
use Rattle.asl_explore.specs.Judging.{Accepts}
use Rattle.asl_explore.proofs.Ends.{IsTurnIn}
use Rattle.asl_explore.proofs.judging.judge_ends.Given as goal

-- the ends to which the steps so far lead are accepted, unless one was left out
abbrev pub invariant-loop-turn : goal.invariant-loop-turn
invariant-loop-turn g l = record {
  setup : setup_of l.probe ≡ setup_of l.fn.probe;
  accepted : l.complete ≡ true → AllWithin (IsTurnIn (Accepts (g.J.Judge.accepts l.judge (setup_of l.fn.probe))) (setup_of l.fn.probe) (bare l.world) l.bound) l.turn-items 0 l.turn-index;
}
