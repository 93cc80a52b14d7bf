use Rattle.std.proofs.Common.{◌≡◌, Bool, true, List}
use Rattle.asl_run_state.specs.declared.outcome.Outcome.{Outcome}
use Rattle.asl_exec.specs.Probes.{setup_of}
use Rattle.asl_explore.specs.Calls.{AllAreExpanded}
use Rattle.asl_explore.specs.Searches.{worlds_of}
use Rattle.asl_explore.proofs.Verdicts.{AreSoFar}
use Rattle.asl_explore.proofs.judging.judge_all.Given as goal

-- so it is of the judges so far
abbrev pub invariant-loop-judge : goal.invariant-loop-judge
invariant-loop-judge g l = record {
  setup : setup_of l.probe ≡ setup_of l.fn.probe;
  judged : (os : List Outcome) (known : Bool) → (known ≡ true → (l.whole ≡ true) × AllAreExpanded l.orders (setup_of l.fn.probe) (worlds_of l.nodes) os)
      → AreSoFar g.J.Judge.accepts known l.orders (setup_of l.fn.probe) l.judges l.list.items l.judge-index;
}
