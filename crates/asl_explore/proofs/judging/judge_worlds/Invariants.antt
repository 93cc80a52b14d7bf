use Rattle.std.proofs.Common.{◌≡◌, true}
use Rattle.std.specs.List.{AllWithin}
use Rattle.asl_exec.specs.Probes.{setup_of}
use Rattle.asl_explore.specs.Ends.{AreEndsIn}
use Rattle.asl_explore.specs.Judging.{Accepts}
use Rattle.asl_explore.specs.Searches.{worlds_of}
use Rattle.asl_explore.proofs.judging.judge_worlds.Given as goal

-- the ends to which steps in the worlds so far lead are accepted, unless one was left out
abbrev pub invariant-loop-number : goal.invariant-loop-number
invariant-loop-number g l = record {
  setup : setup_of l.probe ≡ setup_of l.fn.probe;
  accepted : l.complete ≡ true → AllWithin (AreEndsIn (Accepts (g.J.Judge.accepts l.judge (setup_of l.fn.probe))) l.orders (setup_of l.fn.probe)) (worlds_of l.nodes) 0 l.number;
}
