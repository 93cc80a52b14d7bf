use Rattle.std.proofs.Common.{◌≡◌}
use Rattle.std.specs.List.{AllWithin}
use Rattle.asl_exec.specs.Probes.{setup_of}
use Rattle.asl_explore.specs.Searches.{ComesPromptly}
use Rattle.asl_explore.proofs.late.come_promptly.Given as goal

-- each so far comes in an order in which no branch is late
abbrev pub invariant-loop-one : goal.invariant-loop-one
invariant-loop-one l = record {
  setup : setup_of l.probe ≡ setup_of l.fn.probe;
  prompt : AllWithin (ComesPromptly (setup_of l.fn.probe)) l.found 0 l.one-index;
}
