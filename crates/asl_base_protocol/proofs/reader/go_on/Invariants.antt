use Rattle.std.proofs.Common.{length}
use Rattle.asl_base_protocol.specs.Standing.{Begins}
use Rattle.asl_base_protocol.proofs.Reading.{Going}
use Rattle.asl_base_protocol.proofs.reader.go_on.Given as goal

abbrev pub invariant-loop-rest : goal.invariant-loop-rest
invariant-loop-rest l = record {
  going : Going l.fn.begun l.part l.bytes l.rest l.fn.items.items l.items.items;
  kept : Begins l.fn.items.items l.items.items;
}

abbrev pub decreases-loop-rest : goal.decreases-loop-rest
decreases-loop-rest l = length l.rest
