use Rattle.std.proofs.Common.{◌≡◌, ◌++◌, drop}
use Rattle.std.specs.Prelude.{string_bytes}
use Rattle.asl_json_write.specs.Buffers.{Keeps}
use Rattle.asl_history.specs.Places.{steps_text}
use Rattle.asl_history.proofs.place.put_steps.Given as goal

abbrev pub invariant-loop-number : goal.invariant-loop-number
invariant-loop-number l = (string_bytes l.out ++ steps_text (drop l.number-index l.numbers) ≡ string_bytes l.fn.out ++ steps_text l.numbers) × Keeps (string_bytes l.fn.out) (string_bytes l.out)
