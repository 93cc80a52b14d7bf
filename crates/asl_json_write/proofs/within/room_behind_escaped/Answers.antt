use Rattle.std.proofs.Common.{arith, ap, length}
use Rattle.asl_json_data.specs.Compact.{escaped}
use Rattle.asl_json_write.proofs.Rooms.{behind_plains, behind_byte, no_shorter}
use Rattle.asl_json_write.proofs.within.room_behind_escaped.Goals as goal

pub returns-then-bytes-room : goal.returns-then-bytes-room
returns-then-bytes-room c = omega (arith, no_shorter c.args.bytes.now)

pub returns-in_err-left : goal.returns-in_err-left
returns-in_err-left c = rw c.from_residual.ensures (omega (arith, c.loop-left.invariant, c.in_err-left.ensures, behind_plains c.loop-left.rest.now _ _ c.split_plain.ensures.parts c.split_plain.ensures.plain))

pub returns-in_default : goal.returns-in_default
returns-in_default c = omega (arith, c.loop-left.invariant, c.in_ok-left.ensures, ap (λ x. length (escaped x)) c.in_default.ensures.none, behind_plains c.loop-left.rest.now _ _ c.split_plain.ensures.parts c.split_plain.ensures.plain)

pub returns-in_err-left-2 : goal.returns-in_err-left-2
returns-in_err-left-2 c =
    rw c.from_residual-in_err-left-2.ensures (
    omega (
      arith,
      c.loop-left.invariant,
      c.in_ok-left.ensures,
      c.in_err-left-2.ensures,
      c.escape_len.ensures,
      behind_plains c.loop-left.rest.now _ _ c.split_plain.ensures.parts c.split_plain.ensures.plain,
      behind_byte c.split_plain.result.1.now c.in-Some.next.now c.in-Some.byte c.in-Some.ensures.found,
    )
    )

pub loop-left-preserved : goal.loop-left-preserved
loop-left-preserved c =
    omega (
      arith,
      c.loop-left.invariant,
      c.in_ok-left.ensures,
      c.in_ok-left-2.ensures,
      c.escape_len.ensures,
      behind_plains c.loop-left.rest.now _ _ c.split_plain.ensures.parts c.split_plain.ensures.plain,
      behind_byte c.split_plain.result.1.now c.in-Some.next.now c.in-Some.byte c.in-Some.ensures.found,
    )
