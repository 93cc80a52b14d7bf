use mir.Syntax.{w128}
use Rattle.std.proofs.lemmas.Int.{to_z-of_z}
use Rattle.asl_json.proofs.Wholes.{amount_fits}
use Rattle.asl_intrinsic_functions.proofs.range.whole_range.Goals as goal

pub returns : goal.returns
returns c =
    let a = to_z-of_z w128 c.in_ok-first.first (amount_fits c.in_ok-first.first c.in_ok-first.ensures.below) in
    let b = to_z-of_z w128 c.in_ok-end.end (amount_fits c.in_ok-end.end c.in_ok-end.ensures.below) in
    let s = to_z-of_z w128 c.in_ok-stride.stride (amount_fits c.in_ok-stride.stride c.in_ok-stride.ensures.below) in
    rw (c.in_ok-first.ensures.value, c.in_ok-end.ensures.value, c.in_ok-stride.ensures.value) (rw (a, b, s) at c.range.ensures)
