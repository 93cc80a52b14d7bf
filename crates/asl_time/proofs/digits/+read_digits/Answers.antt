use Rattle.std.proofs.Common.{arith, ◌+◌, ◌*◌}
use Rattle.asl_time.proofs.Spelling.{grow, fits, no_front, no_last}
use Rattle.asl_time.proofs.digits.+read_digits.Goals as goal

pub returns-clause-small : goal.returns-clause-small
returns-clause-small t c = grow c.args.count c.in_ok-front.front c.in_ok-last.last (omega arith) c.in_ok-front.ensures.small c.in_ok-last.ensures.found.1

pub overflow_mul-result : goal.overflow_mul-result
overflow_mul-result t c =
    let l = fits c.args.count (c.in_ok-front.front * 10 + c.in_ok-last.last) c.requires (grow c.args.count c.in_ok-front.front c.in_ok-last.last (omega arith) c.in_ok-front.ensures.small c.in_ok-last.ensures.found.1) in
    omega (arith, l)

pub overflow_add-result : goal.overflow_add-result
overflow_add-result t c =
    let l = fits c.args.count (c.in_ok-front.front * 10 + c.in_ok-last.last) c.requires (grow c.args.count c.in_ok-front.front c.in_ok-last.last (omega arith) c.in_ok-front.ensures.small c.in_ok-last.ensures.found.1) in
    omega (arith, l)

pub returns-in_err-front-clause-none : goal.returns-in_err-front-clause-none
returns-in_err-front-clause-none t c = rw c.from_residual.ensures (no_front c.args.bytes.now c.args.count (omega arith) c.in_err-front.ensures.none)

pub returns-in_err-last-clause-none : goal.returns-in_err-last-clause-none
returns-in_err-last-clause-none t c = rw c.from_residual-in_err-last.ensures (no_last c.args.bytes.now c.in_ok-front.behind.now c.args.count c.in_ok-front.front (omega arith) c.in_ok-front.ensures.found c.in_err-last.ensures.none)
