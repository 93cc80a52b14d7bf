use Rattle.std.proofs.Common.{◌≡◌, ◌<◌, ◌-◌, true, length, get_or, arith}
use Rattle.std.proofs.lemmas.List.{take_rest}
use Rattle.asl_path.specs.Grammar.{is_digit}
use Rattle.asl_path.proofs.Stretch.{digit_bounds, digit_first, utf8_rest}
use Rattle.asl_path.proofs.read.first_digit.Goals as goal

pub overflow_sub-first : goal.overflow_sub-first
overflow_sub-first c =
    let e : is_digit (get_or c.args.bytes.now 0 0) ≡ true = cc in
    (digit_bounds (get_or c.args.bytes.now 0 0) e).0

pub returns-clause-found : goal.returns-clause-found
returns-clause-found c =
    let xs = c.args.bytes.now in
    let e : is_digit (get_or xs 0 0) ≡ true = cc in
    let l : 0 < length xs = omega arith in
    let n : c.from.result ≡ get_or xs 0 0 - 48 = cc in
    rw take_rest (digit_first xs c.from.result l e n).0

pub returns-clause-small : goal.returns-clause-small
returns-clause-small c =
    let xs = c.args.bytes.now in
    let e : is_digit (get_or xs 0 0) ≡ true = cc in
    let l : 0 < length xs = omega arith in
    let n : c.from.result ≡ get_or xs 0 0 - 48 = cc in
    (digit_first xs c.from.result l e n).1

pub returns-clause-utf8 : goal.returns-clause-utf8
returns-clause-utf8 c = λ u.
    let xs = c.args.bytes.now in
    let e : is_digit (get_or xs 0 0) ≡ true = cc in
    let b = digit_bounds (get_or xs 0 0) e in
    rw take_rest (utf8_rest xs (omega arith) (omega (arith, b.1)) u)
