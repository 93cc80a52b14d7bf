use Rattle.std.proofs.Common.{arith, ◌≡◌, ◌<◌, length}
use Rattle.std.proofs.lemmas.Bool.Decides.{nat_tests}
use Rattle.asl_time.proofs.Fractions.{AllDigits-from_all, fraction_one, fraction_none, fraction_is}
use Rattle.asl_time.proofs.fraction.read_fraction.Goals as goal

pub returns-then-is_empty-clause-none : goal.returns-then-is_empty-clause-none
returns-then-is_empty-clause-none c n zone ahead o h =
    let split = c.split_digits.ensures in
    let f = c.split_digits.result.0.now in
    let empty : length c.split_digits.result.0.now ≡ 0 = grind (arith, nat_tests) in
    fraction_none c.args.bytes.now c.in-Some.behind.now f c.split_digits.result.1.now zone ahead n c.in-Some.ensures.found split.whole empty (AllDigits-from_all f split.front) split.longest o h

pub thousandths-requires : goal.thousandths-requires
thousandths-requires c = AllDigits-from_all c.split_digits.result.0.now c.split_digits.ensures.front

pub returns-clause-found : goal.returns-clause-found
returns-clause-found c =
    let split = c.split_digits.ensures in
    let f = c.split_digits.result.0.now in
    let some : 0 < length c.split_digits.result.0.now = grind (arith, nat_tests) in
    fraction_is c.args.bytes.now c.in-Some.behind.now f c.split_digits.result.1.now c.thousandths.result c.in-Some.ensures.found split.whole some (AllDigits-from_all f split.front) c.thousandths.ensures.value

pub returns-clause-one : goal.returns-clause-one
returns-clause-one c n zone ahead o h =
    let split = c.split_digits.ensures in
    let f = c.split_digits.result.0.now in
    fraction_one c.args.bytes.now c.in-Some.behind.now f c.split_digits.result.1.now zone ahead c.thousandths.result n c.in-Some.ensures.found split.whole (AllDigits-from_all f split.front) split.longest c.thousandths.ensures.value o h
