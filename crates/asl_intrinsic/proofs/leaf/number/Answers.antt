use Rattle.std.proofs.Common.{subst, sym}
use Rattle.asl_json_data.specs.Number.{IsNumeral}
use Rattle.asl_intrinsic.proofs.Leaves.{longest_of, number_broken, numeral_over, numeral_reads, number_boundary}
use Rattle.asl_intrinsic.proofs.leaf.number.Goals as goal

pub returns-then-not-whole-clause-run : goal.returns-then-not-whole-clause-run
returns-then-not-whole-clause-run c = λ st.
    let r = c.number_front-end.result in
    let front = c.number_front-end.ensures in
    let h = longest_of c.as_bytes.result.now c.args.text.now r.0 r.1 c.as_bytes.ensures.value front.within front.alive front.dead front.whole in
    number_broken c.args.text.now r.0 r.1 h c.if-not-whole.true st

pub split_at-requires : goal.split_at-requires
split_at-requires c =
    let r = c.number_front-end.result in
    let front = c.number_front-end.ensures in
    let h = longest_of c.as_bytes.result.now c.args.text.now r.0 r.1 c.as_bytes.ensures.value front.within front.alive front.dead front.whole in
    number_boundary c.args.text.now r.0 r.1 c.utf8.text h c.if-not-whole.false

pub of_numeral-requires : goal.of_numeral-requires
of_numeral-requires c =
    let r = c.number_front-end.result in
    let front = c.number_front-end.ensures in
    let h = longest_of c.as_bytes.result.now c.args.text.now r.0 r.1 c.as_bytes.ensures.value front.within front.alive front.dead front.whole in
    subst IsNumeral (sym c.split_at.ensures.front) (h.decides.0 c.if-not-whole.false)

pub returns-in_default-clause-run : goal.returns-in_default-clause-run
returns-in_default-clause-run c = λ st.
    let r = c.number_front-end.result in
    let front = c.number_front-end.ensures in
    let h = longest_of c.as_bytes.result.now c.args.text.now r.0 r.1 c.as_bytes.ensures.value front.within front.alive front.dead front.whole in
    let over = rw c.in_default.is at c.in_ok-number.ensures in
    rw c.stuck.ensures (numeral_over c.args.text.now c.split_at.result.0.now r.0 r.1 h c.if-not-whole.false c.split_at.ensures.front over st)

pub returns-clause-run : goal.returns-clause-run
returns-clause-run c = λ st.
    let r = c.number_front-end.result in
    let front = c.number_front-end.ensures in
    let h = longest_of c.as_bytes.result.now c.args.text.now r.0 r.1 c.as_bytes.ensures.value front.within front.alive front.dead front.whole in
    let fits = rw c.in-Some.is at c.in_ok-number.ensures in
    numeral_reads c.args.text.now c.split_at.result.0.now c.in-Some.number c.split_at.result.1.now r.0 r.1 h c.if-not-whole.false c.split_at.ensures.front c.split_at.ensures.back fits st
