use Rattle.std.proofs.Common.{◌≡◌, ◌<◌, ◌==◌, false, length, take, get_or, ℕ, arith, sym, subst}
use Rattle.std.proofs.lemmas.List.{take_rest}
use Rattle.asl_json_scan.proofs.Fronts.{utf8_past, all_seen}
use Rattle.asl_json_scan.proofs.Stretches.{word_breaks, word_ends}
use Rattle.std.proofs.lemmas.Bool.{ne_eqb}
use Rattle.asl_json_read.proofs.reading.letters.Goals as goal
use Rattle.asl_json_read.proofs.reading.letters.Goals.{then-loop-i-test+then-i-bytes+else-bytes-i, then-loop-i-test+else-i-bytes, else-loop-i-test}

pub returns-then-i-expected-clause-run : goal.returns-then-i-expected-clause-run
returns-then-i-expected-clause-run c = λ d st.
    let xs = c.args.bytes.now in
    let ws = c.args.expected.now in
    let i = c.loop-i.i in
    let other : i < length xs → (get_or xs i 0 == get_or ws i 0) ≡ false =
    λ lt. elim c.loop-i-test.branch [ then-loop-i-test+then-i-bytes+else-bytes-i w ↦ ne_eqb (get_or xs i 0) (get_or ws i 0) w.if-bytes-i.false | then-loop-i-test+else-i-bytes w ↦ absurd (omega arith) | else-loop-i-test w ↦ absurd (omega arith) ] in
    rw (c.syntax.ensures, take_rest) (word_breaks ws xs i d st c.if-i-expected.true c.loop-i.invariant.0 c.loop-i.invariant.2 other)

pub returns-clause-run : goal.returns-clause-run
returns-clause-run c = λ d st.
    let xs = c.args.bytes.now in
    let ws = c.args.expected.now in
    let s = all_seen xs ws c.loop-i.i c.loop-i.invariant.1 c.if-i-expected.false c.loop-i.invariant.2 in
    rw (take_rest, s.0) (word_ends ws xs d st c.requires.some (omega (arith, s.0, c.loop-i.invariant.0)) s.1)

pub returns-clause-utf8 : goal.returns-clause-utf8
returns-clause-utf8 c =
    let xs = c.args.bytes.now in
    let ws = c.args.expected.now in
    let s = all_seen xs ws c.loop-i.i c.loop-i.invariant.1 c.if-i-expected.false c.loop-i.invariant.2 in
    rw take_rest (utf8_past xs ws c.loop-i.i c.requires.utf8 c.requires.ascii c.loop-i.invariant.0 (subst (λ (n : ℕ). take n xs ≡ ws) (sym s.0) s.1))
