use Rattle.std.proofs.Common.{◌≡◌, ◌<◌, ◌+◌, ℕ, List, length, get_or, take, Some, subst, sym, ◌∙◌, arith}
use Rattle.std.proofs.lemmas.List.{take_more}
use Rattle.asl_json_data.specs.private.NumberParts.{next_part}
use Rattle.asl_json_data.specs.declared.part.Part.{Part}
use Rattle.asl_json_data.proofs.Numerals.{IsPart, part_push}
use Rattle.asl_json_scan.proofs.number.longest_number.Goals as goal

one_more : (p q : Part) (xs : List ℕ) (i : ℕ) → i < length xs → next_part p (get_or xs i 0) ≡ Some q → IsPart p (take i xs) → IsPart q (take (i + 1) xs)
one_more p q xs i lt next h = subst (IsPart q) (sym (take_more xs i 0 lt)) (part_push p q (take i xs) (get_or xs i 0) next h)

pub digits_end-end-requires-clause-part : goal.digits_end-end-requires-clause-part
digits_end-end-requires-clause-part c = one_more c.loop-end.part c.in-Some.next c.args.bytes.now c.loop-end.end c.loop-end-test.true (sym c.next_part.ensures ∙ c.in-Some.is) c.loop-end.invariant.0

pub loop-end-preserved : goal.loop-end-preserved
loop-end-preserved c =
    (one_more c.loop-end.part c.in-Some.next c.args.bytes.now c.loop-end.end c.loop-end-test.true (sym c.next_part.ensures ∙ c.in-Some.is) c.loop-end.invariant.0, omega arith)
