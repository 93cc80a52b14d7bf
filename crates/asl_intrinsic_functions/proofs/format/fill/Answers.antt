use Rattle.std.proofs.Common.{◌≡◌, ◌∙◌, ap, sym, map, None}
use Rattle.std.specs.Prelude.{string_bytes}
use Rattle.std.specs.Str.{chars}
use Rattle.asl_intrinsic_functions.specs.Seen.{all_seen}
use Rattle.asl_intrinsic_functions.specs.Outcome.{or_fails}
use Rattle.asl_intrinsic_functions.specs.Letters.{letters}
use Rattle.asl_intrinsic_functions.specs.Format.{tokens, filled, shown}
use Rattle.asl_intrinsic_functions.specs.declared.fault.Reason.TheVariants.{Count}
use Rattle.asl_intrinsic_functions.proofs.Filling.{left_over}
use Rattle.asl_intrinsic_functions.proofs.format.fill.Goals as goal

pub returns-then-next-values-2 : goal.returns-then-next-values-2
returns-then-next-values-2 c =
    let none : filled (tokens (letters c.args.escapes (chars c.args.template.now))) (map shown (all_seen c.args.values.now)) ≡ None = sym c.loop-letter.invariant.0.0 ∙ rw c.in_default.ensures.parts (left_over (string_bytes c.loop-letter.out) c.args.values.now c.loop-letter.next c.if-next-values-2.true) in
    ap (or_fails Count) none
