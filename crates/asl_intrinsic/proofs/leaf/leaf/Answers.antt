use Rattle.std.proofs.Common.{sym, ◌∙◌}
use Rattle.asl_intrinsic.proofs.Leaves.{begun_quoted, begun_path, begun_null, begun_true, begun_false, begun_number}
use Rattle.asl_intrinsic.proofs.leaf.leaf.Goals as goal

pub returns-in-Some-clause-run : goal.returns-in-Some-clause-run
returns-in-Some-clause-run c = λ st. rw (begun_quoted c.args.text.now c.in-Some.inside.now st c.in-Some.ensures.found) (c.quoted.ensures.run st)

pub returns-then-begins_with-clause-run : goal.returns-then-begins_with-clause-run
returns-then-begins_with-clause-run c = λ st. rw (begun_path c.args.text.now st (sym c.begins_with.ensures ∙ c.if-begins_with.true)) (c.path.ensures.run st)

pub returns-then-begins_with-2-clause-run : goal.returns-then-begins_with-2-clause-run
returns-then-begins_with-2-clause-run c = λ st. rw (begun_null c.args.text.now st (sym c.begins_with-2.ensures ∙ c.if-begins_with-2.true)) (c.null.ensures.run st)

pub returns-then-begins_with-3-clause-run : goal.returns-then-begins_with-3-clause-run
returns-then-begins_with-3-clause-run c = λ st. rw (begun_true c.args.text.now st (sym c.begins_with-3.ensures ∙ c.if-begins_with-3.true)) (c.truth.ensures.run st)

pub returns-then-begins_with-4-clause-run : goal.returns-then-begins_with-4-clause-run
returns-then-begins_with-4-clause-run c = λ st. rw (begun_false c.args.text.now st (sym c.begins_with-4.ensures ∙ c.if-begins_with-4.true)) (c.truth-then-begins_with-4.ensures.run st)

pub returns-clause-run : goal.returns-clause-run
returns-clause-run c = λ st. rw (begun_number c.args.text.now st c.in_default.ensures.none (sym c.begins_with.ensures ∙ c.if-begins_with.false) c.requires (sym c.begins_with-2.ensures ∙ c.if-begins_with-2.false) (sym c.begins_with-3.ensures ∙ c.if-begins_with-3.false) (sym c.begins_with-4.ensures ∙ c.if-begins_with-4.false)) (c.number.ensures.run st)
