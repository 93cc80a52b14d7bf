use Rattle.std.proofs.Common.{◌∙◌, ap, length, arith}
use Rattle.asl_json_scan.proofs.Fronts.{skips_shorter}
use Rattle.asl_rules.proofs.Stretches.{figure_begins, no_figure, figure_grows, figure_halts, figure_ends}
use Rattle.asl_rules.proofs.front.count.Goals as goal

pub returns-in_default-clause-run : goal.returns-in_default-clause-run
returns-in_default-clause-run c = λ ts t k. rw c.syntax.ensures (no_figure ts t k c.args.bytes.now c.skip_spaces-rest.result.now c.skip_spaces-rest.ensures.skips c.in_default.ensures.none)

pub loop-next-init : goal.loop-next-init
loop-next-init c =
    let rest = c.skip_spaces-rest.result.now in (
      λ ts t k. figure_begins ts t k c.args.bytes.now rest c.in-Some.behind.now c.in-Some.first c.skip_spaces-rest.ensures.skips c.in-Some.ensures.found,
      c.in-Some.ensures.utf8 (c.skip_spaces-rest.ensures.utf8 c.requires.utf8),
      omega (arith, skips_shorter c.args.bytes.now rest c.skip_spaces-rest.ensures.skips, ap length c.in-Some.ensures.found.parts),
    )

pub returns-in_default-grown-clause-run : goal.returns-in_default-grown-clause-run
returns-in_default-grown-clause-run c = λ ts t k. rw c.syntax-in_default-grown.ensures (c.loop-next.invariant.0 ts t k ∙ figure_halts ts t k c.loop-next.number c.in-Some-digit.next c.loop-next.rest.now c.in-Some-digit.behind.now c.in-Some-digit.ensures.found c.in_default-grown.ensures)

pub loop-next-preserved : goal.loop-next-preserved
loop-next-preserved c = (
  λ ts t k. c.loop-next.invariant.0 ts t k ∙ figure_grows ts t k c.loop-next.number c.in-Some-digit.next c.in-Some-grown.more c.loop-next.rest.now c.in-Some-digit.behind.now c.in-Some-digit.ensures.found c.in-Some-grown.ensures,
  c.in-Some-digit.ensures.utf8 c.loop-next.invariant.1,
  omega (arith, c.loop-next.invariant.2, ap length c.in-Some-digit.ensures.found.parts),
)

pub returns-clause-run : goal.returns-clause-run
returns-clause-run c = λ ts t k. c.loop-next.invariant.0 ts t k ∙ figure_ends ts t k c.loop-next.number c.loop-next.rest.now c.in_default-digit.ensures.none
