use Rattle.std.proofs.Common.{rules, ◌∙◌, sym, arith, zero-add}
use Rattle.std.specs.Str.{chars}
use Rattle.asl_lint_calls.specs.Known.{holes}
use Rattle.asl_lint_calls.specs.declared.holes.Look.TheVariants.{Nothing}
use Rattle.asl_lint_calls.specs.private.Looks.{holes_from}
use Rattle.asl_lint_calls.proofs.Counting.{filled, unfilled}
use Rattle.asl_lint_calls.proofs.holes.holes.Goals as goal
use Rattle.asl_lint_calls.proofs.holes.holes.Goals.{then-fills, else-fills}

pub loop-character-init : goal.loop-character-init
unfolding holes
loop-character-init c = (zero-add (holes_from Nothing (chars c.args.template.now)), omega arith, c.utf8.template)

pub loop-character-preserved : goal.loop-character-preserved
loop-character-preserved c = elim c.if-fills.branch [
  | then-fills w ↦ (
    filled c.loop-character.look c.look_on-look.result c.in-Some.character (chars c.in-Some.behind.now) (chars c.loop-character.rest.now) c.loop-character.places c.if-fills.places (holes c.args.template.now)
        c.in-Some.ensures.parts c.look_on-look.ensures (sym c.fills.ensures ∙ w.if-fills.true) w.places-is c.loop-character.invariant.0,
    omega (arith, w.places-is, c.in-Some.ensures.shorter, c.loop-character.invariant.1),
    search rules,
  )
  | else-fills w ↦ (
    unfilled c.loop-character.look c.look_on-look.result c.in-Some.character (chars c.in-Some.behind.now) (chars c.loop-character.rest.now) c.loop-character.places c.if-fills.places (holes c.args.template.now)
        c.in-Some.ensures.parts c.look_on-look.ensures (sym c.fills.ensures ∙ w.if-fills.false) w.places-is c.loop-character.invariant.0,
    omega (arith, w.places-is, c.in-Some.ensures.shorter, c.loop-character.invariant.1),
    search rules,
  )
]
