use Rattle.std.proofs.Common.{◌+◌, take, subst, arith}
use Rattle.asl_project.specs.Form.{shows}
use Rattle.asl_project.specs.Places.{IsFront}
use Rattle.asl_project.proofs.Prefixes.{empty_front, nowhere}
use Rattle.asl_project.proofs.fronts.entry_in.Goals as goal

pub loop-i-init : goal.loop-i-init
loop-i-init c = record {
  reached = omega arith;
  before = empty_front c.args.spot.now;
  cut = λ end after until ends. absurd (omega (arith, after, until));
}

pub returns-in-With : goal.returns-in-With
returns-in-With c = record {
  until = c.loop-i.i + 1;
  further = omega (arith, c.loop-i.invariant.reached);
  within = omega (arith, c.loop-i-test.true);
  before = c.loop-i.invariant.before;
  behind = subst (λ f. IsFront (take (c.loop-i.i + 1) c.args.text.now) (shows c.args.spot.now) f) c.in-With.is c.in_ok-front_of.ensures;
  next = λ end after until ends. c.loop-i.invariant.cut end after (omega (arith, until)) ends;
}

pub returns : goal.returns
returns c = nowhere (shows c.args.spot.now) c.args.text.now c.loop-i.begin c.loop-i.i c.loop-i.invariant.before c.loop-i.invariant.cut c.loop-i-test.false
