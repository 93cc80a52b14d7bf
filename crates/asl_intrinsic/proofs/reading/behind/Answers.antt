use Rattle.std.proofs.Common.{true, ◌∷◌, [], ◌++◌, refl, ◌∙◌, arith}
use Rattle.asl_intrinsic.specs.private.Steps.{wanting}
use Rattle.asl_intrinsic.proofs.Turns.{comma_wants, bracket_ends, neither_follows}
use Rattle.asl_intrinsic.proofs.reading.behind.Goals as goal

pub returns-in-Some-clause-hears : goal.returns-in-Some-clause-hears
returns-in-Some-clause-hears c = λ o f st a h k n e. record {
  mode = wanting;
  st = (f.0, f.1 ++ a ∷ []) ∷ st;
  stands = (refl, omega arith);
  keeps = c.in_ok-calls.ensures.keeps f st a h k;
  leads = e ∙ comma_wants true c.args.rest.now c.in-Some.inside.now a f st c.in-Some.ensures.found;
}

pub returns-in-Some-after_byte-clause-hears : goal.returns-in-Some-after_byte-clause-hears
returns-in-Some-after_byte-clause-hears c = λ o f st a h k n e.
    c.close.ensures.hears o (f.0, f.1 ++ a ∷ []) st (c.in_ok-calls.ensures.keeps f st a h k) (e ∙ bracket_ends true c.args.rest.now c.in-Some-after_byte.outside.now a f st c.in-Some-after_byte.ensures.found)

pub returns-clause-hears : goal.returns-clause-hears
returns-clause-hears c = λ o f st a h k n e. rw c.stuck.ensures (e ∙ neither_follows c.args.rest.now a f st n c.in_default.ensures.none c.in_default-after_byte.ensures.none)
