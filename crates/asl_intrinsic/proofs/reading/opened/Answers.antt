use Rattle.std.proofs.Common.{◌∷◌, [], suc, length, refl, arith}
use Rattle.asl_intrinsic.specs.private.Steps.{opening}
use Rattle.asl_intrinsic.proofs.Turns.{pushed}
use Rattle.asl_intrinsic.proofs.reading.opened.Goals as goal

pub returns-clause-hears : goal.returns-clause-hears
returns-clause-hears c = λ o st h e. record {
  mode = opening;
  st = (c.args.name.now, []) ∷ st;
  stands = (refl, omega arith);
  keeps = pushed c.args.calls.items c.push.new.self.items c.new.result (c.args.name.now, []) st c.in_ok-push.ensures.items h (c.new.ensures (suc (length st)));
  leads = e;
}
