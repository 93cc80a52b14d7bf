use Rattle.std.proofs.Common.{◌∷◌, [], ◌++◌, suc, length}
use Rattle.asl_intrinsic.proofs.Turns.{popped, pushed}
use Rattle.asl_intrinsic.proofs.reading.added.Goals as goal

pub returns-clause-keeps : goal.returns-clause-keeps
returns-clause-keeps c = λ f st a h k.
    let p = popped c.args.calls.items c.pop.new.self.items c.in-Some.innermost f st c.in-Some.ensures.items h in
    pushed c.pop.new.self.items c.push.new.self.items c.in_ok-grown.grown (f.0, f.1 ++ a ∷ []) st c.in_ok-push.ensures.items p.1 (c.in_ok-grown.ensures.keeps (suc (length st)) f a p.0 k)
