use Rattle.std.proofs.Common.{rules, ◌≡◌, ◌∷◌, ℕ, suc, length, refl, sym, subst, ◌∙◌}
use Rattle.asl_intrinsic.specs.Tree.{call, arguments}
use Rattle.asl_intrinsic.specs.private.Steps.{ended}
use Rattle.asl_intrinsic.specs.private.Keeps.{Keeps, KeepsOne}
use Rattle.asl_intrinsic.proofs.Turns.{popped, levels}
use Rattle.asl_intrinsic.proofs.reading.close.Goals as goal

pub returns-clause-hears : goal.returns-clause-hears
returns-clause-hears c = λ o f st h e.
    let all : c.len-level.result ≡ length c.args.calls.items = search rules in
    let level : c.len-level.result ≡ suc (length st) = all ∙ levels c.args.calls.items (f ∷ st) h in
    let k = popped c.args.calls.items c.pop.new.self.items c.in-Some.innermost f st c.in-Some.ensures.items h in
    let kept = c.closed-kept.ensures f (subst (λ (n : ℕ). Keeps n c.in-Some.innermost f) (sym level) k.0) in
    record {
      mode = ended (call f.0 (arguments f.1));
      st = st;
      stands = (call f.0 (arguments f.1), (refl, subst (λ (n : ℕ). KeepsOne n c.closed-kept.result (call f.0 (arguments f.1))) level kept));
      keeps = k.1;
      leads = e;
    }
