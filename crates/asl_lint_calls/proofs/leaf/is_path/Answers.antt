use Rattle.std.proofs.Common.{◌≡◌, ap, sym, ◌∙◌, true, false, Bool, List, ℕ}
use Rattle.asl_path.specs.Grammar.{IsPath}
use Rattle.asl_path.proofs.Passing.{path_passes}
use Rattle.asl_path.specs.declared.path.PathFault.{PathFault}
use Rattle.asl_path.specs.declared.path.PathFault.TheVariants.{PathProfile, OutOfMemory}
use Rattle.asl_intrinsic.specs.private.Steps.{is_path, is_read}
use Rattle.asl_intrinsic.proofs.Reaching.{path_spelled}
use Rattle.asl_lint_calls.proofs.leaf.is_path.Goals as goal
use Rattle.asl_lint_calls.proofs.leaf.is_path.Goals.{in-Ok, in-Err-PathProfile, in-Err-OutOfMemory}

a_path : (t : List ℕ) → IsPath t → true ≡ is_path t
unfolding is_path
a_path t h = sym (ap is_read (path_passes h.root h.steps t h.spelled))

no_path : (t : List ℕ) (f : PathFault) (n : ℕ) → f ≡ PathProfile n → (IsPath t → f ≡ OutOfMemory) → false ≡ is_path t
no_path t f n e h = by (is_path t) (λ p. let two = sym e ∙ h (path_spelled t p) in cc)
  where
    by : (b : Bool) → (b ≡ true → ⊥) → false ≡ b
    by true g = absurd (g (cc))
    by false g = cc

pub returns : goal.returns
returns c =
    let t = c.args.text.now in
    elim c.match-read.branch [
      | in-Ok w ↦ rw w.result-is (a_path t w.in-Ok.ensures.found)
      | in-Err-PathProfile w ↦ rw w.result-is (no_path t w.in-Err-PathProfile.field-0 w.in-Err-PathProfile.field-0-0 w.in-Err-PathProfile.field-0-is w.in-Err-PathProfile.ensures.only)
      | in-Err-OutOfMemory w ↦ rw w.result-is tt
    ]
