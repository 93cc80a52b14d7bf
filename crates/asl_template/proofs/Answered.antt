-- The fault that reading finds is the one to answer.
use Rattle.std.proofs.Common.{◌≡◌, ℕ, List, [], ◌∷◌, ◌++◌, sym, subst}
use Rattle.asl_json_data.specs.Data.{Data}
use Rattle.asl_path.specs.Faults.{FaultAt}
use Rattle.asl_path.specs.declared.step.Step.{Step}
use Rattle.asl_intrinsic.specs.Faults.{IsFaultOf}
use Rattle.asl_intrinsic.specs.declared.expr.CallFault.{CallFault}
use Rattle.asl_intrinsic.specs.declared.expr.CallFault.TheVariants.{OutOfMemory as NoMemory}
use Rattle.asl_template.specs.Faults.{Rule, no_text, beside, path, call, Claim, claims, Each, Holds, IsTemplate}
use Rattle.asl_template.specs.Places.{pointer_text}
use Rattle.asl_template.specs.private.Broken.{Found, Says, IsFound}
use Rattle.asl_template.specs.Answer.{Tells, Carries, IsTold, IsAnswer}
use Rattle.asl_template.specs.declared.fault.Kind.{Kind}
use Rattle.asl_template.specs.declared.fault.Kind.TheVariants as kind
use Rattle.asl_template.specs.declared.fault.TemplateFault.{TemplateFault}
use Rattle.asl_template.specs.declared.fault.TemplateFault.TheVariants.{NotText, Both, PathText, CallText, OutOfMemory}

says_only : (r : Rule) (k : Kind) (p q : List ℕ) → Says r k → Carries k p (NotText q) → Tells r p (NotText q)
says_only no_text kind.NotText p q h e = e
says_only beside kind.Both p q h e = absurd e
says_only (path t) (kind.PathText at) p q h e = absurd e
says_only (call t) (kind.CallText c) p q h e = absurd e
says_only x y p q h e = absurd h

says_both : (r : Rule) (k : Kind) (p q : List ℕ) → Says r k → Carries k p (Both q) → Tells r p (Both q)
says_both no_text kind.NotText p q h e = absurd e
says_both beside kind.Both p q h e = e
says_both (path t) (kind.PathText at) p q h e = absurd e
says_both (call t) (kind.CallText c) p q h e = absurd e
says_both x y p q h e = absurd h

says_path : (r : Rule) (k : Kind) (p q : List ℕ) (n : ℕ) → Says r k → Carries k p (PathText q n) → Tells r p (PathText q n)
says_path no_text kind.NotText p q n h e = absurd e
says_path beside kind.Both p q n h e = absurd e
says_path (path t) (kind.PathText at) p q n h e = (e.0, subst (FaultAt t) (sym e.1) h)
says_path (call t) (kind.CallText c) p q n h e = absurd e
says_path x y p q n h e = absurd h

says_call : (r : Rule) (k : Kind) (p q : List ℕ) (f : CallFault) → Says r k → Carries k p (CallText q f) → Tells r p (CallText q f)
says_call no_text kind.NotText p q f h e = absurd e
says_call beside kind.Both p q f h e = absurd e
says_call (path t) (kind.PathText at) p q f h e = absurd e
says_call (call t) (kind.CallText c) p q f h e = (let s = subst (λ (x : CallFault). IsFaultOf t x × (x ≡ NoMemory → ⊥)) (sym e.1) h in (e.0, s.0, s.1))
says_call x y p q f h e = absurd h

is_told : (d : Data) (f : Found) (e : TemplateFault) (h : IsFound (claims d) f) → Tells h.claim.0 (pointer_text f.1) e → IsTold d e
is_told d f e h told = record { claim = h.claim; is_first = h.is_first; told = subst (λ (ss : List Step). Tells h.claim.0 (pointer_text ss) e) (sym h.at) told }

pub answered : (d : Data) (f : Found) (e : TemplateFault) → IsFound (claims d) f → Carries f.0 (pointer_text f.1) e → IsAnswer d e
answered d f OutOfMemory h c = tt
answered d f (NotText q) h c = is_told d f (NotText q) h (says_only h.claim.0 f.0 (pointer_text f.1) q h.says c)
answered d f (Both q) h c = is_told d f (Both q) h (says_both h.claim.0 f.0 (pointer_text f.1) q h.says c)
answered d f (PathText q n) h c = is_told d f (PathText q n) h (says_path h.claim.0 f.0 (pointer_text f.1) q n h.says c)
answered d f (CallText q g) h c = is_told d f (CallText q g) h (says_call h.claim.0 f.0 (pointer_text f.1) q g h.says c)

at_claim : (before : List Claim) (c : Claim) (after : List Claim) → Each Holds (before ++ c ∷ after) → Holds c
at_claim [] c after h = h.0
at_claim (b ∷ before) c after h = at_claim before c after h.1

pub refused : (d : Data) (f : Found) → IsFound (claims d) f → IsTemplate d → ⊥
refused d f h t = at_claim h.is_first.before h.claim h.is_first.after (subst (Each Holds) h.is_first.parts t.hold) h.is_first.broken
