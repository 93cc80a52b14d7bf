-- The fault that is answered for a value that is no template.
use Rattle.std.specs.Prelude.{◌≡◌, ℕ, List}
use Rattle.asl_json_data.specs.Data.{Data}
use Rattle.asl_path.specs.Faults.{FaultAt}
use Rattle.asl_intrinsic.specs.Faults.{IsFaultOf}
use Rattle.asl_intrinsic.specs.declared.expr.CallFault.TheVariants.{OutOfMemory as NoMemory}
use Rattle.asl_template.specs.Faults.{Rule, no_text, beside, path, call, Claim, claims, IsFirst}
use Rattle.asl_template.specs.Places.{pointer_text}
use Rattle.asl_template.specs.declared.fault.Kind.{Kind}
use Rattle.asl_template.specs.declared.fault.Kind.TheVariants as kind
use Rattle.asl_template.specs.declared.fault.TemplateFault.{TemplateFault}
use Rattle.asl_template.specs.declared.fault.TemplateFault.TheVariants.{NotText, Both, PathText, CallText, OutOfMemory}

-- the answer tells of this broken rule, at the place of this text
abbrev pub Tells : Rule → List ℕ → TemplateFault → Type 0
Tells no_text p (NotText q) = q ≡ p
Tells beside p (Both q) = q ≡ p
Tells (path t) p (PathText q at) = (q ≡ p) × FaultAt t at
Tells (call t) p (CallText q e) = (q ≡ p) × IsFaultOf t e × (e ≡ NoMemory → ⊥)
Tells r p e = ⊥

-- the answer has this kind and place, unless memory ran out
abbrev pub Carries : Kind → List ℕ → TemplateFault → Type 0
Carries k p OutOfMemory = Unit {0}
Carries kind.NotText p (NotText q) = q ≡ p
Carries kind.Both p (Both q) = q ≡ p
Carries (kind.PathText at) p (PathText q other) = (q ≡ p) × (other ≡ at)
Carries (kind.CallText e) p (CallText q other) = (q ≡ p) × (other ≡ e)
Carries k p e = ⊥

-- the first broken rule, of which the answer tells
pub record IsTold (d : Data) (e : TemplateFault) : Type 0 where
  pub claim : Claim
  pub is_first : IsFirst (claims d) claim
  pub told : Tells claim.0 (pointer_text claim.1) e

-- memory ran out, or the answer tells of the first broken rule
abbrev pub IsAnswer : Data → TemplateFault → Type 0
IsAnswer d OutOfMemory = Unit {0}
IsAnswer d e = IsTold d e
