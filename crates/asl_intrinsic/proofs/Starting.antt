-- A path begins with two dollars exactly where it starts from the context.
use Rattle.std.proofs.Common.{◌≡◌, List, ℕ, [], ◌∷◌, ◌++◌, true, false, refl, inl, inr}
use Rattle.asl_path.specs.Grammar.{StartsFrom, SpellsSteps, SpellsStep}
use Rattle.asl_path.specs.declared.step.Root.TheVariants.{Input, Context}
use Rattle.asl_path.specs.declared.step.Step.{Step}
use Rattle.asl_path.specs.declared.step.Step.TheVariants.{Name, Index}
use Rattle.asl_intrinsic.specs.Calls.{is_context}

pub from_context : (t : List ℕ) → StartsFrom Context t → is_context t ≡ true
from_context t h = rw (h.spelled.parts, h.spelled.front_is) refl

step_input : (s : Step) (f r : List ℕ) → SpellsStep s f → is_context (36 ∷ (f ++ r)) ≡ false
step_input (Name n) f r (inl h) = rw h.parts refl
step_input (Name n) f r (inr (inl h)) = rw h.parts refl
step_input (Name n) f r (inr (inr h)) = rw h.parts refl
step_input (Index i) f r h = rw h.parts refl

steps_input : (ss : List Step) (b : List ℕ) → SpellsSteps ss b → is_context (36 ∷ b) ≡ false
steps_input [] b h = rw h refl
steps_input (s ∷ ss) b h = rw h.parts (step_input s h.front h.back h.front_is)

pub from_input : (t : List ℕ) → StartsFrom Input t → is_context t ≡ false
from_input t h = rw (h.spelled.parts, h.spelled.front_is) (steps_input h.steps h.spelled.back h.spelled.back_is)
