use Rattle.asl_choice.specs.private.Taking.{star, broken}
use Rattle.std.proofs.Common.{◌∙◌, ap, ◌∷◌}
use Rattle.asl_choice.specs.declared.pattern.Token.{Token}
use Rattle.asl_choice.specs.Patterns.{tokens}
use Rattle.asl_choice.proofs.pattern.first_byte.Goals as goal

pub returns-in-Star-clause-none : goal.returns-in-Star-clause-none
returns-in-Star-clause-none c = λ _. star _ (c.in_ok-token.ensures.found ∙ ap (λ (x : Token). x ∷ tokens c.in_ok-token.rest.now) c.in-Star.is)

pub returns-in-OpenEscape-clause-none : goal.returns-in-OpenEscape-clause-none
returns-in-OpenEscape-clause-none c = λ _. broken _ (c.in_ok-token.ensures.found ∙ ap (λ (x : Token). x ∷ tokens c.in_ok-token.rest.now) c.in-OpenEscape.is)
