use Rattle.std.proofs.Common.{sym, ap, ◌∙◌, ◌∷◌}
use Rattle.asl_choice.specs.declared.pattern.Token.{Token}
use Rattle.asl_choice.specs.Patterns.{tokens, has_open_escape as is_open}
use Rattle.asl_choice.proofs.pattern.has_open_escape.Goals as goal

pub returns-in-OpenEscape : goal.returns-in-OpenEscape
returns-in-OpenEscape c = sym (c.loop-token.invariant ∙ ap is_open (c.in-Some.ensures.found ∙ ap (λ (t : Token). t ∷ tokens c.in-Some.rest.now) c.in-OpenEscape.is))
