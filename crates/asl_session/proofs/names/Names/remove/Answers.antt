use Rattle.std.proofs.Common.{◌∙◌, not, ap, rules}
use Rattle.std.specs.Prelude.{nat_eq}
use Rattle.std.specs.Cmp.Lexicographic.{pointwise}
use Rattle.std.proofs.lemmas.Fn.{filter_same}
use Rattle.asl_session.specs.Sessions.{without}
use Rattle.asl_session.proofs.names.Names.remove.Goals as goal

pub returns : goal.returns
returns c = filter_same _ (λ y. not (pointwise nat_eq y c.args.name.now)) _ (λ x b f s. search rules) _ _ c.retain.ensures.filtered ∙ ap (without c.args.name.now) c.self.view_is
