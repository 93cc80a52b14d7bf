use Rattle.std.proofs.Common.{◌∙◌, not, ap, rules}
use Rattle.std.proofs.lemmas.Fn.{filter_same}
use Rattle.asl_history.specs.Places.{is_prefix}
use Rattle.asl_session.specs.Sessions.{left_by}
use Rattle.asl_session.proofs.places.Places.leave.Goals as goal

pub returns : goal.returns
returns c = filter_same _ (λ q. not (is_prefix c.args.place.now q)) _ (λ x b f s. search rules) _ _ c.retain.ensures.filtered ∙ ap (left_by c.args.place.now) c.self.view_is
