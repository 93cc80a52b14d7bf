use Rattle.asl_session.proofs.Advances.{tried-is}
use Rattle.asl_session.proofs.session.Session.try_step.Goals as goal

pub returns-in-Ok : goal.returns-in-Ok
returns-in-Ok c = tried-is c.args.self.now c.step.new.self c.args.at.now c.in-Ok.reply c.into_stop.result c.in-Ok.ensures.reply c.in-Ok.ensures.next c.into_stop.ensures
