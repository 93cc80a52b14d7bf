use Rattle.asl_def.proofs.Renewing.{shown_renewed, whole_renewed}
use Rattle.asl_def.proofs.machine.Parts.upgrade.Goals as goal

pub returns-clause-shown : goal.returns-clause-shown
returns-clause-shown c = shown_renewed c.args.self.now.table c.upgrade.new.self c.args.self.now.heading c.args.self.now.root c.upgrade.ensures

pub returns-clause-whole : goal.returns-clause-whole
returns-clause-whole c = whole_renewed c.args.self.now.table c.upgrade.new.self c.args.self.now.heading c.args.self.now.root c.upgrade.ensures c.requires
