use Rattle.std.proofs.Common.{◌∙◌}
use Rattle.asl_json.specs.View.{members_of}
use Rattle.asl_json.proofs.Knowing.{has_known}
use Rattle.asl_json.proofs.keys.Keys.has.Goals as goal

pub returns-in-Some : goal.returns-in-Some
returns-in-Some c =
    c.contains.ensures ∙ has_known c.self.inside.names c.in-Some.names c.args.self.now (members_of c.args.members.now) c.in-Some.is c.self.view_is c.requires c.args.key.now
