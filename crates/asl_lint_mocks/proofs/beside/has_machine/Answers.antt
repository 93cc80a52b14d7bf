use Rattle.std.proofs.Common.{◌∙◌, ap}
use Rattle.std.specs.Prelude.{is_some}
use Rattle.asl_json.specs.View.{members_of}
use Rattle.asl_lint_mocks.proofs.Each.{is_there}
use Rattle.asl_lint_mocks.proofs.beside.has_machine.Goals as goal

pub returns : goal.returns
returns c = c.is_some.ensures ∙ ap is_some c.number_at.ensures ∙ is_there c.args.name.now (members_of c.args.machines.now) 0
