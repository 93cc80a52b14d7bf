use Rattle.std.proofs.Common.{◌∙◌, ap}
use Rattle.std.specs.Prelude.{option_map}
use Rattle.asl_lint_calls.specs.private.View.{seen}
use Rattle.asl_lint_calls.proofs.Sounding.{told, sound}
use Rattle.asl_lint_calls.proofs.calling.failing.Goals as goal

pub returns-clause-told : goal.returns-clause-told
returns-clause-told c = c.failure_known.ensures ∙ told c.args.text.now (option_map seen c.in_ok-known.known) c.in_ok-known.ensures

pub returns-clause-sound : goal.returns-clause-sound
returns-clause-sound c = sound c.args.text.now c.failure_known.result (c.failure_known.ensures ∙ told c.args.text.now (option_map seen c.in_ok-known.known) c.in_ok-known.ensures)
