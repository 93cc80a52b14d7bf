use Rattle.std.proofs.Common.{◌≡◌, drop}
use Rattle.asl_session.specs.Scripts.{start_among}
use Rattle.asl_session.proofs.script.start_among.Given as goal

abbrev pub invariant-loop-command : goal.invariant-loop-command
invariant-loop-command l = start_among l.start (drop l.command-index l.commands) ≡ start_among l.start l.commands
