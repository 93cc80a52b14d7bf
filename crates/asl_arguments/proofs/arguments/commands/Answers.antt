use Rattle.std.proofs.Common.{refl}
use Rattle.asl_arguments.specs.Grammar.{asl_commands}
use Rattle.asl_arguments.proofs.arguments.commands.Goals as goal

pub returns-clause-table : goal.returns-clause-table
unfolding asl_commands
returns-clause-table c = refl

pub returns-clause-plain : goal.returns-clause-plain
returns-clause-plain c = refl
