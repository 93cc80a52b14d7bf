use Rattle.std.proofs.Common.{refl}
use Rattle.std.specs.Prelude.{codes, Some}
use Rattle.asl_def_shared.proofs.Names.{named}
use Rattle.asl_json_data.specs.Data.{list, chain}
use Rattle.asl_def_states.specs.Show.{choice_members}
use Rattle.asl_def_states.proofs.choice.Choice.choices.Goals as goal

pub returns : goal.returns
returns c = named (codes "Choices") (Some (list (chain c.args.self.now.choices))) (choice_members c.args.self.now) refl
