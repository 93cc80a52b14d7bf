use Rattle.std.proofs.Common.{refl, ◌∙◌}
use Rattle.std.specs.Prelude.{codes, option_map}
use Rattle.asl_def_shared.proofs.Names.{named, lent}
use Rattle.asl_def_shared.specs.declared.target.Target.{Target}
use Rattle.asl_json_data.specs.Data.{text}
use Rattle.asl_def_states.specs.Show.{choice_members}
use Rattle.asl_def_states.proofs.choice.Choice.default.Goals as goal

pub returns : goal.returns
returns c = lent (λ (x : Target). text x.name) c.as_ref.result _ c.as_ref.ensures.value ∙ named (codes "Default") (option_map (λ (x : Target). text x.name) c.args.self.now.default) (choice_members c.args.self.now) refl
