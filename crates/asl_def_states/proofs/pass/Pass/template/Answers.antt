use Rattle.std.proofs.Common.{refl, [], ◌∷◌}
use Rattle.std.specs.Prelude.{codes, Option}
use Rattle.asl_json_data.specs.Data.{Data}
use Rattle.asl_def_states.specs.Show.{pass_members}
use Rattle.asl_def_shared.specs.Member.{template_names}
use Rattle.asl_def_shared.proofs.Owning.{own, not_own}
use Rattle.asl_def_states.proofs.pass.Pass.template.Goals as goal

pub returns-in-Parameters : goal.returns-in-Parameters
returns-in-Parameters c = own template_names (λ (o : Option Data). o) c.args.member.now (codes "Parameters") c.args.self.now.parameters _ (pass_members c.args.self.now) c.in-Parameters.is c.template_in.ensures refl refl

pub returns-in_default : goal.returns-in_default
returns-in_default c = not_own template_names (λ (o : Option Data). o) (codes "Parameters" ∷ []) c.args.member.now (pass_members c.args.self.now) refl refl (c.in_default.not-Parameters, tt)
