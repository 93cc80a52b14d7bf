use Rattle.std.proofs.Common.{refl, [], ◌∷◌}
use Rattle.std.specs.Prelude.{codes, Option}
use Rattle.asl_json_data.specs.Data.{Data}
use Rattle.asl_def_states.specs.Show.{parallel_members}
use Rattle.asl_def_shared.specs.Member.{template_names}
use Rattle.asl_def_shared.proofs.Owning.{own, not_own}
use Rattle.asl_def_states.proofs.parallel.Parallel.template.Goals as goal

pub returns-in-Parameters : goal.returns-in-Parameters
returns-in-Parameters c t = own template_names (λ (o : Option Data). o) c.args.member.now (codes "Parameters") c.args.self.now.parameters _ (parallel_members t c.args.self.now) c.in-Parameters.is c.template_in.ensures refl refl

pub returns-in-ResultSelector : goal.returns-in-ResultSelector
returns-in-ResultSelector c t = own template_names (λ (o : Option Data). o) c.args.member.now (codes "ResultSelector") c.args.self.now.completion.result_selector _ (parallel_members t c.args.self.now) c.in-ResultSelector.is c.template_in-in-ResultSelector.ensures refl refl

pub returns-in_default : goal.returns-in_default
returns-in_default c t = not_own template_names (λ (o : Option Data). o) (codes "Parameters" ∷ codes "ResultSelector" ∷ []) c.args.member.now (parallel_members t c.args.self.now) refl refl (c.in_default.not-Parameters, (c.in_default.not-ResultSelector, tt))
