use Rattle.std.proofs.Common.{refl, [], ◌∷◌}
use Rattle.std.specs.Prelude.{codes, Option}
use Rattle.asl_json_data.specs.Data.{Data}
use Rattle.asl_def_states.specs.Show.{map_members, parameters_shown, item_selector_shown}
use Rattle.asl_def_shared.specs.Member.{template_names}
use Rattle.asl_def_shared.proofs.Owning.{own, not_own}
use Rattle.asl_def_states.proofs.map.Map.template.Goals as goal

pub returns-in-Parameters : goal.returns-in-Parameters
returns-in-Parameters c t = own template_names (λ (o : Option Data). o) c.args.member.now (codes "Parameters") (parameters_shown c.args.self.now.selector) _ (map_members t c.args.self.now) c.in-Parameters.is c.as_parameters.ensures refl refl

pub returns-in-ItemSelector : goal.returns-in-ItemSelector
returns-in-ItemSelector c t = own template_names (λ (o : Option Data). o) c.args.member.now (codes "ItemSelector") (item_selector_shown c.args.self.now.selector) _ (map_members t c.args.self.now) c.in-ItemSelector.is c.as_item_selector.ensures refl refl

pub returns-in-ResultSelector : goal.returns-in-ResultSelector
returns-in-ResultSelector c t = own template_names (λ (o : Option Data). o) c.args.member.now (codes "ResultSelector") c.args.self.now.completion.result_selector _ (map_members t c.args.self.now) c.in-ResultSelector.is c.template_in.ensures refl refl

pub returns-in_default : goal.returns-in_default
returns-in_default c t = not_own template_names (λ (o : Option Data). o) (codes "Parameters" ∷ codes "ItemSelector" ∷ codes "ResultSelector" ∷ []) c.args.member.now (map_members t c.args.self.now) refl refl (c.in_default.not-Parameters, (c.in_default.not-ItemSelector, (c.in_default.not-ResultSelector, tt)))
