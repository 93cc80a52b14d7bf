use Rattle.std.proofs.Common.{◌∙◌, sym, subst, ap}
use Rattle.asl_json_data.specs.Data.{pairs}
use Rattle.asl_json.specs.View.{data_of}
use Rattle.asl_def_schema.specs.declared.sort.Sort.TheVariants.{Target}
use Rattle.asl_def_schema.specs.Canon.{Named}
use Rattle.asl_def_schema.specs.Clean.{IsThere}
use Rattle.asl_choice.specs.Rules.{IsRule, canonical_rule}
use Rattle.std.specs.Prelude.{List}
use Rattle.asl_def_states.proofs.Ruling.{rule_shows, is_rule, next_is_there}
use Rattle.asl_def_states.proofs.choice.ChoiceRule.read.Goals as goal

pub read-requires : goal.read-requires
read-requires c = subst (λ (xs : List Named). IsRule (pairs xs)) (sym c.members.ensures.members) (is_rule (data_of c.args.value.now) c.in-Dict.members c.requires (ap data_of c.in-Dict.is))

pub read-requires-2 : goal.read-requires-2
read-requires-2 c = subst (IsThere Target) (sym c.find.ensures) (next_is_there (data_of c.args.value.now) c.in-Dict.members c.requires (ap data_of c.in-Dict.is))

pub returns : goal.returns
returns c = rule_shows (data_of c.args.value.now) c.in-Dict.members _ (ap data_of c.in-Dict.is) (c.in_ok-read.ensures ∙ ap (λ (xs : List Named). canonical_rule (pairs xs)) c.members.ensures.members) (c.in_ok-read-2.ensures ∙ c.find.ensures)
