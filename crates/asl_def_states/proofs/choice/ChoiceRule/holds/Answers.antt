use Rattle.std.proofs.Common.{sym, ◌∙◌}
use Rattle.asl_json_data.specs.Data.{text}
use Rattle.asl_json.specs.View.{data_of}
use Rattle.asl_def_states.proofs.Nexts.{next_at_end, holds_with_next}
use Rattle.asl_def_states.proofs.choice.ChoiceRule.holds.Goals as goal

pub returns-clause-truth : goal.returns-clause-truth
returns-clause-truth c = c.holds.ensures.truth ∙ sym (holds_with_next c.args.self.now.rule (text c.args.self.now.next.name) (data_of c.args.input.now) (data_of c.args.context.now))

pub returns-clause-next : goal.returns-clause-next
returns-clause-next c = next_at_end c.args.self.now.rule (text c.args.self.now.next.name) c.holds.ensures.no_next
