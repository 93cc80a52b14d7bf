use Rattle.std.proofs.Common.{ap, ◌∙◌, ◌∷◌, ◌++◌, append_assoc, sym, List, ℕ, codes}
use Rattle.asl_json_data.specs.Data.{Data}
use Rattle.asl_json.specs.View.{data_of}
use Rattle.asl_json.specs.declared.value.Json.TheVariants.{Dict}
use Rattle.asl_step.specs.Context.{map_part, task_part}
use Rattle.asl_step.specs.Seen.{seen}
use Rattle.asl_step.proofs.Behind.{with_fixed}
use Rattle.asl_step.proofs.context.Context.show.Goals as goal

pub invariant_of-self : goal.invariant_of-self
invariant_of-self c = record {
  rest = (codes "State", data_of c.in_ok-state.state) ∷ (map_part (seen c.args.visit.now).iteration ++ task_part c.self.inside.facts (seen c.args.visit.now));
  value = ap (λ (ms : List (List ℕ × Data)). Dict ms) (with_fixed c.self.inside.facts c.self.invariant.rest _ _ _ _ _ _ _ _ _ _ _
      (sym c.in-Ok.ensures.ok ∙ c.replace.ensures.value ∙ c.self.invariant.value)
      c.in_ok-unfixed.ensures c.in_ok-members.ensures (c.in_ok-members-3.ensures ∙ ap (λ (ms : List (List ℕ × Data)). ms ++ task_part c.self.inside.facts (seen c.args.visit.now)) c.in_ok-members-2.ensures ∙ append_assoc c.in_ok-members.members (map_part (seen c.args.visit.now).iteration) (task_part c.self.inside.facts (seen c.args.visit.now)))
      c.take_value-execution.ensures.value c.take_value-execution.ensures.left c.take_value-state_machine.ensures.value
      c.with_member-members.ensures c.with_member.ensures);
}
