use Rattle.asl_json.specs.View.{data_of}
use Rattle.asl_def_fields.specs.Shown.{path_shown}
use Rattle.std.specs.Prelude.{option_map}
use Rattle.asl_step.specs.Context.{context_of}
use Rattle.asl_step.specs.Seen.{seen}
use Rattle.asl_kinds.specs.Members.{effective_by, placed_by, result_or}
use Rattle.asl_trace_data.proofs.Giving.{then_given}
use Rattle.asl_trace_data.proofs.passing.add_pass.Goals as goal

pub returns-clause-value : goal.returns-clause-value
returns-clause-value c =
    let told = rw (c.add_effective.ensures.facts, c.in_ok-answer.ensures) at c.add_placed.ensures.value in
    let given = rw c.in-Some.is at c.in_ok-value.ensures.value in
    rw (then_given _ (λ y. placed_by (path_shown c.args.pass.now.result_path.now) (path_shown c.args.pass.now.output_path.now) c.args.input.now (context_of c.args.context.now.facts (seen c.args.visit.now)) (result_or (option_map (λ w. data_of w.now) c.args.pass.now.answer) y)) c.in-Some.value given) told
