use Rattle.std.proofs.Common.{◌∙◌, List, ℕ, ap, length}
use Rattle.std.specs.Prelude.{string_bytes}
use Rattle.std.proofs.lemmas.Result.{on_ok_weaker}
use Rattle.asl_def_states.specs.Show.{state_of}
use Rattle.asl_run_branches.specs.Branches.{children_at}
use Rattle.asl_run_input.specs.declared.setup.Setup.{Setup}
use Rattle.asl_exec.specs.Steps.{object_in}
use Rattle.asl_exec.specs.Views.{setup_of, world_of}
use Rattle.asl_trace_data.specs.declared.stage.Stage.{Stage}
use Rattle.asl_trace.specs.Deciding.{raised_by}
use Rattle.asl_trace.specs.Steps.{rule_in, happened}
use Rattle.asl_trace.specs.private.Known.{staged_by}
use Rattle.asl_trace.proofs.Happening.{told_is, many, raised_is, deciding_is, told_lines}
use Rattle.asl_trace.proofs.tree.put_happened.Goals as goal

pub returns : goal.returns
returns c = λ f v t known place children object.
    let s = setup_of c.args.execution.now in
    let u = world_of c.args.execution.now in
    let d = state_of t c.args.state.now in
    let ss = c.args.before.now.decided.stages.items in
    on_ok_weaker c.put_lines.result (told_lines c.args.shows f v d (object_in s.machine v.current) _ (happened f s u v d c.args.frame.now.head.current) c.deref-2.result.now (string_bytes c.args.out.now) (string_bytes c.put_lines.new.out) object
    (told_is _ (happened f s u v d c.args.frame.now.head.current)
    (ap (λ (x : Setup). x.start) c.setup.ensures)
    known.moment_is
    place
    (c.kind_of.ensures t)
    (c.policy_of.ensures.retry t)
    (c.policy_of.ensures.catch t)
    known.count_is
    known.doing_is
    c.held.ensures
    (many c.args.frame.now c.children.result.now c.children.ensures ∙ ap length children ∙ ap (λ (p : List ℕ). length (children_at p u.branches)) place)
    (c.raised_by.ensures t ∙ ap (λ (x : List Stage). raised_by d x) c.deref.ensures.value ∙ raised_is (staged_by c.args.shows) d (object_in s.machine v.current) f v ss object known.stages_are)
    (c.rule_in.ensures ∙ ap rule_in (known.deciding_is ∙ deciding_is d (object_in s.machine v.current) f v object)))
    (c.deref-2.ensures.value ∙ known.stages_are)) c.put_lines.ensures
