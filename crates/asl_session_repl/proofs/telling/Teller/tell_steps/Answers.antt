use Rattle.std.proofs.Common.{◌≡◌, ◌∙◌, List, ap}
use Rattle.std.proofs.lemmas.List.{take_rest}
use Rattle.asl_run_input.specs.declared.step_at.StepAt.{StepAt}
use Rattle.asl_exec.specs.Steps.{world_after}
use Rattle.asl_exec.specs.Views.{setup_of, world_of}
use Rattle.asl_trace.specs.declared.tree.Shows.TheVariants.{Changes}
use Rattle.asl_trace.specs.Steps.{tree_lines}
use Rattle.asl_session_repl.specs.Answers.{Console}
use Rattle.asl_session_repl.proofs.Keeping.{behind_all, told_behind}
use Rattle.asl_session_repl.proofs.telling.Teller.tell_steps.Goals as goal

pub invariant_of-self : goal.invariant_of-self
invariant_of-self c =
    let x = c.in_ok-shadow.shadow in
    let world = c.in_ok-lines.ensures.world ∙ ap (λ (l : List StepAt). world_after (setup_of x) (world_of x) l) (take_rest c.steps.result.now c.args.before) in
    behind_all c.args.before c.self.inside.console.session c.session-session.result.now x c.lines_of.new.execution c.steps.result.now c.session-session.ensures c.steps.ensures c.in_ok-shadow.ensures c.in_ok-lines.ensures.setup world

pub returns-clause-text : goal.returns-clause-text
returns-clause-text c =
    let x = c.in_ok-shadow.shadow in
    let here : c.session-session.result.now ≡ c.args.self.now.session = c.session-session.ensures ∙ ap (λ (k : Console). k.session) c.self.view_is in
    let lines = c.in_ok-lines.ensures.text ∙ ap (λ (l : List StepAt). tree_lines Changes (setup_of x) (world_of x) l) (take_rest c.steps.result.now c.args.before) in
    told_behind c.args.look c.args.before c.args.self.now.session c.session-session.result.now x c.steps.result.now _ _ _ here c.steps.ensures c.in_ok-shadow.ensures c.as_str.ensures.value lines c.in_ok-text.ensures
