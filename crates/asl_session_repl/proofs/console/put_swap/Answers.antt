use Rattle.std.proofs.Common.{◌≡◌, ◌++◌, ℕ, List, subst}
use Rattle.std.specs.Prelude.{OnOk, string_bytes}
use Rattle.asl_run_input.specs.declared.step_at.StepAt.{StepAt}
use Rattle.asl_session_repl.specs.Answers.{swap_text}
use Rattle.asl_session_repl.specs.Dated.{dated}
use Rattle.asl_session_repl.proofs.Answering.{swapped}
use Rattle.asl_session_repl.proofs.console.put_swap.Goals as goal

pub returns : goal.returns
returns c =
    let session = c.args.session.now in
    let told : StepAt → StepAt → List ℕ = λ a b. string_bytes c.args.out.now ++ swap_text session a b in
    let here = swapped c.put_swap_line.result _ _ session _ _ c.in_ok-one.one c.in_ok-other.other _ c.in_ok-found.ensures c.execution.ensures.setup c.execution.ensures.world c.put_swap_line.ensures in
    let first = subst (λ (a : StepAt). OnOk c.put_swap_line.result (string_bytes c.put_swap_line.new.out ≡ told a c.in_ok-other.other)) c.in_ok-one.ensures here in
    subst (λ (b : StepAt). OnOk c.put_swap_line.result (string_bytes c.put_swap_line.new.out ≡ told (dated session c.args.one.now) b)) c.in_ok-other.ensures first
