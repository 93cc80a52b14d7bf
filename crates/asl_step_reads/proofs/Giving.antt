-- A state none of whose texts reads what stands at a chain of keys gives the same.
use Rattle.asl_step_reads.specs.Laws.{StatesAgree}
use Rattle.asl_step_reads.proofs.Agreeing.{unread_agrees}
use Rattle.asl_step_reads.proofs.Members.{effective_agrees, pass_agrees, selected_agrees, passed_agrees, choice_agrees, wait_agrees, fail_agrees}

pub state_agrees : StatesAgree
state_agrees ks a b d same unread =
    let h = unread_agrees ks a b d same unread in
    record {
      input = λ x. effective_agrees a b d x h;
      result = λ x r. selected_agrees a b d x r h;
      passed = λ x. pass_agrees a b d x h;
      output = λ x. passed_agrees a b d x h;
      target = λ x. choice_agrees a b d x h;
      until = λ now x. wait_agrees a b d now x h;
      error = λ x. fail_agrees a b d x h;
    }
