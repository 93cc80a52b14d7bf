use Rattle.asl_lint_mocks.proofs.Bare.{left_out, gap}
use Rattle.asl_lint_mocks.proofs.laws.a_gap_is_below_an_answer.Goals as goal

pub returns : goal.returns
returns c = λ ms. (λ h. left_out ms h, λ l. gap ms l)
