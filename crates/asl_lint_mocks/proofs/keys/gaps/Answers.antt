use Rattle.std.proofs.Common.{subst}
use Rattle.asl_json_data.specs.Distinct.{Members}
use Rattle.asl_mock.specs.Places.{in_each}
use Rattle.asl_lint_mocks.specs.Places.{AreAt, numbers_of}
use Rattle.asl_lint_mocks.specs.Warnings.{gap_in}
use Rattle.std.proofs.lemmas.Result.{IfOk-weaker}
use Rattle.asl_lint_mocks.proofs.keys.gaps.Goals as goal

pub returns : goal.returns
returns c = IfOk-weaker c.under_key.result _ _ (λ r h. h gap_in (subst (λ (ms : Members). AreAt ms (numbers_of c.in_ok-places.places.items) (in_each gap_in ms)) c.members_at.ensures.listed c.in_ok-places.ensures)) c.under_key.ensures
