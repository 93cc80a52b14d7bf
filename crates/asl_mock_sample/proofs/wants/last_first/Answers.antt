use Rattle.std.proofs.Common.{map, reverse, ap, ◌∙◌}
use denote.Ref.{Bor}
use Rattle.asl_json.specs.View.{member_of}
use Rattle.asl_json.specs.declared.value.Member.{Member}
use Rattle.asl_mock_sample.proofs.Turning.{map_turned}
use Rattle.asl_mock_sample.proofs.wants.last_first.Goals as goal

pub returns : goal.returns
returns c =
    ap (map (λ (m : Bor Member). member_of m.now)) c.reverse.ensures.items ∙ map_turned (λ (m : Bor Member). member_of m.now) c.in_ok-states.states.items ∙ ap reverse c.in_ok-states.ensures
