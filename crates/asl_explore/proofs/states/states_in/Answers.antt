use Rattle.std.proofs.Common.{◌≡◌, ◌∙◌, ap, sym, subst, arith, map, take_all, is_some, true, Bor, List, ℕ}
use Rattle.asl_json_data.specs.Data.{Data}
use Rattle.asl_json_data.specs.Distinct.{Members}
use Rattle.asl_json.specs.View.{member_of}
use Rattle.asl_json.specs.declared.value.Member.{Member}
use Rattle.asl_def_walk.specs.States.{all_states}
use Rattle.asl_def.specs.Machines.{state_number}
use Rattle.asl_explore.proofs.Inside.{names-found, there-numbered}
use Rattle.asl_explore.proofs.states.states_in.Goals as goal

pub put_state-requires : goal.put_state-requires
put_state-requires c =
    let found = ap (λ (ms : List (Bor Member)). map (λ (m : Bor Member). member_of m.now) ms) c.deref-member-items.ensures.value ∙ c.in_ok-members.ensures ∙ ap all_states c.in_ok-definition.ensures in
    subst (λ (k : List ℕ). is_some (state_number k c.args.machine.now) ≡ true) (sym c.as_str.ensures)
    (there-numbered c.deref-member-items.result.now c.loop-member.member-index c.member-item.result c.args.machine.now c.loop-member-test.true c.member-item.is found c.is_accepted.ensures.accepted)

pub returns-clause-all : goal.returns-clause-all
returns-clause-all c =
    c.loop-member.invariant.named
    ∙ ap (λ (ms : List (Bor Member)). map (λ (m : Bor Member). m.now.key) ms) (take_all c.loop-member.member-index c.deref-member-items.result.now (omega (arith, c.loop-member-test.false)) ∙ c.deref-member-items.ensures.value)
    ∙ names-found c.in_ok-members.members.items ∙ ap (λ (ss : Members). map (λ (s : List ℕ × Data). s.0) ss) (c.in_ok-members.ensures ∙ ap all_states c.in_ok-definition.ensures)
