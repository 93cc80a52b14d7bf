use Rattle.std.specs.Prelude.{slice_index}
use Rattle.std.proofs.Common.{◌<◌, ◌≤◌, ◌≡◌, ◌∙◌, ap, sym, subst, arith, length, get_or}
use Rattle.asl_run_state.specs.declared.outcome.Outcome.{Outcome}
use Rattle.asl_explore.specs.Calls.{ComesWith}
use Rattle.asl_explore.proofs.Bounding.{so-far-set}
use Rattle.std.proofs.lemmas.List.{get_or_read}
use Rattle.asl_explore.specs.declared.calls.Calls.{Calls}
use Rattle.asl_explore.specs.Searches.{outcomes_of}
use Rattle.asl_explore.proofs.Tallies.{kept-set, counted-set}
use Rattle.asl_explore.proofs.calls.count_end.Goals as goal

pub returns-clause-counted : goal.returns-clause-counted
returns-clause-counted c t =
    let cs = c.args.calls.now.items in
    let i = c.in-Some.number in
    let x = c.index_mut.result.now in
    let l : i < length cs = omega (arith, c.args.calls.now.ok.0, c.if-number-len.false, c.len.ensures) in
    let same : c.index.result.now ≡ x = get_or_read cs i c.index.result.now l c.index.ensures x ∙ sym c.index_mut.ensures.value in
    let many : length c.index.result.now.bounds.items ≡ length x.bounds.items = ap (λ (z : Calls). length z.bounds.items) same in
    let le : c.args.states ≤ length x.bounds.items = omega (arith, many, c.index.result.now.bounds.ok.0, c.if-len-states.false, c.len-else-number-len.ensures) in
    counted-set c.args.states (outcomes_of c.args.found.now) cs i x c.widen.new.self c.args.world.now.outcome c.args.world.now.counts c.in-Some.ensures.0 (λ d. c.in-Some.ensures.1 d ∙ c.outcome.ensures) l le c.widen.ensures.has

pub returns-clause-keeps : goal.returns-clause-keeps
returns-clause-keeps c =
    let cs = c.args.calls.now.items in
    let i = c.in-Some.number in
    let l : i < length cs = omega (arith, c.args.calls.now.ok.0, c.if-number-len.false, c.len.ensures) in
    kept-set cs i c.index_mut.result.now c.widen.new.self l c.index_mut.ensures.value c.widen.ensures.keeps

pub returns-clause-met : goal.returns-clause-met
returns-clause-met c o s over came far =
    let os = outcomes_of c.args.found.now in
    let cs = c.args.calls.now.items in
    let i = c.in-Some.number in
    let l : i < length cs = omega (arith, c.args.calls.now.ok.0, c.if-number-len.false, c.len.ensures) in
    so-far-set o s os cs i c.index_mut.result.now c.widen.new.self l c.index_mut.ensures.value
    (λ d. c.widen.ensures.met o s (get_or os i d) (λ k. subst (λ (z : Outcome). ComesWith o s z k (slice_index c.args.world.now.counts k)) (sym (c.in-Some.ensures.1 d ∙ c.outcome.ensures)) (came over k))) far
