use Rattle.std.proofs.Common.{◌∙◌, ap, sym}
use Rattle.std.specs.Prelude.{Some, None, if◌then◌else◌}
use Rattle.std.specs.HashSet.{contains_text}
use Rattle.std.specs.Vec.Iter.{into_iter_items}
use Rattle.asl_def_schema.specs.declared.fault.FaultKind.TheVariants.{DuplicateState}
use Rattle.asl_def_schema.specs.States.{Named}
use Rattle.asl_lint_faults.proofs.Names.{continues-start, continues-end, name_passed}
use Rattle.asl_lint_faults.proofs.states.doubled.Goals as goal

pub loop-state-init : goal.loop-state-init
loop-state-init c = continues-start c.no_names-seen.result _ c.args.names.items c.new-told.result.items c.no_names-seen.ensures c.into_iter-state-iterator.ensures.into_iter_gives.0 c.new-told.ensures.items

pub loop-state-preserved : goal.loop-state-preserved
loop-state-preserved c =
    let seen = c.loop-state.seen in
    let again = c.contains-again.result in
    name_passed seen c.insert.new.self c.in-Some.state (into_iter_items c.loop-state.state-iterator) (into_iter_items c.next.new.self) c.args.names.items c.loop-state.told.items c.add.new.told.items again c.doubled_at.result c.loop-state.invariant c.in-Some.ensures.steps.0
    (c.contains-again.ensures ∙ ap (contains_text seen) (c.as_str.ensures ∙ ap (λ (n : Named). n.0) c.state.view_is)) c.into_string.result (c.into_string.ensures ∙ ap (λ (n : Named). n.0) c.state.view_is) c.in_ok-insert.ensures.updates
    (c.doubled_at.ensures ∙ ap (λ (n : Named). if again then Some (DuplicateState, n.1) else None) c.state.view_is) c.in_ok-add.ensures

pub returns : goal.returns
returns c = continues-end c.loop-state.seen (into_iter_items c.loop-state.state-iterator) c.args.names.items c.loop-state.told.items (sym c.loop-state.state-iterator.rest.ok.0 ∙ c.in-None.ensures.steps.0) c.loop-state.invariant
