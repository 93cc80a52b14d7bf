use Rattle.std.proofs.Common.{◌∙◌, ◌++◌, [], Bool, List, ap, subst, sym}
use Rattle.std.specs.Prelude.{if◌then◌else◌}
use Rattle.std.specs.List.{list_any}
use Rattle.asl_error_plans.specs.declared.injected.InjectedError.{InjectedError}
use Rattle.asl_error_plans.specs.declared.outcomes.PlanOutcomes.{PlanOutcomes}
use Rattle.asl_explore.specs.declared.calls.Calls.{Calls}
use Rattle.asl_task_errors.specs.View.{all_told}
use Rattle.asl_explore_errors.specs.Plans.{has_plan}
use Rattle.asl_explore_errors.specs.Points.{errors_of, longer, plans_in}
use Rattle.asl_explore_errors.specs.Searches.{is_counted}
use Rattle.asl_explore_errors.specs.private.Levels.{IsAdded}
use Rattle.asl_explore_errors.proofs.Levels.{level_added, level_told}
use Rattle.asl_explore_errors.proofs.searching.try_one.Goals as goal

pub returns-then-has_plan : goal.returns-then-has_plan
returns-then-has_plan g c number left le h =
    let s = c.args.search.now in
    let plans = ap (λ (ps : List PlanOutcomes). list_any (has_plan (errors_of c.args.plan.now)) ps) (sym c.deref.ensures.value) in
    let errors = ap (λ (es : List InjectedError). list_any (has_plan es) c.deref.result.now) (sym (c.deref-2.ensures.value ∙ c.in_ok-errors.ensures)) in
    level_told g.J.Judge.accepts s.judges.now c.args.most (all_told s.tasks.now) s.orders s.limit s.setup.now number c.args.plan.now left (plans_in c.args.level.longer.items) c.args.level.all
    (plans ∙ errors ∙ sym c.has_plan.ensures ∙ c.if-has_plan.true) h

pub returns : goal.returns
returns g c number left le h =
    let s = c.args.search.now in
    let room = c.has_room-room.result in
    let cs = c.in_ok-all.calls.items in
    let plans = ap (λ (ps : List PlanOutcomes). list_any (has_plan (errors_of c.args.plan.now)) ps) (sym c.deref.ensures.value) in
    let errors = ap (λ (es : List InjectedError). list_any (has_plan es) c.deref.result.now) (sym (c.deref-2.ensures.value ∙ c.in_ok-errors.ensures)) in
    let added = subst (λ es. IsAdded g.J.Judge.accepts s.judges.now s.orders s.limit s.setup.now (is_counted s.judges.now room) es c.args.level.all c.in_ok-all.all cs) c.in_ok-errors.ensures (subst (λ (b : Bool). IsAdded g.J.Judge.accepts s.judges.now s.orders s.limit s.setup.now b c.in_ok-errors.errors.items c.args.level.all c.in_ok-all.all cs) c.is_counted-counted.ensures c.in_ok-all.ensures) in
    let more = c.in_ok-longer.ensures ∙ ap (λ (xs : List Calls). plans_in c.args.level.longer.items ++ (if room then longer (all_told s.tasks.now) s.setup.now.machine xs c.args.plan.now else [])) c.deref-3.ensures.value in
    level_added g.J.Judge.accepts s.judges.now c.args.most (all_told s.tasks.now) s.orders s.limit s.setup.now number c.args.plan.now left (plans_in c.args.level.longer.items) (plans_in c.in_ok-longer.longer.items) c.args.level.all c.in_ok-all.all room cs
    le (plans ∙ errors ∙ sym c.has_plan.ensures ∙ c.if-has_plan.false) c.has_room-room.ensures added more h
