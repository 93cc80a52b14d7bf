use Rattle.std.proofs.Common.{[], codes, refl, subst, ap, ◌∙◌, ◌≡◌}
use Rattle.std.specs.Prelude.{IfOk}
use Rattle.asl_handle.specs.Decisions.{handlers_in}
use Rattle.asl_def_schema.specs.Claims.{item_count}
use Rattle.asl_def_states.specs.Show.{parallel_object}
use Rattle.asl_step.specs.declared.effect.Effect.{Effect}
use Rattle.asl_step.specs.Seen.{seen}
use Rattle.asl_kinds.specs.private.Laws.{starts_of}
use Rattle.asl_kinds.proofs.Branching.{forked_as}
use Rattle.asl_kinds.proofs.parallel.forks.Goals as goal

pub returns-clause-effect : goal.returns-clause-effect
returns-clause-effect c =
    let is = forked_as (parallel_object [] c.args.parallel.now) (seen c.args.visit.now) c.args.done c.in_ok-done.done c.in_ok-started.started c.args.input.now c.args.effective.now _ _ c.branches.result.now _
    c.in_ok-done.ensures
    c.in_ok-started.ensures
    (c.count_of-retriers.ensures ∙ ap (λ o. item_count (handlers_in o)) (c.retry.ensures ∙ c.completion.ensures [] (codes "Retry") refl))
    c.none-items.ensures
    c.in_ok-branches.ensures.ready
    (starts_of [] c.branches.result.now _ (c.branches.ensures []))
    in
    subst (λ (e : Effect). IfOk c.forking.result (λ r. r ≡ e)) is c.forking.ensures
