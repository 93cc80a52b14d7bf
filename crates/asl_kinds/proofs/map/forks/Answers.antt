use Rattle.std.proofs.Common.{[], codes, refl, subst, ap, ◌∙◌, ◌≡◌}
use Rattle.std.specs.Prelude.{IfOk}
use Rattle.asl_handle.specs.Decisions.{handlers_in}
use Rattle.asl_def_schema.specs.Claims.{item_count}
use Rattle.asl_def_states.specs.Show.{map_object}
use Rattle.asl_step.specs.declared.effect.Effect.{Effect}
use Rattle.asl_step.specs.Seen.{seen}
use Rattle.asl_kinds.proofs.Mapping.{forked_over}
use Rattle.asl_kinds.proofs.map.forks.Goals as goal

pub returns-clause-effect : goal.returns-clause-effect
returns-clause-effect c =
    let is = forked_over (map_object [] c.args.map.now) (seen c.args.visit.now) c.args.done c.in_ok-done.done c.in_ok-started.started c.args.input.now _ c.args.items c.args.iterations
    c.in_ok-done.ensures
    c.in_ok-started.ensures
    (c.count_of-retriers.ensures ∙ ap (λ o. item_count (handlers_in o)) (c.retry.ensures ∙ c.completion.ensures [] (codes "Retry") refl))
    in
    subst (λ (e : Effect). IfOk c.forking.result (λ r. r ≡ e)) is c.forking.ensures
