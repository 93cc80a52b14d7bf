use Rattle.std.proofs.Common.{[], ◌≡◌, subst, sym}
use Rattle.std.specs.Prelude.{IfOk}
use Rattle.asl_history.specs.declared.kind.EventKind.TheVariants.{MapStateSucceeded, MapStateFailed, MapStateExited}
use Rattle.asl_def_shared.specs.Member.{completion_object}
use Rattle.asl_def_states.specs.Show.{map_object}
use Rattle.asl_step.specs.Context.{context_of}
use Rattle.asl_step.specs.declared.effect.Effect.{Effect}
use Rattle.asl_step.specs.Seen.{seen}
use Rattle.asl_kinds.specs.private.Laws.{joined-lawful, joined-alike, fits_as}
use Rattle.asl_kinds.proofs.map.MapStateKind.visit.Goals as goal

pub returns-clause-effect : goal.returns-clause-effect
returns-clause-effect c =
    let same = joined-alike MapStateSucceeded MapStateFailed MapStateExited (completion_object c.completion.result.now) (map_object [] c.args.self.now) (context_of c.args.context.now.facts (seen c.args.visit.now)) (seen c.args.visit.now) c.in-Some-forked.input.now (c.completion.ensures []) in
    let told = subst (λ (e : Effect). IfOk c.join.result (λ r. r ≡ e)) same c.join.ensures.effect in
    rw (sym c.in_default.ensures, sym c.in-Some-forked.ensures) told

pub returns-clause-fits : goal.returns-clause-fits
returns-clause-fits c =
    fits_as c.join.result _ c.join.ensures.effect (joined-lawful MapStateSucceeded MapStateFailed MapStateExited (completion_object c.completion.result.now) (context_of c.args.context.now.facts (seen c.args.visit.now)) (seen c.args.visit.now) c.in-Some-forked.input.now).fits
