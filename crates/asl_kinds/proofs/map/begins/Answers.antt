use Rattle.std.proofs.Common.{[], codes, refl, false}
use Rattle.std.specs.Prelude.{Err}
use Rattle.asl_history.specs.declared.kind.EventKind.TheVariants.{MapStateEntered, MapStateExited}
use Rattle.asl_def_shared.specs.Member.{completion_object}
use Rattle.asl_step.specs.private.Laws.{IsSoFar, beginning-so-far}
use Rattle.asl_step.specs.Seen.{seen}
use Rattle.asl_kinds.specs.private.Laws.{fits_as, fork_settled-lawful}
use Rattle.asl_kinds.proofs.map.begins.Goals as goal

pub returns-in-Err-Raised-clause-effect : goal.returns-in-Err-Raised-clause-effect
returns-in-Err-Raised-clause-effect c =
    let raised = rw c.in-Err-Raised.field-0-is at c.in-Err-Raised.ensures.given in
    let told = rw (c.completion.ensures [] (codes "Retry") refl, c.completion.ensures [] (codes "Catch") refl, c.in_ok-done.ensures) at c.raise.ensures in
    rw raised told

pub returns-in-Err-Raised-clause-fits : goal.returns-in-Err-Raised-clause-fits
returns-in-Err-Raised-clause-fits c =
    let v = seen c.args.visit.now in
    let so : IsSoFar false c.in_ok-done.done = rw c.in_ok-done.ensures (beginning-so-far v false MapStateEntered c.args.input.now v.current) in
    fits_as c.raise.result _ c.raise.ensures (fork_settled-lawful MapStateExited (completion_object c.completion.result.now) v c.in_ok-done.done c.args.input.now (Err c.in-Err-Raised.error) so).fits
