use Rattle.std.proofs.Common.{subst, ap, ◌∙◌}
use Rattle.std.specs.Prelude.{Err}
use Rattle.asl_path.specs.private.Opened.{IsPut}
use Rattle.asl_path.proofs.Opening.{finish_none, finish_memory}
use Rattle.asl_path.proofs.put.finish.Goals as goal

pub returns-in-Err-NoMatch : goal.returns-in-Err-NoMatch
returns-in-Err-NoMatch c = λ base here part ss rest h g.
    let a = c.in-Err-NoMatch in
    finish_none base here part a.value a.part c.close_all-in-Err-NoMatch.result ss rest c.args.opened.items h (subst (IsPut here rest part) (a.is ∙ ap Err a.field-0-is) g) c.close_all-in-Err-NoMatch.ensures

pub returns-in-Err-OutOfMemory : goal.returns-in-Err-OutOfMemory
returns-in-Err-OutOfMemory c = λ base here part ss rest h g.
    let a = c.in-Err-OutOfMemory in
    finish_memory base here part a.value a.part c.close_all-in-Err-OutOfMemory.result ss rest c.args.opened.items h (subst (IsPut here rest part) (a.is ∙ ap Err a.field-0-is) g) c.close_all-in-Err-OutOfMemory.ensures
