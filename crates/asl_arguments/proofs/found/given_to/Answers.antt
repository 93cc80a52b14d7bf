use Rattle.std.proofs.Common.{◌≡◌, map}
use Rattle.std.proofs.lemmas.Result.{IfOk-weaker}
use Rattle.clap.specs.Words.{app_of, fault_of}
use Rattle.asl_arguments.specs.declared.found.Ungiven.TheVariants.{Refused}
use Rattle.asl_arguments.proofs.Giving.{found_taken, refused}
use Rattle.asl_arguments.proofs.found.given_to.Goals as goal

pub returns-in-Ok-clause-ok : goal.returns-in-Ok-clause-ok
returns-in-Ok-clause-ok g c = IfOk-weaker c.taken_by.result _ _ (λ t h. (
  c.in-Ok.ensures.kinds c.requires,
  found_taken (app_of c.args.command) (map g.S.AsStr.text c.args.words.now) c.in-Ok.matches t c.requires c.in-Ok.ensures.matches h,
)) c.taken_by.ensures.ok

pub returns-in-Ok-clause-err : goal.returns-in-Ok-clause-err
returns-in-Ok-clause-err g c = λ is. absurd (c.taken_by.ensures.err is)

pub returns-in-Err-clause-err : goal.returns-in-Err-clause-err
returns-in-Err-clause-err g c = λ is.
    let refuses : c.ungiven_by.result ≡ Refused = cc in
    refused (fault_of (app_of c.args.command) (map g.S.AsStr.text c.args.words.now)) c.in-Err.error (c.in-Err.ensures.kinds c.requires) (c.ungiven_by.ensures refuses)
