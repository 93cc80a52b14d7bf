use Rattle.std.proofs.Common.{◌∙◌, ap, map}
use Rattle.clap.specs.Words.{app_of, is_simple_and_free}
use Rattle.asl_arguments.specs.Grammar.{app_for}
use Rattle.asl_arguments.proofs.Giving.{given_of_same, refused_of_same}
use Rattle.asl_arguments.proofs.found.given_in.Goals as goal

pub given_to-requires : goal.given_to-requires
given_to-requires g c = ap is_simple_and_free c.in-Ok.ensures ∙ c.requires

pub returns-in-Ok-clause-ok : goal.returns-in-Ok-clause-ok
returns-in-Ok-clause-ok g c =
    given_of_same (app_of c.in-Ok.command) (app_for c.args.row.now) (map g.S.AsStr.text c.args.words.now) c.given_to.result c.in-Ok.ensures c.given_to.ensures.ok

pub returns-in-Ok-clause-err : goal.returns-in-Ok-clause-err
returns-in-Ok-clause-err g c =
    refused_of_same (app_of c.in-Ok.command) (app_for c.args.row.now) (map g.S.AsStr.text c.args.words.now) c.given_to.result c.in-Ok.ensures c.given_to.ensures.err
