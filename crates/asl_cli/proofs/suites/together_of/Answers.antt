use Rattle.std.proofs.Common.{◌++◌, ◌∷◌, []}
use Rattle.asl_cli.specs.Projects.{added_by}
use Rattle.asl_cli.proofs.Parts.{nowhere, part-more, part-end}
use Rattle.asl_cli.proofs.suites.together_of.Goals as goal

pub loop-suite-init : goal.loop-suite-init
loop-suite-init g c = ([], c.new-together.ensures, λ ps h. h)

pub loop-suite-preserved : goal.loop-suite-preserved
loop-suite-preserved g c =
    let was = c.loop-suite.invariant in
    let part = added_by c.in_ok-part.part in (
      was.0 ++ part ∷ [],
      c.in_ok-add.ensures was.0 was.1,
      part-more c.args.quiet c.args.words.now g.F.Files.gives g.F.Files.lacks c.args.files.now c.loop-suite.files c.test_part.new.files c.args.suites.now c.loop-suite.suite-index nowhere was.0 part
          c.loop-suite-test.true (c.words_of-words.result, c.words_of-words.ensures, c.in_ok-part.ensures) was.2,
    )

pub returns : goal.returns
returns g c =
    let was = c.loop-suite.invariant in (
      was.0,
      part-end c.args.quiet c.args.words.now g.F.Files.gives g.F.Files.lacks c.args.files.now c.loop-suite.files c.args.suites.now c.loop-suite.suite-index was.0 c.loop-suite-test.false was.2,
      was.1,
    )
