use Rattle.std.proofs.Common.{arith, ap, refl, drop}
use Rattle.std.specs.Prelude.{map}
use Rattle.std.proofs.lemmas.List.{drop_all}
use Rattle.asl_lint_files.proofs.Paired.{all_done}
use Rattle.asl_cli.specs.Linting.{seen}
use Rattle.asl_cli.proofs.Lints.{lost_more, read_more}
use Rattle.asl_cli.proofs.linting.read_wanted.Goals as goal

pub loop-one-preserved : goal.loop-one-preserved
loop-one-preserved g c =
    let was = c.loop-one.invariant in
    let given = was.kept _ _ c.in_ok-text.ensures.given in
    record {
      kept = λ n b h. was.kept n b (c.read_file.ensures.kept n b h);
      lacking = λ n u h. was.lacking n u (c.read_file.ensures.lacking n u h);
      read = read_more (g.F.Files.gives c.args.files.now) c.args.wanted.now c.loop-one.one-index _ _ c.loop-one.all.items c.add_file.new.all.items c.loop-one-test.true c.in_ok-add_file.ensures (record { name = refl; role_is = refl; otherwise = refl; given = given }) was.read;
      lost = lost_more (g.F.Files.gives c.args.files.now) (g.F.Files.lacks c.args.files.now) c.args.wanted.now c.loop-one.one-index _ _ c.loop-one-test.true given was.lost;
    }

pub returns-clause-given : goal.returns-clause-given
returns-clause-given g c =
    all_done _ (map seen c.args.wanted.now) (map seen (drop c.loop-one.one-index c.args.wanted.now)) c.loop-one.all.items
    (ap (map seen) (drop_all c.loop-one.one-index c.args.wanted.now (omega (arith, c.loop-one-test.false)))) c.loop-one.invariant.read
