use Rattle.std.specs.Prelude.{map}
use Rattle.std.proofs.lemmas.Result.{on_ok_weaker}
use Rattle.asl_lint_mocks.specs.Places.{numbers_of}
use Rattle.asl_lint.specs.private.Founds.{noted}
use Rattle.asl_lint.proofs.Mocking.{grows_by}
use Rattle.asl_lint.proofs.mocks.add.Goals as goal

pub returns : goal.returns
returns c = on_ok_weaker c.add_all.result (λ h ms ps at. grows_by c.args.rule ms (numbers_of c.args.places.items) ps (map noted c.args.found.now.items) (map noted c.add_all.new.found.items) h at) c.add_all.ensures
