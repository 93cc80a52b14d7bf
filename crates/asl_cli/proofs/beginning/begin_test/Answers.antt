use Rattle.std.proofs.Common.{subst, sym}
use Rattle.asl_cli.specs.Beginnings.{texts_in}
use Rattle.asl_cli.proofs.Held.{of-test-before}
use Rattle.asl_cli.proofs.beginning.begin_test.Goals as goal

pub returns-in-Ok-begin_one-clause-given : goal.returns-in-Ok-begin_one-clause-given
returns-in-Ok-begin_one-clause-given g c =
    let told = c.in-Ok-begin_one.ensures.test in
    record {
      all = c.in-Ok-all_drafts_of.tests.list.items;
      are_tests = record {
        bytes = c.in-Ok.texts.expectations.items;
        given = rw c.suite_of-file.ensures at c.in-Ok.ensures.given.2;
        are_tests = rw c.as_slice.ensures.value at c.in-Ok-all_drafts_of.ensures.tests;
      };
      test = told.0;
      is_test = rw c.as_slice-in-Ok-all_drafts_of.ensures.value at told.1;
      of_test = of-test-before (g.F.Files.gives c.args.files.now) (g.F.Files.gives c.read_suite.new.files) (g.F.Files.lacks c.args.files.now) (g.F.Files.lacks c.read_suite.new.files) c.in-Ok.ensures.kept c.in-Ok.ensures.lacking c.args.words.now told.0 (texts_in c.in-Ok-begin_one.beginning) told.2;
      definition = subst (g.F.Files.gives c.args.files.now c.args.words.now.definition.now) (sym c.in-Ok-begin_one.ensures.definition) c.in-Ok.ensures.given.0;
      mocks = subst (g.F.Files.gives c.args.files.now c.args.words.now.mocks.now) (sym c.in-Ok-begin_one.ensures.mocks) c.in-Ok.ensures.given.1;
    }
