use Rattle.std.proofs.Common.{inr, subst, sym}
use Rattle.std.specs.Prelude.{string_bytes}
use Rattle.std.proofs.lemmas.Result.{err_from_is_err_and}
use Rattle.asl_json_data.specs.Data.{Data}
use Rattle.asl_check.specs.Judged.{IsMachineOf}
use Rattle.asl_mock.specs.Answers.{Machines}
use Rattle.asl_mock.specs.Told.{IsMockFile}
use Rattle.asl_cli.specs.Inputs.{IsFirstLost}
use Rattle.asl_cli.proofs.Held.{first-before, tests-before, unless-map}
use Rattle.asl_cli.proofs.testing.run_files.Goals as goal

pub returns-in-Ok-covered-clause-reported : goal.returns-in-Ok-covered-clause-reported
returns-in-Ok-covered-clause-reported g c =
    let texts = c.in_ok-texts.texts in
    let spelled = c.in_ok-spelled.spelled in
    record {
      suite = c.in_ok-suite.suite;
      passed = c.in-Ok.reported.good;
      remarks = string_bytes c.in-Ok.reported.remarks;
      is_in = record {
        definition = texts.definition.items;
        mocks = texts.mocks.items;
        expectations = texts.expectations.items;
        given = c.in_ok-texts.ensures.given;
        is_suite = record {
          is_machine = subst (λ (m : Data). IsMachineOf texts.definition.items m) (sym c.in_ok-suite.ensures.machine) c.in_ok-spelled.ensures.spelled.is_machine;
          are_mocks = subst (λ (m : Machines). IsMockFile texts.mocks.items m) (sym c.in_ok-suite.ensures.mocks) c.in_ok-spelled.ensures.spelled.are_mocks;
          drafts = spelled.drafts.list.items;
          are_drafts = c.in_ok-spelled.ensures.spelled.are_drafts;
          are_tests = tests-before (g.F.Files.gives c.args.files.now) (g.F.Files.gives c.read_suite.new.files) (g.F.Files.lacks c.args.files.now) (g.F.Files.lacks c.read_suite.new.files) c.in_ok-texts.ensures.kept c.in_ok-texts.ensures.lacking c.args.words.now.expectations.now spelled.drafts.list.items c.in_ok-suite.suite.tests.list.items c.in_ok-suite.ensures.tests;
        };
      };
      is_report = rw (← c.in-Ok-covered.ensures.text, ← c.in-Ok-covered.ensures.files.0, ← c.in-Ok-covered.ensures.files.1) at c.in-Ok.ensures.report;
      are_remarks = c.in-Ok.ensures.remarks;
      is_good = c.in-Ok-covered.ensures.good;
    }

pub returns-in_err-suite-clause-refused : goal.returns-in_err-suite-clause-refused
returns-in_err-suite-clause-refused g c =
    let spelled = c.in_ok-spelled.spelled in
    let told = err_from_is_err_and c.from_residual-in_err-suite.result c.from_residual-in_err-suite.ensures.1 in
    let gives = g.F.Files.gives in
    let lacks = g.F.Files.lacks in
    let file = c.args.words.now.expectations.now in
    let drafts = spelled.drafts.list.items in
    rw (told.1, told.2) (inr (record {
      definition = c.in_ok-texts.texts.definition.items;
      mocks = c.in_ok-texts.texts.mocks.items;
      expectations = c.in_ok-texts.texts.expectations.items;
      given = c.in_ok-texts.ensures.given;
      spelled = spelled;
      is_spelled = c.in_ok-spelled.ensures.spelled;
      lost = unless-map (IsFirstLost (gives c.read_suite.new.files) (lacks c.read_suite.new.files) file drafts) (IsFirstLost (gives c.args.files.now) (lacks c.args.files.now) file drafts) c.in_err-suite.field-0.0
          (λ r h. first-before (gives c.args.files.now) (gives c.read_suite.new.files) (lacks c.args.files.now) (lacks c.read_suite.new.files) c.in_ok-texts.ensures.kept c.in_ok-texts.ensures.lacking file drafts r h) c.in_err-suite.ensures.lost;
    }))
