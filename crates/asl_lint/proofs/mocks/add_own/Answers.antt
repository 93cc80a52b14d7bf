use Rattle.std.specs.Prelude.{map}
use Rattle.std.proofs.lemmas.Result.{on_ok_weaker}
use Rattle.asl_json.specs.View.{data_of}
use Rattle.asl_mock.specs.Faults.{bad_keys, overlaps}
use Rattle.asl_mock.specs.Form.{misfits}
use Rattle.asl_json.specs.Access.{member_list}
use Rattle.asl_mock.specs.declared.shape.Shape.TheVariants.{Top}
use Rattle.asl_lint_mocks.specs.Lost.{lost_names}
use Rattle.asl_lint_mocks.specs.Warnings.{gaps, unused}
use Rattle.asl_lint.specs.private.Founds.{noted}
use Rattle.asl_lint.proofs.Mocking.{own_grows}
use Rattle.asl_lint.proofs.mocks.add_own.Goals as goal

pub returns : goal.returns
returns c =
    let d = data_of c.args.file.now in
    let ms = member_list d in
    let faults = c.in_ok-misfits.ensures in
    on_ok_weaker c.add-6.result
    (λ h. own_grows d (map noted c.args.found.now.items) (map noted c.add.new.found.items) (map noted c.add-2.new.found.items) (map noted c.add-3.new.found.items) (map noted c.add-4.new.found.items) (map noted c.add-5.new.found.items) (map noted c.add-6.new.found.items)
    (c.in_ok-add.ensures ms (misfits Top d) faults.misfits) (c.in_ok-add-2.ensures ms (bad_keys d) faults.bad_keys) (c.in_ok-add-3.ensures ms (overlaps d) faults.overlaps) (c.in_ok-add-4.ensures ms (lost_names d) faults.lost_names)
    (c.in_ok-add-5.ensures ms (gaps d) c.in_ok-bare.ensures) (h ms (unused d) c.in_ok-unused.ensures))
    c.add-6.ensures
