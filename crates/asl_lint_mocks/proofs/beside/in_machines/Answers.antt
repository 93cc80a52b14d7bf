use Rattle.std.proofs.Common.{◌∙◌, subst, ap, Bool}
use Rattle.std.specs.Prelude.{option_map}
use Rattle.asl_json.specs.View.{data_of, members_of}
use Rattle.asl_json.specs.Access.{member_list}
use Rattle.asl_lint_mocks.specs.Beside.{in_machine, is_meant}
use Rattle.asl_lint_mocks.specs.Places.{AreAt, numbers_of}
use Rattle.asl_lint_mocks.specs.private.Fitting.{fitting}
use Rattle.asl_lint_mocks.proofs.Each.{each_more}
use Rattle.asl_lint_mocks.proofs.beside.in_machines.Goals as goal

pub loop-i-preserved : goal.loop-i-preserved
loop-i-preserved c =
    let fit = fitting c.args.sort c.args.known.now in
    let ms = c.args.machines.now in
    let m = c.index-machines-i.result in
    let meant = is_meant (option_map (λ k. k.now) c.args.machine) (members_of ms) in
    each_more (λ x. in_machine fit (meant x.0) x) ms c.loop-i.i m (numbers_of c.loop-i.all.items) (numbers_of c.in_ok-inner.inner.items) (numbers_of c.add_under.new.all.items) c.loop-i-test.true c.index-machines-i.is c.loop-i.invariant (subst (λ (b : Bool). AreAt (member_list (data_of m.value)) (numbers_of c.in_ok-inner.inner.items) (in_machine fit b (m.key, data_of m.value))) (c.is_meant-meant.ensures ∙ ap meant c.as_str.ensures) (c.in_ok-inner.ensures m.key)) c.in_ok-add_under.ensures
