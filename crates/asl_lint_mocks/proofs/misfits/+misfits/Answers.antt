use Rattle.std.proofs.Common.{◌≤◌, ◌∙◌, ap, subst, arith}
use Rattle.std.proofs.lemmas.List.{map-append}
use Rattle.asl_json_data.specs.Data.{depth, members_depth, pairs}
use Rattle.asl_json.specs.View.{data_of}
use Rattle.asl_json_data.specs.Distinct.{Members}
use Rattle.asl_mock.specs.Form.{part_shape, misfits}
use Rattle.asl_mock.specs.declared.shape.Shape.{Shape}
use Rattle.asl_lint_mocks.specs.Places.{numbers_of}
use Rattle.asl_lint_mocks.proofs.Each.{part_misfits, member_within, each_more, all_below, whole_dict}
use Rattle.asl_lint_mocks.proofs.misfits.+misfits.Goals as goal

pub misfits-returns-in_ok-append-in-Dict : goal.misfits-returns-in_ok-append-in-Dict
misfits-returns-in_ok-append-in-Dict t c = whole_dict c.args.shape (data_of c.args.value.now) c.in-Dict.members c.fits.result (numbers_of c.in_ok-all-in-Dict.all.items) (numbers_of c.in_ok-below-in-Dict.below.items) (numbers_of c.append.new.self.items) (ap data_of c.in-Dict.is) c.fits.ensures c.in_ok-all-in-Dict.ensures c.in_ok-below-in-Dict.ensures (ap numbers_of c.in_ok-append-in-Dict.ensures.items ∙ map-append _ c.in_ok-all-in-Dict.all.items c.in_ok-below-in-Dict.below.items)

pub misfits_below-misfits-requires : goal.misfits_below-misfits-requires
misfits_below-misfits-requires t c =
    let within : depth (data_of c.index-members-i.result.value) ≤ members_depth (pairs c.args.members.now) = subst (λ (ms : Members). depth (data_of c.index-members-i.result.value) ≤ members_depth (pairs ms)) c.members-members.ensures.members (member_within c.members-members.result.now c.loop-i.i c.index-members-i.result c.loop-i-test.true c.index-members-i.is) in
    (omega (arith, within), tt)

pub misfits_below-loop-i-preserved : goal.misfits_below-loop-i-preserved
misfits_below-loop-i-preserved t c =
    let m = c.index-members-i.result in
    each_more (part_misfits c.args.shape) c.members-members.result.now c.loop-i.i m (numbers_of c.loop-i.all.items) (numbers_of c.in_ok-inner.inner.items) (numbers_of c.add_under.new.all.items) c.loop-i-test.true c.index-members-i.is c.loop-i.invariant (c.in_ok-inner.ensures ∙ ap (λ (z : Shape). misfits z (data_of m.value)) (c.part.ensures ∙ ap (part_shape c.args.shape) c.as_str.ensures)) c.in_ok-add_under.ensures

pub misfits_below-returns : goal.misfits_below-returns
misfits_below-returns t c = all_below c.args.shape c.args.members.now c.members-members.result.now c.loop-i.i (numbers_of c.loop-i.all.items) c.members-members.ensures.members c.loop-i-test.false c.loop-i.invariant
