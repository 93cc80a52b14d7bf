use Rattle.std.proofs.Common.{◌∙◌, ap, List, ℕ, arith}
use Rattle.asl_json_data.specs.Data.{Data, pairs, chain, members_depth, items_depth}
use Rattle.asl_json.specs.View.{data_of}
use Rattle.asl_json.proofs.Sounding.{item_depth, member_depth}
use Rattle.asl_lint_warnings.specs.private.Trails.{steps_of}
use Rattle.asl_lint_warnings.proofs.Telling.{constants_step, constant_members_step}
use Rattle.asl_lint_warnings.proofs.constant.+constant.Goals as goal

pub tell_items-tell_constant-requires : goal.tell_items-tell_constant-requires
tell_items-tell_constant-requires t c = (omega (arith, item_depth c.values-values.result.now c.loop-i.i c.index-values-i.result c.loop-i-test.true c.index-values-i.is, ap (λ (ds : List Data). items_depth (chain ds)) c.values-values.ensures), tt)

pub tell_items-loop-i-preserved : goal.tell_items-loop-i-preserved
tell_items-loop-i-preserved t c =
    constants_step (steps_of c.args.trail.now) c.loop-i.told.items c.tell_constant.new.told.items _ c.values-values.result.now c.loop-i.i c.index-values-i.result c.loop-i-test.true c.index-values-i.is c.loop-i.invariant c.in_ok-tell_constant.ensures

pub tell_members-tell_member-requires : goal.tell_members-tell_member-requires
tell_members-tell_member-requires t c = (omega (arith, member_depth c.members-pairs.result.now c.loop-i.i c.index-pairs-i.result c.loop-i-test.true c.index-pairs-i.is, ap (λ (vs : List (List ℕ × Data)). members_depth (pairs vs)) c.members-pairs.ensures.members), tt)

pub tell_members-loop-i-preserved : goal.tell_members-loop-i-preserved
tell_members-loop-i-preserved t c =
    constant_members_step (steps_of c.args.trail.now) c.as_str.result.now c.loop-i.told.items c.tell_member.new.told.items _ c.members-pairs.result.now c.loop-i.i c.index-pairs-i.result c.loop-i-test.true c.index-pairs-i.is c.as_str.ensures c.loop-i.invariant c.in_ok-tell_member.ensures
