use Rattle.std.proofs.Common.{◌≡◌, ◌+◌, ℕ, subst, arith}
use Rattle.asl_json_data.specs.Data.{pairs}
use Rattle.asl_json.specs.View.{members_of}
use Rattle.asl_json.specs.Meaning.{count}
use Rattle.asl_def_schema.specs.Claims.{row_claims}
use Rattle.asl_def_schema.specs.private.Code.{rows_of}
use Rattle.asl_lint_faults.proofs.Going.{Goes, goes-start, rows_more, rows_end}
use Rattle.asl_lint_faults.proofs.walk.missing.Goals as goal

pub loop-i-init : goal.loop-i-init
loop-i-init c =
    let ms = pairs (members_of c.args.members.now) in
    let rows = rows_of c.args.rows.now in
    let e : count ms ≡ count ms + 0 = omega arith in
    subst (λ (n : ℕ). Goes (row_claims n rows ms) (row_claims (count ms) rows ms) c.new-told.result.items) e (goes-start _ _ c.new-told.ensures.items)

pub loop-i-preserved : goal.loop-i-preserved
loop-i-preserved c = rows_more c.args.members.now _ c.loop-i.told.items c.add.new.told.items c.in_ok-fault.fault c.args.rows.now c.loop-i.i _ c.loop-i-test.true c.loop-i.invariant c.in_ok-fault.ensures c.in_ok-add.ensures

pub returns : goal.returns
returns c = let ms = pairs (members_of c.args.members.now) in rows_end ms (count ms) _ c.loop-i.told.items c.args.rows.now c.loop-i.i c.loop-i-test.false c.loop-i.invariant
