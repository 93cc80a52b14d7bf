use Rattle.asl_json_data.specs.Data.{pairs}
use Rattle.asl_json.specs.View.{members_of}
use Rattle.asl_json.specs.Meaning.{count}
use Rattle.asl_def_judge.proofs.Walking.{rows_more, rows_end}
use Rattle.asl_def_judge.proofs.walk.missing.Goals as goal

pub loop-i-preserved : goal.loop-i-preserved
loop-i-preserved c = rows_more c.args.members.now _ c.loop-i.best c.better-best.result c.in_ok-fault.fault c.args.rows.now c.loop-i.i _ c.loop-i-test.true c.loop-i.invariant c.in_ok-fault.ensures c.better-best.ensures

pub returns : goal.returns
returns c = let ms = pairs (members_of c.args.members.now) in rows_end ms (count ms) _ c.loop-i.best c.args.rows.now c.loop-i.i c.loop-i-test.false c.loop-i.invariant
