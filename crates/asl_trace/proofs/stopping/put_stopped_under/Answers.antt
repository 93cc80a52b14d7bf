use Rattle.std.proofs.Common.{string_bytes}
use Rattle.std.proofs.lemmas.Result.{on_ok_weaker}
use Rattle.asl_trace.proofs.Walking.{root-lines}
use Rattle.asl_trace.proofs.stopping.put_stopped_under.Goals as goal

pub returns : goal.returns
returns c = on_ok_weaker c.put_stopped_below.result (root-lines c.args.start c.args.now c.args.place.now c.numbers.result.now c.root.result.now c.args.world.now.branches (string_bytes c.args.out.now) (string_bytes c.put_stopped_below.new.out) c.numbers.ensures.value c.root.ensures.branches c.root.ensures.placed) c.put_stopped_below.ensures
