use Rattle.std.specs.Prelude.{string_bytes}
use Rattle.std.proofs.Common.{◌++◌}
use Rattle.std.specs.List.{flat_map}
use Rattle.asl_explore.specs.Telling.{state_calls}
use Rattle.asl_explore.proofs.Lines.{put-more}
use Rattle.asl_explore.proofs.telling.put_each.Goals as goal

pub loop-state-preserved : goal.loop-state-preserved
loop-state-preserved c =
    put-more (state_calls c.args.calls.now) c.args.states.now c.loop-state.state-index c.state-item.result (string_bytes c.loop-state.out) (string_bytes c.put_state.new.out)
    (string_bytes c.args.out.now ++ flat_map (state_calls c.args.calls.now) c.args.states.now) c.loop-state-test.true c.state-item.is c.in_ok-put_state.ensures c.loop-state.invariant
