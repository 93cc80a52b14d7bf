use Rattle.std.proofs.Common.{◌∙◌, ap, sym}
use Rattle.std.specs.Prelude.{string_bytes}
use Rattle.asl_run_state.specs.Lines.{status_text}
use Rattle.asl_trace.proofs.Replying.{timed_out_text, appended}
use Rattle.asl_trace.proofs.tree.put_outcome.Goals as goal

pub returns-in-TimedOut : goal.returns-in-TimedOut
returns-in-TimedOut c = appended c.push_str-in-TimedOut.result (string_bytes c.args.out.now) (string_bytes c.push_str-in-TimedOut.new.self) _ _ (timed_out_text ∙ ap status_text (sym c.in-TimedOut.is)) c.push_str-in-TimedOut.ensures.bytes
