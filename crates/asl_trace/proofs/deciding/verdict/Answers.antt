use Rattle.std.proofs.Common.{◌∙◌, sym, ap}
use Rattle.asl_json_data.specs.Data.{text}
use Rattle.asl_json.specs.View.{data_of}
use Rattle.asl_trace.specs.private.Known.{said}
use Rattle.asl_def_states.proofs.Nexts.{holds_with_next}
use Rattle.asl_trace.proofs.deciding.verdict.Goals as goal

pub returns-in-Ok : goal.returns-in-Ok
returns-in-Ok c = ap said (c.in-Ok.ensures.truth ∙ sym (holds_with_next c.args.rule.now.rule (text c.args.rule.now.next.name) (data_of c.args.value.now) (data_of c.args.context.now)))

pub returns-in-Err : goal.returns-in-Err
returns-in-Err c = ap said (c.in-Err.ensures.truth ∙ sym (holds_with_next c.args.rule.now.rule (text c.args.rule.now.next.name) (data_of c.args.value.now) (data_of c.args.context.now)))
