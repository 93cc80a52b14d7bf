use Rattle.std.proofs.Common.{◌≡◌, ◌++◌, subst}
use Rattle.std.specs.Prelude.{OnOk, codes, string_bytes}
use Rattle.asl_json.specs.View.{data_of}
use Rattle.asl_json_data.specs.Compact.{compact}
use Rattle.asl_step.specs.Rows.{error_output}
use Rattle.asl_step.specs.declared.record.ErrorOut.{ErrorOut}
use Rattle.asl_run_state.proofs.lines.put_outcome.Goals as goal

pub returns-in_ok-error-in-TimedOut-clause-ok : goal.returns-in_ok-error-in-TimedOut-clause-ok
returns-in_ok-error-in-TimedOut-clause-ok c =
    rw c.in-TimedOut.is
    (subst (λ (e : ErrorOut). OnOk c.put_failure-in-TimedOut.result (string_bytes c.put_failure-in-TimedOut.new.out ≡ string_bytes c.args.out.now ++ (codes "status TIMED_OUT " ++ compact (data_of (error_output e))))) c.in_ok-error-in-TimedOut.ensures c.put_failure-in-TimedOut.ensures.ok)
