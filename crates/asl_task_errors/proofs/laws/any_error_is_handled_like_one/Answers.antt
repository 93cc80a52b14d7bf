use Rattle.asl_task_errors.proofs.Covering.{any_error}
use Rattle.asl_task_errors.proofs.laws.any_error_is_handled_like_one.Goals as goal

pub returns : goal.returns
returns c = any_error
