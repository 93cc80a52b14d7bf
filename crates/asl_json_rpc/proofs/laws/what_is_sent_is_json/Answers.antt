use Rattle.asl_json_rpc.proofs.Sent.{result_is, error_is, notification_is}
use Rattle.asl_json_rpc.proofs.laws.what_is_sent_is_json.Goals as goal

pub returns : goal.returns
returns c = record { results = result_is; errors = error_is; notifications = notification_is }
