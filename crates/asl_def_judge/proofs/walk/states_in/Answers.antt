use Rattle.std.proofs.Common.{sym}
use Rattle.asl_json_data.specs.Data.{pairs}
use Rattle.asl_json.specs.View.{members_of}
use Rattle.asl_def_judge.proofs.Naming.{states_are}
use Rattle.asl_def_judge.proofs.walk.states_in.Goals as goal

pub returns-in-Some-Dict : goal.returns-in-Some-Dict
returns-in-Some-Dict c = λ k. states_are k (members_of c.members.result.now) _ (pairs (members_of c.args.members.now)) (sym (rw c.in-Some-Dict.field-0-is at c.in-Some-Dict.ensures)) c.members.ensures.members
