use Rattle.asl_json_rpc.proofs.Answered.{dict_kept, list_kept}
use Rattle.asl_json_rpc.proofs.calling.params_of.Goals as goal

pub returns-in_ok-try_clone-in-Dict : goal.returns-in_ok-try_clone-in-Dict
returns-in_ok-try_clone-in-Dict c = dict_kept c.args.value.now c.in-Dict.members c.in_ok-try_clone-in-Dict.field-0 c.in-Dict.is c.in_ok-try_clone-in-Dict.ensures

pub returns-in_ok-try_clone-in-List : goal.returns-in_ok-try_clone-in-List
returns-in_ok-try_clone-in-List c = list_kept c.args.value.now c.in-List.items c.in_ok-try_clone-in-List.field-0 c.in-List.is c.in_ok-try_clone-in-List.ensures
