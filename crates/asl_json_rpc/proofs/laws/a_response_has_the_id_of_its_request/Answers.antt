use Rattle.asl_json_rpc.proofs.Answered.{request_id}
use Rattle.asl_json_rpc.proofs.laws.a_response_has_the_id_of_its_request.Goals as goal

pub returns : goal.returns
returns c = record {
  results = λ d i m p r e. request_id d i m p e;
  errors = λ d i m p c t e. request_id d i m p e;
}
