use Rattle.std.proofs.Common.{◌∙◌, sym}
use Rattle.asl_json.specs.View.{json_of-data_of}
use Rattle.asl_suite_file.proofs.spelled.copy.Goals as goal

pub returns : goal.returns
returns c = c.in_ok-try_clone.ensures ∙ sym (json_of-data_of c.args.value.now)
