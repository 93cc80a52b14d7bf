use Rattle.asl_run_input.proofs.OneReading.{one_reading}
use Rattle.asl_run_input.proofs.steps_file.files_spell_one_list_of_steps.Goals as goal

pub returns : goal.returns
returns c = one_reading
