use Rattle.asl_session.proofs.OneScript.{one-script}
use Rattle.asl_session.proofs.script_file.files_spell_one_script.Goals as goal

pub returns : goal.returns
returns c = one-script
