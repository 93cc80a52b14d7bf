use Rattle.std.proofs.Common.{◌∙◌, refl, sym}
use Rattle.std.specs.Prelude.{codes}
use Rattle.asl_json_data.specs.Data.{Data}
use Rattle.asl_def_shared.proofs.Fits.{map_same}
use Rattle.asl_def_states.specs.Show.{pass_members}
use Rattle.asl_def_shared.proofs.Names.{lent, named}
use Rattle.asl_def_states.proofs.pass.Pass.parameters.Goals as goal

pub returns : goal.returns
returns c = lent (λ (t : Data). t) c.as_ref.result c.args.self.now.parameters c.as_ref.ensures.value ∙ sym (map_same c.args.self.now.parameters) ∙ named (codes "Parameters") c.args.self.now.parameters (pass_members c.args.self.now) refl
