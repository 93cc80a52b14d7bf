use Rattle.std.proofs.Common.{refl, ◌∙◌}
use Rattle.std.specs.Prelude.{codes}
use Rattle.asl_def_shared.proofs.Names.{named}
use Rattle.asl_def_shared.proofs.Owning.{copied}
use Rattle.asl_def_shared.specs.Parts.{completion_members}
use Rattle.asl_def_shared.proofs.completion.Completion.result_selector.Goals as goal

pub returns : goal.returns
returns c = copied c.as_ref.result _ c.as_ref.ensures.value ∙ named (codes "ResultSelector") c.args.self.now.result_selector (completion_members c.args.self.now) refl
