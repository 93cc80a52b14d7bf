use Rattle.std.proofs.Common.{refl, ◌∙◌}
use Rattle.std.specs.Prelude.{codes, option_map, List}
use Rattle.asl_def_shared.proofs.Names.{named, lent}
use Rattle.asl_json_data.specs.Data.{Data, list, chain}
use Rattle.asl_def_shared.specs.Parts.{completion_members}
use Rattle.asl_def_shared.proofs.completion.Completion.catch.Goals as goal

pub returns : goal.returns
returns c = lent (λ (xs : List Data). list (chain xs)) c.as_ref.result _ c.as_ref.ensures.value ∙ named (codes "Catch") (option_map (λ (xs : List Data). list (chain xs)) c.args.self.now.catch) (completion_members c.args.self.now) refl
