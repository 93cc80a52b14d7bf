use Rattle.std.proofs.Common.{refl, [], ◌∷◌}
use Rattle.std.specs.Prelude.{codes}
use Rattle.asl_def_fields.specs.Shown.{path_shown}
use Rattle.asl_def_states.specs.Show.{succeed_members}
use Rattle.asl_def_shared.specs.Member.{path_names, path_of}
use Rattle.asl_def_shared.proofs.Owning.{own, not_own}
use Rattle.asl_def_states.proofs.succeed.Succeed.path.Goals as goal

pub returns-in-InputPath : goal.returns-in-InputPath
returns-in-InputPath c = own path_names path_of c.args.member.now (codes "InputPath") (path_shown c.args.self.now.input_path) _ (succeed_members c.args.self.now) c.in-InputPath.is c.field_path.ensures refl refl

pub returns-in-OutputPath : goal.returns-in-OutputPath
returns-in-OutputPath c = own path_names path_of c.args.member.now (codes "OutputPath") (path_shown c.args.self.now.output_path) _ (succeed_members c.args.self.now) c.in-OutputPath.is c.field_path-in-OutputPath.ensures refl refl

pub returns-in_default : goal.returns-in_default
returns-in_default c = not_own path_names path_of (codes "InputPath" ∷ codes "OutputPath" ∷ []) c.args.member.now (succeed_members c.args.self.now) refl refl (c.in_default.not-InputPath, (c.in_default.not-OutputPath, tt))
