use Rattle.std.proofs.Common.{refl, [], ◌∷◌}
use Rattle.std.specs.Prelude.{codes}
use Rattle.asl_def_states.specs.Show.{told_at, fail_members}
use Rattle.asl_def_shared.specs.Member.{path_names, path_of}
use Rattle.asl_def_shared.proofs.Owning.{own, not_own}
use Rattle.asl_def_states.proofs.fail.Fail.path.Goals as goal

pub returns-in-ErrorPath : goal.returns-in-ErrorPath
returns-in-ErrorPath c = own path_names path_of c.args.member.now (codes "ErrorPath") (told_at c.args.self.now.error) _ (fail_members c.args.self.now) c.in-ErrorPath.is c.reason_path.ensures refl refl

pub returns-in-CausePath : goal.returns-in-CausePath
returns-in-CausePath c = own path_names path_of c.args.member.now (codes "CausePath") (told_at c.args.self.now.cause) _ (fail_members c.args.self.now) c.in-CausePath.is c.reason_path-in-CausePath.ensures refl refl

pub returns-in_default : goal.returns-in_default
returns-in_default c = not_own path_names path_of (codes "ErrorPath" ∷ codes "CausePath" ∷ []) c.args.member.now (fail_members c.args.self.now) refl refl (c.in_default.not-ErrorPath, (c.in_default.not-CausePath, tt))
