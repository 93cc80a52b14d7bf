use Rattle.std.proofs.Common.{refl, [], ◌∷◌}
use Rattle.std.specs.Prelude.{codes, option_map}
use Rattle.asl_json_data.specs.Data.{text}
use Rattle.asl_def_fields.specs.Shown.{path_shown}
use Rattle.asl_def_states.specs.Show.{task_members}
use Rattle.asl_def_shared.specs.Member.{path_names, path_of}
use Rattle.asl_def_shared.proofs.Owning.{own, not_own}
use Rattle.asl_def_states.proofs.task.Task.path.Goals as goal

pub returns-in-InputPath : goal.returns-in-InputPath
returns-in-InputPath c = own path_names path_of c.args.member.now (codes "InputPath") (path_shown c.args.self.now.input_path) _ (task_members c.args.self.now) c.in-InputPath.is c.field_path.ensures refl refl

pub returns-in-TimeoutSecondsPath : goal.returns-in-TimeoutSecondsPath
returns-in-TimeoutSecondsPath c = own path_names path_of c.args.member.now (codes "TimeoutSecondsPath") (option_map text c.args.self.now.limits.timeout_path) _ (task_members c.args.self.now) c.in-TimeoutSecondsPath.is c.optional_path.ensures refl refl

pub returns-in-HeartbeatSecondsPath : goal.returns-in-HeartbeatSecondsPath
returns-in-HeartbeatSecondsPath c = own path_names path_of c.args.member.now (codes "HeartbeatSecondsPath") (option_map text c.args.self.now.limits.heartbeat_path) _ (task_members c.args.self.now) c.in-HeartbeatSecondsPath.is c.optional_path-in-HeartbeatSecondsPath.ensures refl refl

pub returns-in-ResultPath : goal.returns-in-ResultPath
returns-in-ResultPath c = own path_names path_of c.args.member.now (codes "ResultPath") (path_shown c.args.self.now.completion.result_path) _ (task_members c.args.self.now) c.in-ResultPath.is c.field_path-in-ResultPath.ensures refl refl

pub returns-in-OutputPath : goal.returns-in-OutputPath
returns-in-OutputPath c = own path_names path_of c.args.member.now (codes "OutputPath") (path_shown c.args.self.now.completion.output_path) _ (task_members c.args.self.now) c.in-OutputPath.is c.field_path-in-OutputPath.ensures refl refl

pub returns-in_default : goal.returns-in_default
returns-in_default c = not_own path_names path_of (codes "InputPath" ∷ codes "TimeoutSecondsPath" ∷ codes "HeartbeatSecondsPath" ∷ codes "ResultPath" ∷ codes "OutputPath" ∷ []) c.args.member.now (task_members c.args.self.now) refl refl (c.in_default.not-InputPath, (c.in_default.not-TimeoutSecondsPath, (c.in_default.not-HeartbeatSecondsPath, (c.in_default.not-ResultPath, (c.in_default.not-OutputPath, tt)))))
