use Rattle.std.proofs.Common.{refl}
use Rattle.std.specs.Prelude.{codes}
use Rattle.asl_def_schema.specs.declared.sort.Sort.TheVariants.{FromOne, Path}
use Rattle.asl_def_schema.specs.declared.sort.Kind.TheVariants.{Task as TaskKind}
use Rattle.asl_def_schema.specs.Members.{task_rows}
use Rattle.asl_def_fields.specs.Readable.{IsCount, IsPathText}
use Rattle.asl_def_fields.proofs.Fitting.{from_one_fits, path_fits}
use Rattle.asl_def_shared.proofs.Fits.{member_fits}
use Rattle.asl_def_shared.proofs.limits.TimeLimits.read.Goals as goal

pub read_optional-requires : goal.read_optional-requires
unfolding task_rows
read_optional-requires c = member_fits TaskKind c.args.members.now (codes "TimeoutSeconds") FromOne IsCount _ refl from_one_fits c.requires c.find.ensures

pub read_optional-requires-2 : goal.read_optional-requires-2
unfolding task_rows
read_optional-requires-2 c = member_fits TaskKind c.args.members.now (codes "TimeoutSecondsPath") Path IsPathText _ refl path_fits c.requires c.find-2.ensures

pub read_optional-requires-3 : goal.read_optional-requires-3
unfolding task_rows
read_optional-requires-3 c = member_fits TaskKind c.args.members.now (codes "HeartbeatSeconds") FromOne IsCount _ refl from_one_fits c.requires c.find-3.ensures

pub read_optional-requires-4 : goal.read_optional-requires-4
unfolding task_rows
read_optional-requires-4 c = member_fits TaskKind c.args.members.now (codes "HeartbeatSecondsPath") Path IsPathText _ refl path_fits c.requires c.find-4.ensures
