use Rattle.std.proofs.Common.{refl}
use Rattle.std.specs.Prelude.{codes}
use Rattle.asl_json.specs.View.{data_of}
use Rattle.asl_def_schema.specs.declared.sort.Sort.TheVariants.{FromZero, Path, Timestamp as Stamped}
use Rattle.asl_def_schema.specs.declared.sort.Kind.TheVariants.{Wait}
use Rattle.asl_def_schema.specs.Members.{wait_rows}
use Rattle.asl_def_fields.proofs.Fitting.{from_zero_fits, path_fits, stamp_fits}
use Rattle.asl_def_shared.proofs.Fits.{wait_none, wait_nothing, clean_in}
use Rattle.asl_def_states.proofs.wait.Delay.read.Goals as goal

pub read-requires : goal.read-requires
unfolding wait_rows
read-requires c = from_zero_fits (data_of c.in-Some.seconds.now) (clean_in Wait c.args.members.now (codes "Seconds") FromZero (data_of c.in-Some.seconds.now) refl c.requires (rw c.in-Some.is at c.find.ensures))

pub returns-in-Some-clause-seconds_path : goal.returns-in-Some-clause-seconds_path
returns-in-Some-clause-seconds_path c = wait_none c.args.members.now (codes "Seconds") (codes "SecondsPath") (data_of c.in-Some.seconds.now) refl refl refl c.requires (rw c.in-Some.is at c.find.ensures)

pub returns-in-Some-clause-timestamp : goal.returns-in-Some-clause-timestamp
returns-in-Some-clause-timestamp c = wait_none c.args.members.now (codes "Seconds") (codes "Timestamp") (data_of c.in-Some.seconds.now) refl refl refl c.requires (rw c.in-Some.is at c.find.ensures)

pub returns-in-Some-clause-timestamp_path : goal.returns-in-Some-clause-timestamp_path
returns-in-Some-clause-timestamp_path c = wait_none c.args.members.now (codes "Seconds") (codes "TimestampPath") (data_of c.in-Some.seconds.now) refl refl refl c.requires (rw c.in-Some.is at c.find.ensures)

pub read-requires-in-Some-find : goal.read-requires-in-Some-find
unfolding wait_rows
read-requires-in-Some-find c = path_fits (data_of c.in-Some-find.path.now) (clean_in Wait c.args.members.now (codes "SecondsPath") Path (data_of c.in-Some-find.path.now) refl c.requires (rw c.in-Some-find.is at c.find-2.ensures))

pub returns-in-Some-find-clause-timestamp : goal.returns-in-Some-find-clause-timestamp
returns-in-Some-find-clause-timestamp c = wait_none c.args.members.now (codes "SecondsPath") (codes "Timestamp") (data_of c.in-Some-find.path.now) refl refl refl c.requires (rw c.in-Some-find.is at c.find-2.ensures)

pub returns-in-Some-find-clause-timestamp_path : goal.returns-in-Some-find-clause-timestamp_path
returns-in-Some-find-clause-timestamp_path c = wait_none c.args.members.now (codes "SecondsPath") (codes "TimestampPath") (data_of c.in-Some-find.path.now) refl refl refl c.requires (rw c.in-Some-find.is at c.find-2.ensures)

pub read-requires-in-Some-find-2 : goal.read-requires-in-Some-find-2
unfolding wait_rows
read-requires-in-Some-find-2 c = stamp_fits (data_of c.in-Some-find-2.stamp.now) (clean_in Wait c.args.members.now (codes "Timestamp") Stamped (data_of c.in-Some-find-2.stamp.now) refl c.requires (rw c.in-Some-find-2.is at c.find-3.ensures))

pub returns-in-Some-find-2-clause-timestamp_path : goal.returns-in-Some-find-2-clause-timestamp_path
returns-in-Some-find-2-clause-timestamp_path c = wait_none c.args.members.now (codes "Timestamp") (codes "TimestampPath") (data_of c.in-Some-find-2.stamp.now) refl refl refl c.requires (rw c.in-Some-find-2.is at c.find-3.ensures)

pub unreachable-requires : goal.unreachable-requires
unreachable-requires c = wait_nothing c.args.members.now c.requires (rw c.in_default.is at c.find.ensures) (rw c.in_default-find.is at c.find-2.ensures) (rw c.in_default-find-2.is at c.find-3.ensures) (rw c.in_default-find-3.is at c.find-4.ensures)

pub read-requires-2 : goal.read-requires-2
unfolding wait_rows
read-requires-2 c = path_fits (data_of c.in-Some-find-3.path.now) (clean_in Wait c.args.members.now (codes "TimestampPath") Path (data_of c.in-Some-find-3.path.now) refl c.requires (rw c.in-Some-find-3.is at c.find-4.ensures))
