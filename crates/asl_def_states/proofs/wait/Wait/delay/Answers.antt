use Rattle.std.proofs.Common.{refl}
use Rattle.std.specs.Prelude.{codes}
use Rattle.asl_def_shared.proofs.Names.{named}
use Rattle.asl_def_states.specs.Show.{seconds_shown, wait_members, seconds_path_shown, timestamp_shown, timestamp_path_shown}
use Rattle.asl_def_states.proofs.wait.Wait.delay.Goals as goal

pub returns-clause-seconds : goal.returns-clause-seconds
returns-clause-seconds c = named (codes "Seconds") (seconds_shown c.args.self.now.delay) (wait_members c.args.self.now) refl

pub returns-clause-seconds_path : goal.returns-clause-seconds_path
returns-clause-seconds_path c = named (codes "SecondsPath") (seconds_path_shown c.args.self.now.delay) (wait_members c.args.self.now) refl

pub returns-clause-timestamp : goal.returns-clause-timestamp
returns-clause-timestamp c = named (codes "Timestamp") (timestamp_shown c.args.self.now.delay) (wait_members c.args.self.now) refl

pub returns-clause-timestamp_path : goal.returns-clause-timestamp_path
returns-clause-timestamp_path c = named (codes "TimestampPath") (timestamp_path_shown c.args.self.now.delay) (wait_members c.args.self.now) refl
