-- Cases that are made of others.
use Rattle.std.specs.Prelude.{◌++◌, [], ◌∷◌, is_some, if◌then◌else◌}
use Rattle.std.specs.List.{fold}
use Rattle.asl_mock.specs.Tables.{Named, value_for}
use Rattle.asl_mock.specs.Answers.{Response, Case, Machine}

-- a response more, unless its state has one
abbrev pub with_missing : Case → Named Response → Case
with_missing c r = if is_some (value_for r.0 c) then c else c ++ r ∷ []

-- what a case lacks is taken from another
abbrev pub merged : Case → Case → Case
merged c others = fold with_missing c others

abbrev pub merged_with_named : Case → Named Case → Case
merged_with_named c other = merged c other.1

-- what a case lacks is taken from the first of these that has it
abbrev pub merged_with_each : Case → Machine → Case
merged_with_each c others = fold merged_with_named c others
