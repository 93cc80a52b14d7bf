-- Names of files that stand in files.
use Rattle.std.specs.Prelude.{ℕ, List, if◌then◌else◌}
use Rattle.std.specs.Path.{path_with_file_name}
use Rattle.asl_host.specs.Reading.{is_text}

-- a name that stands in a file goes from the folder of that file, unless it begins with a slash; a text in place
-- of a file has no folder
abbrev pub beside : List ℕ → List ℕ → List ℕ
beside file name = if is_text file then name else path_with_file_name file name
