-- A mock file for a definition that a file holds.
use Rattle.std.specs.Prelude.{ℕ, Bool, List, ◌≡◌}
use Rattle.asl_json_data.specs.Data.{Data}
use Rattle.asl_mock_sample.specs.Files.{sample_text}
use Rattle.asl_words.specs.declared.words.MocksWords.{MocksWords}
use Rattle.asl_cli.specs.Layouts.{IsLaidOut}
use Rattle.asl_cli.specs.Faults.{IsAccepted, IsDefinitionReason}
use Rattle.asl_cli.specs.Streams.{FileSystem, Io}
use Rattle.asl_cli.specs.Answers.{IsDone}

-- the file that the words name may give a definition of a machine for which this is the mock file
pub record IsSample (gives : List ℕ → List ℕ → Type 0) (w : MocksWords) (file : List ℕ) : Type 0
  where
    pub machine : Data
    pub accepted : IsAccepted gives w.definition machine
    pub made : IsLaidOut w.pretty (sample_text w.machine.now machine) file

-- the mock file of these words: it was printed
abbrev pub IsSampled : {O E : Type 0} → FileSystem → Io O E → Bool → MocksWords → Type 0
IsSampled files io quiet w =
    IsDone io quiet
    (λ text status. IsSample files.gives w text × (status ≡ 0))
    (IsDefinitionReason files.gives files.lacks w.definition)
