-- An answer to each Task.
use Rattle.std.specs.Prelude.{ℕ, ◌≡◌, ◌⊎◌, List, [], Ok, Err, codes, unwrap_or}
use Rattle.asl_mock.specs.Answers.{Case, Machine}
use Rattle.asl_mock.specs.Tables.{Named, value_for}
use Rattle.asl_mock.specs.Merged.{merged, merged_with_each}
use Rattle.asl_mock.specs.Told.{IsMockFile, case_at}
use Rattle.asl_mock.specs.declared.fault.CaseFault.{CaseFault}
use Rattle.asl_mock_sample.specs.Files.{sample_text}
use Rattle.asl_run_input.specs.declared.setup.Setup.{Setup}

-- no mock file has this text
abbrev pub IsNoMockFile : List ℕ → Type 0
IsNoMockFile text = (ms : List (Named Machine)) → IsMockFile text ms → ⊥

-- ---- by the other cases of the machine

-- what the case lacks is answered by the first one of the machine in this mock file that names it
pub record IsCompletedBy (mocks : List ℕ) (s : Setup) (c : Case) : Type 0 where
  pub machines : List (Named Machine)
  pub read : IsMockFile mocks machines
  pub all : c ≡ merged_with_each (merged [] s.case) (unwrap_or (value_for s.name_of_machine machines) [])

-- and nothing is where the text is none
abbrev pub IsCompleted : List ℕ → Setup → Case → Type 0
IsCompleted mocks s c = IsCompletedBy mocks s c ⊎ (IsNoMockFile mocks × (c ≡ s.case))

-- ---- by a mock file to begin with

-- what a case lacks is answered as there
pub record IsFilledBySample (s : Setup) (own c : Case) : Type 0 where
  pub machines : List (Named Machine)
  pub read : IsMockFile (sample_text s.name_of_machine s.machine) machines
  pub good : Case
  pub found : case_at machines s.name_of_machine (codes "good") ≡ Ok good
  pub all : c ≡ merged (merged [] own) good

-- there is no such file, or no such case in it
abbrev pub LacksSample : Setup → Type 0
LacksSample s =
    IsNoMockFile (sample_text s.name_of_machine s.machine)
    ⊎ ((ms : List (Named Machine)) × (e : CaseFault) × IsMockFile (sample_text s.name_of_machine s.machine) ms
    × (case_at ms s.name_of_machine (codes "good") ≡ Err e))

-- and nothing is where there is none
abbrev pub IsSampled : Setup → Case → Case → Type 0
IsSampled s own c = IsFilledBySample s own c ⊎ (LacksSample s × (c ≡ own))

-- ---- by both

-- the execution with a case that has an answer to each Task
pub record IsFilled (mocks : List ℕ) (s filled : Setup) : Type 0 where
  pub own : Case
  pub completed : IsCompleted mocks s own
  pub case : Case
  pub sampled : IsSampled s own case
  pub setup : filled ≡ record s { case = case }
