-- What is chosen for a run: a machine's name, behind which `#` and the name of a test case may
-- stand.
use Rattle.std.specs.Prelude.{◌≡◌, ℕ, ◌==◌, List, [], ◌∷◌, Result, Ok, Err, codes}
use Rattle.std.specs.List.{before_first, after_first}
use Rattle.asl_mock.specs.Answers.{Case, Machines}
use Rattle.asl_mock.specs.Told.{IsMockFile, case_at}
use Rattle.asl_mock.specs.declared.fault.CaseFault.{CaseFault}

-- the machine's name: what stands before the first `#`, and all where there is none
abbrev pub machine_name : List ℕ → List ℕ
machine_name chosen = before_first (λ b. b == 35) chosen

-- the test case's name: what stands behind the first `#`
abbrev pub case_name : List ℕ → List ℕ
case_name chosen = after_first (λ b. b == 35) chosen

abbrev pub name_or_run : List ℕ → List ℕ
name_or_run [] = codes "run"
name_or_run (b ∷ name) = b ∷ name

-- an execution has the name of its test case, and `run` where none is named
abbrev pub execution_name : List ℕ → List ℕ
execution_name chosen = name_or_run (case_name chosen)

-- where no test case is named, it is the empty one, and nothing is looked up
abbrev pub case_or_empty : Machines → List ℕ → List ℕ → Result Case CaseFault
case_or_empty ms machine [] = Ok []
case_or_empty ms machine (b ∷ name) = case_at ms machine (b ∷ name)

-- the test case of these machines that is chosen
abbrev pub case_chosen : Machines → List ℕ → Result Case CaseFault
case_chosen ms chosen = case_or_empty ms (machine_name chosen) (case_name chosen)

-- the mock file is one, and this is its test case that is chosen
pub record IsCaseOf (mocks chosen : List ℕ) (c : Case) : Type 0 where
  pub machines : Machines
  pub mocks_are : IsMockFile mocks machines
  pub chosen_is : case_chosen machines chosen ≡ Ok c

-- the mock file is one, and some test case of it is chosen, if any is named
pub record IsCase (mocks chosen : List ℕ) : Type 0 where
  pub found : Case
  pub is_of : IsCaseOf mocks chosen found

-- the mock file is one, and the test case that is chosen isn't in it for this reason
pub record IsLost (mocks chosen : List ℕ) (e : CaseFault) : Type 0 where
  pub machines : Machines
  pub mocks_are : IsMockFile mocks machines
  pub fault : case_chosen machines chosen ≡ Err e
