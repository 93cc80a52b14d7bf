-- What is known of cases that several workers run.
use Rattle.std.specs.Prelude.{ℕ, ◌≡◌, ◌<◌, List, length, All, Option, Result, Ok, Err, IfSome, slice_index_or}
use Rattle.std.specs.declared.alloc.AllocError.{AllocError}
use Rattle.asl_suite.specs.declared.case_report.CaseReport.{CaseReport}
use Rattle.asl_suite_workers.specs.declared.claims.Done.{Done}
use Rattle.asl_suite_workers.specs.declared.cases.SuiteFault.{SuiteFault}
use Rattle.asl_suite_workers.specs.declared.cases.SuiteFault.TheVariants.{NotRun, OutOfMemory}

-- a worker told of the case at the gate, ran it, which gave this, and told that it was done
pub record IsRun (began ended : ℕ → ℕ → Type 0) (gives : ℕ → Result CaseReport AllocError → Type 0) (i : ℕ) (r : Result CaseReport AllocError) : Type 0 where
  pub worker : ℕ
  pub before : began worker i
  pub outcome : gives i r
  pub after : ended worker i

-- so many cases, and what the run of each may give
module _ (count : ℕ) (gives : ℕ → Result CaseReport AllocError → Type 0) where
  -- a case of the suite, with an outcome that its run may give
  pub record IsDone (d : Done) : Type 0 where
    pub case : d.case < count
    pub outcome : gives d.case d.outcome

  abbrev pub AreDone : List Done → Type 0
  AreDone ds = All IsDone ds

  -- a report for each case, in order
  pub record IsEach (reports : List CaseReport) : Type 0 where
    pub len : length reports ≡ count
    pub each : (i : ℕ) (d : CaseReport) → i < count → gives i (Ok (slice_index_or reports i d))

  -- the least case that found no memory: each before it has a report
  pub record IsNotRun (i : ℕ) : Type 0 where
    pub case : i < count
    pub failed : (e : AllocError) × gives i (Err e)
    pub earlier : (j : ℕ) → j < i → (r : CaseReport) × gives j (Ok r)

  -- that case; or there was no memory for the list of reports
  abbrev pub IsFault : SuiteFault → Type 0
  IsFault (NotRun i) = IsNotRun i
  IsFault OutOfMemory = Unit {0}

-- each outcome that is there is one of the case at its place
abbrev pub IsAnswered : (ℕ → Result CaseReport AllocError → Type 0) → List (Option (Result CaseReport AllocError)) → Type 0
IsAnswered gives found =
    (i : ℕ) (d : Option (Result CaseReport AllocError)) → i < length found → IfSome (slice_index_or found i d) (gives i)
