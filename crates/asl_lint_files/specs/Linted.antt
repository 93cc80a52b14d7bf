-- What is found in several files beside one another.
use Rattle.std.specs.Prelude.{◌≡◌, ℕ, Bool, true, false, List, [], ◌∷◌, Option, Some, None, option_map, if◌then◌else◌, ⊤}
use Rattle.std.specs.List.{All, list_any}
use Rattle.asl_json_data.specs.Data.{Data}
use Rattle.asl_json_data.specs.Reads.{ReadsAs}
use Rattle.asl_lint.specs.declared.finding.Finding.{Finding}
use Rattle.asl_lint.specs.declared.report.FileReport.{FileReport}
use Rattle.asl_lint.specs.Linted.{AreLinted, AreMocksLinted, IsNoText}
use Rattle.asl_lint.specs.Places.{IsAt}
use Rattle.asl_lint_files.specs.declared.kinds.Kind.{Kind}
use Rattle.asl_lint_files.specs.declared.kinds.Kind.TheVariants.{Ours}
use Rattle.asl_lint_files.specs.declared.kinds.Role.{Role}
use Rattle.asl_lint_files.specs.declared.kinds.Role.TheVariants as role
use Rattle.asl_lint_files.specs.declared.linting.LintFile.{LintFile}
use Rattle.asl_lint_files.specs.declared.linting.Taken.{Taken}
use Rattle.asl_lint_files.specs.Kinds.{IsKindOf}
use Rattle.asl_lint_files.specs.Judged.{AreExpectationsJudged, AreStepsJudged, IsInputJudged, IsScriptJudged, IsUnclear}

-- as many, and each pair so
abbrev pub Each : {A B : Type 0} → (A → B → Type 0) → List A → List B → Type 0
Each P [] [] = Unit {0}
Each P [] (y ∷ ys) = ⊥
Each P (x ∷ xs) [] = ⊥
Each P (x ∷ xs) (y ∷ ys) = P x y × Each P xs ys

-- ---- what each file is taken for

-- what it is said to be; else what it shows; else what its place says
abbrev pub chosen : Option Role → Option Kind → Option Role → Option Kind
chosen (Some r) shown otherwise = Some (Ours r)
chosen None (Some k) otherwise = Some k
chosen None None otherwise = option_map Ours otherwise

pub record IsTaken (f : LintFile) (t : Taken) : Type 0 where
  pub name : t.name.now ≡ f.name.now
  pub text : t.text.now ≡ f.text.items
  pub shown : Option Kind
  pub shows : IsKindOf f.text.items shown
  pub kind : t.kind ≡ chosen f.role shown f.otherwise

abbrev pub is_definition : Option Kind → Bool
is_definition (Some (Ours role.Definition)) = true
is_definition k = false

abbrev pub is_mocks : Option Kind → Bool
is_mocks (Some (Ours role.Mocks)) = true
is_mocks k = false

-- a file that is neither
abbrev pub is_other : Option Kind → Bool
is_other (Some (Ours role.Definition)) = false
is_other (Some (Ours role.Mocks)) = false
is_other k = true

-- ---- which stand beside one another

abbrev pub texts_of : (Option Kind → Bool) → List Taken → List (List ℕ)
texts_of is [] = []
texts_of is (t ∷ ts) = if is t.kind then t.text.now ∷ texts_of is ts else texts_of is ts

-- the one, where there is exactly one
abbrev pub only : List (List ℕ) → Option (List ℕ)
only [] = None
only (b ∷ []) = Some b
only (b ∷ c ∷ bs) = None

-- a definition stands beside the only mock file, if it is the only one itself
abbrev pub mocks_beside : Option (List ℕ) → Option (List ℕ) → Option (List ℕ)
mocks_beside None mocks = None
mocks_beside (Some definition) mocks = mocks

-- ---- what is found in each

-- beside the only definition, where there is one
abbrev pub AreMocksBeside : Option (List ℕ) → Option (List ℕ) → List ℕ → List Finding → Type 0
AreMocksBeside w None b fs = AreMocksLinted w None (Some b) fs
AreMocksBeside w (Some definition) b fs = (ds : List Finding) × AreLinted w (Some b) definition ds fs

-- the value of a mock file, where there is one that is a JSON text
abbrev pub IsValueOf : Option (List ℕ) → Option Data → Type 0
IsValueOf None None = ⊤
IsValueOf None (Some d) = ⊥
IsValueOf (Some b) None = IsNoText b
IsValueOf (Some b) (Some d) = ReadsAs b d

abbrev pub AreTestsBeside : Option (List ℕ) → List ℕ → List Finding → Type 0
AreTestsBeside mocks b fs = (m : Option Data) × IsValueOf mocks m × AreExpectationsJudged m b fs

-- of the machine of this name, beside the only definition and the only mock file
abbrev pub IsJudged : Option (List ℕ) → Option (List ℕ) → Option (List ℕ) → Option Kind → List ℕ
    → List Finding → Type 0
IsJudged w definition mocks (Some (Ours role.Definition)) b fs =
    (ms : List Finding) × AreLinted w (mocks_beside definition mocks) b fs ms
IsJudged w definition mocks (Some (Ours role.Mocks)) b fs = AreMocksBeside w definition b fs
IsJudged w definition mocks (Some (Ours role.Expectations)) b fs = AreTestsBeside mocks b fs
IsJudged w definition mocks (Some (Ours role.Steps)) b fs = AreStepsJudged b fs
IsJudged w definition mocks (Some (Ours role.Script)) b fs = IsScriptJudged b fs
IsJudged w definition mocks (Some (Ours role.Input)) b fs = IsInputJudged b fs
IsJudged w definition mocks k b fs = IsUnclear b fs

-- each at its line and column
pub record IsReported (w definition mocks : Option (List ℕ)) (t : Taken) (r : FileReport) : Type 0
  where
    pub name : r.name.now ≡ t.name.now
    pub at : All (IsAt t.text.now) r.findings.items
    pub judged : IsJudged w definition mocks t.kind t.text.now r.findings.items

-- these are found in the files, in order; and whether one of them is neither a definition nor a mock file
pub record AreAllLinted (w : Option (List ℕ)) (files : List LintFile) (rs : List FileReport)
    (others : Bool) : Type 0 where
  pub taken : List Taken
  pub are : Each IsTaken files taken
  pub reports : Each (IsReported w (only (texts_of is_definition taken))
      (only (texts_of is_mocks taken))) taken rs
  pub others_are : others ≡ list_any (λ (t : Taken). is_other t.kind) taken
