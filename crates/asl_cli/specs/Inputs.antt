-- The inputs of tests that stand in files, and why they can't be had.
use Rattle.std.specs.Prelude.{ℕ, List, [], ◌∷◌, ◌≡◌, ◌⊎◌, ⊤, string_bytes}
use Rattle.asl_json.specs.View.{data_of}
use Rattle.asl_json.specs.declared.value.Json.{Json}
use Rattle.asl_json_data.specs.Reads.{ReadsAs}
use Rattle.asl_host.specs.Naming.{beside}
use Rattle.asl_host.specs.Reading.{Lacks}
use Rattle.asl_run_input.specs.Texts.{IsBadInput}
use Rattle.asl_suite_file.specs.declared.expectation.Draft.{Draft}
use Rattle.asl_suite_file.specs.declared.expectation.Expectation.{Expectation}
use Rattle.asl_suite_file.specs.declared.expectation.InputSource.{InputSource}
use Rattle.asl_suite_file.specs.declared.expectation.InputSource.TheVariants.{Here, File}
use Rattle.asl_suite_file.specs.Drafts.{test_on}
use Rattle.asl_run_input.specs.declared.fault.EmulateFault.{EmulateFault}
use Rattle.asl_cli.specs.declared.fault.CommandFault.{CommandFault}
use Rattle.asl_cli.specs.declared.fault.CommandFault.TheVariants as fault
use Rattle.asl_cli.specs.declared.fault.CommandFault.TheVariants.{Emulation, OutOfMemory}
use Rattle.asl_cli.specs.declared.inputs.Known.{Known}

-- ---- the inputs

-- the file of a name may hold this value
pub record IsHeld (gives : List ℕ → List ℕ → Type 0) (name : List ℕ) (v : Json) : Type 0 where
  pub bytes : List ℕ
  pub given : gives name bytes
  pub reads : ReadsAs bytes (data_of v)

-- the input of a test whose file has this name: it stands there, or in the file that is named
abbrev pub IsInput : (List ℕ → List ℕ → Type 0) → List ℕ → InputSource → Json → Type 0
IsInput gives file (Here x) v = v ≡ x
IsInput gives file (File name) v = IsHeld gives (beside file name) v

-- a test with its input
abbrev pub IsTestOn : (List ℕ → List ℕ → Type 0) → List ℕ → Draft → Expectation → Type 0
IsTestOn gives file d t = (v : Json) × IsInput gives file d.input v × (t ≡ test_on d v)

-- tests with their inputs, one by one
abbrev pub AreTestsOn : (List ℕ → List ℕ → Type 0) → List ℕ → List Draft → List Expectation → Type 0
AreTestsOn gives file [] [] = ⊤
AreTestsOn gives file [] (t ∷ ts) = ⊥
AreTestsOn gives file (d ∷ ds) [] = ⊥
AreTestsOn gives file (d ∷ ds) (t ∷ ts) = IsTestOn gives file d t × AreTestsOn gives file ds ts

-- ---- why they can't be had

-- this is why, unless memory ran out
abbrev pub Unless : (CommandFault → Type 0) → CommandFault → Type 0
Unless P OutOfMemory = ⊤
Unless P r = P r

-- what was read is no JSON text
abbrev pub IsNoValue : List ℕ → CommandFault → Type 0
IsNoValue b (Emulation f lines) = IsBadInput b f
IsNoValue b r = ⊥

-- what the file of a name may give is no JSON text
pub record IsUnspelled (gives : List ℕ → List ℕ → Type 0) (name : List ℕ) (f : EmulateFault) : Type 0
  where
    pub bytes : List ℕ
    pub given : gives name bytes
    pub fault : IsBadInput bytes f

-- the file of a name may be lacking, or give no JSON text
abbrev pub IsUnheld : (List ℕ → List ℕ → Type 0) → Lacks → List ℕ → CommandFault → Type 0
IsUnheld gives lacks wanted (fault.File name why) = (string_bytes name ≡ wanted) × lacks wanted why
IsUnheld gives lacks wanted (Emulation f lines) = IsUnspelled gives wanted f
IsUnheld gives lacks wanted r = ⊥

abbrev pub IsLost : (List ℕ → List ℕ → Type 0) → Lacks → List ℕ → InputSource → CommandFault → Type 0
IsLost gives lacks file (Here x) r = ⊥
IsLost gives lacks file (File name) r = IsUnheld gives lacks (beside file name) r

-- this is why the first input can't be had that can't
abbrev pub IsFirstLost : (List ℕ → List ℕ → Type 0) → Lacks → List ℕ → List Draft → CommandFault → Type 0
IsFirstLost gives lacks file [] r = ⊥
IsFirstLost gives lacks file (d ∷ ds) r =
    IsLost gives lacks file d.input r
    ⊎ (((v : Json) × IsInput gives file d.input v) × IsFirstLost gives lacks file ds r)

-- ---- files that were read before

-- this value is known of a file of this name
abbrev pub IsKnown : List Known → List ℕ → Json → Type 0
IsKnown [] n v = ⊥
IsKnown (k ∷ ks) n v = ((k.name ≡ n) × (k.value ≡ v)) ⊎ IsKnown ks n v

-- it is known, or else it holds
abbrev pub IsKnownOrHeld : (List ℕ → Json → Type 0) → List Known → List ℕ → Json → Type 0
IsKnownOrHeld P ks n v = IsKnown ks n v ⊎ P n v

abbrev pub IsInputFrom : (List ℕ → List ℕ → Type 0) → List ℕ → List Known → InputSource → Json → Type 0
IsInputFrom gives file ks (Here x) v = v ≡ x
IsInputFrom gives file ks (File name) v = IsKnownOrHeld (λ n. IsHeld gives (beside file n)) ks name v

abbrev pub IsTestFrom : (List ℕ → List ℕ → Type 0) → List ℕ → List Known → Draft → Expectation → Type 0
IsTestFrom gives file ks d t = (v : Json) × IsInputFrom gives file ks d.input v × (t ≡ test_on d v)
