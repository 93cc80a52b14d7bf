-- What is read for a command, what is judged then, and why nothing is.
use Rattle.std.specs.Prelude.{ℕ, Bool, Option, Some, None, string_bytes, List, [], ◌∷◌, ◌≡◌, ◌++◌, ◌⊎◌, ⊤, codes}
use Rattle.asl_json_data.specs.Data.{Data}
use Rattle.asl_json_data.specs.Reads.{ReadsAs}
use Rattle.asl_def_schema.specs.Canon.{canonical}
use Rattle.asl_def_schema.specs.Faults.{Accepted}
use Rattle.asl_def.specs.Upgraded.{upgraded}
use Rattle.asl_check.specs.Judged.{IsDefinition, IsMachineOf, IsFaultOf}
use Rattle.asl_check.specs.Lines.{fault_line as definition_fault_line}
use Rattle.asl_check.specs.declared.fault.Fault.{Fault}
use Rattle.asl_check.specs.declared.fault.Fault.TheVariants as fault
use Rattle.std.specs.Fmt.{decimal}
use Rattle.asl_suite_file.specs.Lines.{expect_line}
use Rattle.asl_suite_file.specs.Told.{IsAnswer as IsExpectAnswer}
use Rattle.asl_suite_file.specs.declared.fault.ExpectFault.{ExpectFault}
use Rattle.asl_suite_file.specs.declared.fault.ExpectFault.TheVariants as expect
use Rattle.asl_project.specs.Lines.{project_line}
use Rattle.asl_rules.specs.FaultText.{fault_text as rule_line}
use Rattle.asl_mock.specs.Chosen.{IsChosen}
use Rattle.asl_run_input.specs.Emulations.{Texts, run_texts, IsRefused}
use Rattle.asl_run_input.specs.Texts.{Unless, refusal_line}
use Rattle.asl_session.specs.Scripts.{script_refusal}
use Rattle.asl_text.specs.Shown.{shown}
use Rattle.asl_cli.specs.Layouts.{laid_out}
use Rattle.asl_cli.specs.Streams.{unless_quiet}
use Rattle.asl_cli.specs.declared.fault.CommandFault.{CommandFault}
use Rattle.asl_cli.specs.declared.fault.CommandFault.TheVariants.{File, Definition, Emulation, Script, Expectations, Test, Project, Rule, Code, Output, OutOfMemory}
use Rattle.asl_cli.specs.declared.reading.SetupTexts.{SetupTexts}
use Rattle.asl_host.specs.Outcomes.{fault_line}
use Rattle.asl_host.specs.Reading.{Lacks, unreadable_words}
use Rattle.asl_host.specs.Writing.{unwritable_words}
use Rattle.asl_host.specs.declared.files.Unreadable.{Unreadable}
use Rattle.asl_words.specs.declared.words.DefinitionWords.{DefinitionWords}
use Rattle.asl_words.specs.declared.words.PrintWords.{PrintWords}
use Rattle.asl_words.specs.declared.words.SetupWords.{SetupWords}

-- ---- a file

-- a file that can't be read is the one of this name, and may be lacking
abbrev pub IsUnread : Lacks → List ℕ → CommandFault → Type 0
IsUnread lacks wanted (File name why) = (string_bytes name ≡ wanted) × lacks wanted why
IsUnread lacks wanted OutOfMemory = ⊤
IsUnread lacks wanted _ = ⊥

-- ---- several files

-- of files that are read one after another this is the first that can't be: it may be lacking, and
-- each before it may give something
abbrev pub IsFirstUnread : (List ℕ → List ℕ → Type 0) → Lacks → List (List ℕ) → List ℕ → Unreadable
    → Type 0
IsFirstUnread gives lacks [] name why = ⊥
IsFirstUnread gives lacks (wanted ∷ names) name why =
    ((name ≡ wanted) × lacks wanted why)
    ⊎ (((b : List ℕ) × gives wanted b) × IsFirstUnread gives lacks names name why)

-- why they aren't read: the first that can't be, or memory ran out
abbrev pub AreUnread : (List ℕ → List ℕ → Type 0) → Lacks → List (List ℕ)
    → CommandFault → Type 0
AreUnread gives lacks names (File name why) = IsFirstUnread gives lacks names (string_bytes name) why
AreUnread gives lacks names OutOfMemory = ⊤
AreUnread gives lacks names _ = ⊥

-- a file, where one is named, may give these bytes
abbrev pub IsGiven : (List ℕ → List ℕ → Type 0) → Option (List ℕ) → Option (List ℕ) → Type 0
IsGiven gives None None = ⊤
IsGiven gives None (Some b) = ⊥
IsGiven gives (Some name) None = ⊥
IsGiven gives (Some name) (Some b) = gives name b

-- ---- the texts of a run, or of a session

-- a name, where there is one
abbrev pub named : Option (List ℕ) → List (List ℕ)
named None = []
named (Some name) = name ∷ []

-- the files that the words name, in their order
abbrev pub names_in : SetupWords → List (List ℕ)
names_in w = w.definition.now ∷ w.mocks.now ∷ w.input.now ∷ []

-- the texts of a run with this file of steps, where there is one
abbrev pub read_texts : SetupTexts → Option (List ℕ) → Texts
read_texts t steps =
    run_texts t.definition.items t.mocks.items (string_bytes t.chosen) t.input.items steps

-- the files that the words name may give these texts, and what the words choose there is this; no steps are
-- named
pub record AreGiven (gives : List ℕ → List ℕ → Type 0) (w : SetupWords) (t : Texts) : Type 0 where
  pub definition : gives w.definition.now t.definition
  pub mocks : gives w.mocks.now t.mocks
  pub chosen : IsChosen t.mocks w.chosen.now t.chosen
  pub input : gives w.input.now t.input
  pub steps : t.steps ≡ None

-- why these texts are refused, or memory ran out
abbrev pub IsTextsReason : Texts → CommandFault → Type 0
IsTextsReason t (Emulation fault lines) = Unless (IsRefused t) fault
IsTextsReason t OutOfMemory = ⊤
IsTextsReason t _ = ⊥

-- ---- an expectation file

-- the first fault of an expectation file; want of memory is none
pub record IsExpectFault (b : List ℕ) (f : ExpectFault) : Type 0 where
  pub is_fault : IsExpectAnswer b f
  pub told : f ≡ expect.OutOfMemory → ⊥

-- why bytes are none, or memory ran out
abbrev pub IsTestsTextReason : List ℕ → CommandFault → Type 0
IsTestsTextReason b (Expectations f lines) = IsExpectFault b f
IsTestsTextReason b OutOfMemory = ⊤
IsTestsTextReason b _ = ⊥

-- ---- a definition

-- the file that the word names may give a definition without faults
pub record IsJudged (gives : List ℕ → List ℕ → Type 0) (w : DefinitionWords) : Type 0 where
  pub text : List ℕ
  pub given : gives w.definition.now text
  pub is_definition : IsDefinition text

-- it may give a definition of this machine
pub record IsAccepted (gives : List ℕ → List ℕ → Type 0) (w : DefinitionWords)
    (machine : Data) : Type 0 where
  pub text : List ℕ
  pub given : gives w.definition.now text
  pub is_machine : IsMachineOf text machine

-- it may give a definition of which this is the canonical form, with a line feed
pub record IsForm (gives : List ℕ → List ℕ → Type 0) (w : PrintWords) (form : List ℕ) : Type 0
  where
    pub machine : Data
    pub accepted : IsAccepted gives w.definition machine
    pub printed : form ≡ laid_out w.pretty machine ++ 10 ∷ []

-- it may give a definition of which this is the canonical form in the newer spelling, with a line feed
pub record IsNewerForm (gives : List ℕ → List ℕ → Type 0) (w : PrintWords) (form : List ℕ) : Type 0
  where
    pub text : List ℕ
    pub given : gives w.definition.definition.now text
    pub definition : Data
    pub reads : ReadsAs text definition
    pub accepted : Accepted definition
    pub printed : form ≡ laid_out w.pretty (canonical (upgraded definition)) ++ 10 ∷ []

-- it may give a text with this fault; want of memory is no fault of a text
pub record IsFaulty (gives : List ℕ → List ℕ → Type 0) (w : DefinitionWords) (f : Fault) : Type 0
  where
    pub text : List ℕ
    pub given : gives w.definition.now text
    pub is_fault : IsFaultOf text f
    pub told : f ≡ fault.OutOfMemory → ⊥

-- why no definition is accepted: the file may be lacking, what was read is no definition, or memory
-- ran out
abbrev pub IsDefinitionReason : (List ℕ → List ℕ → Type 0) → Lacks → DefinitionWords
    → CommandFault → Type 0
IsDefinitionReason gives lacks w (File name why) = IsUnread lacks w.definition.now (File name why)
IsDefinitionReason gives lacks w (Definition f lines) = IsFaulty gives w f
IsDefinitionReason gives lacks w OutOfMemory = ⊤
IsDefinitionReason gives lacks w _ = ⊥

-- why a text is no definition, or memory ran out
abbrev pub IsDefinitionTextReason : List ℕ → CommandFault → Type 0
IsDefinitionTextReason b (Definition f lines) = IsFaultOf b f × (f ≡ fault.OutOfMemory → ⊥)
IsDefinitionTextReason b OutOfMemory = ⊤
IsDefinitionTextReason b _ = ⊥

-- ---- what is told

-- the text of a refusal
abbrev pub reason_text : CommandFault → List ℕ
reason_text (File name why) = codes "file " ++ (string_bytes name ++ unreadable_words why)
reason_text (Definition fault lines) = codes "definition: " ++ definition_fault_line fault
reason_text (Emulation fault lines) = refusal_line fault
reason_text (Script fault lines) = script_refusal fault
reason_text (Expectations fault lines) = codes "expectations: " ++ expect_line fault
reason_text (Test number lines) = codes "expectations: X4 NoTest " ++ decimal number
reason_text (Project fault lines) = codes "project: " ++ project_line fault
reason_text (Rule fault lines) = codes "rule: " ++ rule_line fault
reason_text (Code word lines) = codes "code " ++ word.now
reason_text (Output name why) = codes "file " ++ (name.now ++ unwritable_words why)
reason_text OutOfMemory = codes "OutOfMemory"

-- what stands behind its line
abbrev pub mending : CommandFault → List ℕ
mending (Definition fault lines) = string_bytes lines
mending (Emulation fault lines) = string_bytes lines
mending (Script fault lines) = string_bytes lines
mending (Expectations fault lines) = string_bytes lines
mending (Project fault lines) = string_bytes lines
mending (Test number lines) = string_bytes lines
mending (Rule fault lines) = string_bytes lines
mending (Code word lines) = string_bytes lines
mending _ = []

-- what is told: the line of the refusal, of which every character shows, and what stands behind it, unless
-- that isn't wanted; or that memory ran out, where it may before they are made
abbrev pub Tells : Bool → CommandFault → List ℕ → Type 0
Tells quiet r text =
    (text ≡ fault_line (shown (reason_text r)) ++ unless_quiet quiet (mending r))
    ⊎ (text ≡ fault_line (codes "OutOfMemory"))
