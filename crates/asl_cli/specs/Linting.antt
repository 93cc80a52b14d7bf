-- What the command `lint` finds and prints.
use Rattle.std.specs.Prelude.{ℕ, ◌+◌, ◌==◌, ◌&&◌, ◌||◌, not, Bool, false, List, [], ◌∷◌, ◌++◌, ◌≡◌, ◌⊎◌, Option, Some, None, is_some, map, option_map, if◌then◌else◌, codes, string_bytes}
use Rattle.std.specs.List.{filter, list_any}
use Rattle.std.specs.Str.{bytes_eq}
use Rattle.asl_lint.specs.declared.finding.Finding.{Finding}
use Rattle.asl_lint.specs.declared.report.FileReport.{FileReport}
use Rattle.asl_lint.specs.Reports.{is_error, is_good}
use Rattle.asl_lint.specs.Rules.{rule_name}
use Rattle.asl_lint.specs.Lines.{lines_of}
use Rattle.asl_lint.specs.JsonLines.{json_lines}
use Rattle.asl_lint.specs.Sarif.{sarif_text}
use Rattle.asl_lint.specs.Github.{github_text}
use Rattle.asl_lint.specs.Gitlab.{gitlab_text}
use Rattle.asl_lint_files.specs.declared.kinds.Role.{Role}
use Rattle.asl_lint_files.specs.declared.kinds.Role.TheVariants as role
use Rattle.asl_lint_files.specs.declared.linting.LintFile.{LintFile}
use Rattle.asl_lint_files.specs.Linted.{AreAllLinted, Each}
use Rattle.asl_words.specs.declared.words.LintFormat.{LintFormat}
use Rattle.asl_words.specs.declared.words.LintFormat.TheVariants.{Text, Json, Sarif, Github, Gitlab}
use Rattle.asl_words.specs.declared.words.LintWords.{LintWords}
use Rattle.asl_arguments.specs.declared.found.Lists.{Lists}
use Rattle.asl_arguments.specs.Given.{said_all}
use Rattle.asl_host.specs.Outcomes.{status_of}
use Rattle.asl_cli.specs.declared.fault.CommandFault.TheVariants.{OutOfMemory}
use Rattle.asl_cli.specs.declared.linting.Ignored.{Ignored}
use Rattle.asl_cli.specs.declared.linting.Linted.{Linted}
use Rattle.asl_cli.specs.declared.linting.Manner.{Manner}
use Rattle.asl_cli.specs.declared.linting.Wanted.{Wanted as WantedFile}
use Rattle.asl_cli.specs.Streams.{FileSystem, Io}
use Rattle.asl_cli.specs.Answers.{IsDone, IsRefusedFor}
use Rattle.asl_cli.specs.Faults.{AreUnread}

-- ---- which files are named

-- a file: its name, what it is said to be, and what it is taken for where it doesn't show what it is
abbrev pub Wanted : Type 0
Wanted = List ℕ × Option Role × Option Role

abbrev pub seen : WantedFile → Wanted
seen f = (f.name.now, f.role, f.otherwise)

-- a dot, a slash, or what a JSON text begins with
abbrev pub is_file_mark : ℕ → Bool
is_file_mark c = (c == 46) || ((c == 47) || ((c == 123) || ((c == 91) || (c == 34))))

-- whether a word may be the name of a file
abbrev pub is_file_name : List ℕ → Bool
is_file_name word = bytes_eq word (codes "-") || list_any is_file_mark word

-- the third of three words is the name of the machine, unless it may be that of a file, or the machine is
-- named besides
abbrev pub names_machine : LintWords → List (List ℕ) → Bool
names_machine w (a ∷ b ∷ c ∷ []) = not (is_some w.machine) && not (is_file_name c)
names_machine w ns = false

abbrev pub first_two : List (List ℕ) → List (List ℕ)
first_two (a ∷ b ∷ ns) = a ∷ b ∷ []
first_two ns = ns

abbrev pub plain_names : LintWords → List (List ℕ) → List (List ℕ)
plain_names w ns = if names_machine w ns then first_two ns else ns

abbrev pub third : List (List ℕ) → Option (List ℕ)
third (a ∷ b ∷ c ∷ ns) = Some c
third ns = None

abbrev pub machine_in : LintWords → List (List ℕ) → Option (List ℕ)
machine_in w ns = if names_machine w ns then third ns else option_map (λ k. k.now) w.machine

-- the first is a definition and the second a mock file where they don't show what they are
abbrev pub by_place : ℕ → Option Role
by_place n = if n == 0 then Some role.Definition else if n == 1 then Some role.Mocks else None

-- counted from i
abbrev pub words_from : ℕ → List (List ℕ) → List Wanted
words_from i [] = []
words_from i (n ∷ ns) = (n, None, by_place i) ∷ words_from (i + 1) ns

-- a file of which it is said what it is, where one is named
abbrev pub role_file : Role → Option (List ℕ) → List Wanted
role_file r None = []
role_file r (Some n) = (n, Some r, None) ∷ []

-- those that stand one after another, then those of which it is said what they are
abbrev pub wanted_in : LintWords → List (List ℕ) → List Wanted
wanted_in w ns =
    words_from 0 (plain_names w ns)
    ++ (role_file role.Mocks (option_map (λ n. n.now) w.mocks)
    ++ (role_file role.Expectations (option_map (λ n. n.now) w.expectations)
    ++ (role_file role.Input (option_map (λ n. n.now) w.input)
    ++ (role_file role.Steps (option_map (λ n. n.now) w.steps)
    ++ role_file role.Script (option_map (λ n. n.now) w.script)))))

pub record IsMannerOf (w : LintWords) (ns : List (List ℕ)) (m : Manner) : Type 0 where
  pub machine : option_map (λ k. k.now) m.machine ≡ machine_in w ns
  pub format : m.format ≡ w.format
  pub strict : m.strict ≡ w.strict

-- ---- what is found in them, and told

-- the file may give this text
pub record IsReadAs (gives : List ℕ → List ℕ → Type 0) (w : Wanted) (f : LintFile) : Type 0 where
  pub name : f.name.now ≡ w.0
  pub role_is : f.role ≡ w.1
  pub otherwise : f.otherwise ≡ w.2
  pub given : gives w.0 f.text.items

-- the text of what is found, in this format
abbrev pub text_in : LintFormat → Bool → List FileReport → List ℕ
text_in Text has_others rs = lines_of rs
text_in Json has_others rs = json_lines rs
text_in Sarif has_others rs = sarif_text has_others rs
text_in Github has_others rs = github_text rs
text_in Gitlab has_others rs = gitlab_text rs

-- the rules that a workflow ignores, and those that are named
abbrev pub rules_in : Ignored → List (List ℕ)
rules_in i = i.of_workflow.now ++ said_all i.named.now

-- a warning of one of these rules
abbrev pub is_ignored : List (List ℕ) → Finding → Bool
is_ignored rules f = not (is_error f.rule) && list_any (λ r. bytes_eq r (rule_name f.rule)) rules

abbrev pub heeded : List (List ℕ) → List Finding → List Finding
heeded rules fs = filter (λ f. not (is_ignored rules f)) fs

-- the findings in a file but for those of rules that are ignored
pub record IsHeeded (rules : List (List ℕ)) (all left : FileReport) : Type 0 where
  pub name : left.name.now ≡ all.name.now
  pub findings : left.findings.items ≡ heeded rules all.findings.items

-- these are printed, and whether nothing is wrong is said of them
pub record IsTold (m : Manner) (has_others : Bool) (rs : List FileReport) (x : Linted) : Type 0 where
  pub good : x.good ≡ is_good m.strict rs
  pub printed : string_bytes x.text ≡ text_in m.format has_others rs

-- these files were judged, without the warnings of these rules
pub record IsJudged (m : Manner) (rules : List (List ℕ)) (files : List LintFile) (x : Linted) : Type 0
  where
    pub all : List FileReport
    pub has_others : Bool
    pub found : AreAllLinted (option_map (λ k. k.now) m.machine) files all has_others
    pub left : List FileReport
    pub heeds : Each (IsHeeded rules) all left
    pub told : IsTold m has_others left x

-- what the files may give was judged
pub record IsLintOf (gives : List ℕ → List ℕ → Type 0) (m : Manner) (rules : List (List ℕ))
    (ws : List Wanted) (x : Linted) : Type 0 where
  pub files : List LintFile
  pub given : Each (IsReadAs gives) ws files
  pub judged : IsJudged m rules files x

-- the lint of these files without the warnings of these rules: what was found was printed, and the status
-- is 0 just where nothing is wrong; or a file can't be read
abbrev pub IsLintedBut : {O E : Type 0} → List (List ℕ) → FileSystem → Io O E → Bool → Manner
    → List Wanted → Type 0
IsLintedBut rules files io quiet m ws =
    IsDone io quiet
    (λ text status. (x : Linted) × IsLintOf files.gives m rules ws x × (text ≡ string_bytes x.text)
    × (status ≡ status_of x.good))
    (AreUnread files.gives files.lacks (map (λ (w : Wanted). w.0) ws))

-- the lint of the files of these names, which ignores these rules
abbrev pub IsLintedOf : {O E : Type 0} → FileSystem → Io O E → Bool → LintWords → List (List ℕ)
    → List (List ℕ) → Type 0
IsLintedOf files io quiet w ns rules =
    (m : Manner) × IsMannerOf w ns m × IsLintedBut rules files io quiet m (wanted_in w ns)

-- the lint of these words and of the names and the rules that are named one after another; or memory ran out
abbrev pub IsLinted : {O E : Type 0} → FileSystem → Io O E → Bool → LintWords → Lists → Type 0
IsLinted files io quiet w l =
    IsLintedOf files io quiet w (said_all l.files.items) (said_all l.ignored.items)
    ⊎ IsRefusedFor io quiet (λ r. r ≡ OutOfMemory)
