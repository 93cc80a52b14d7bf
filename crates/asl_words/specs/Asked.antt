-- What is asked for by what is given for the arguments of a command.
use Rattle.std.specs.Prelude.{ℕ, ◌==◌, ◌&&◌, ◌||◌, Bool, true, false, not, List, [], ◌∷◌, Option, Some, None}
use Rattle.std.specs.Prelude.{◌^◌, is_some, option_map, option_and_then, if◌then◌else◌, length, nat_le, nat_lt, codes}
use Rattle.std.specs.Borrow.{Bor}
use Rattle.std.specs.Option.{option_xor, option_or}
use Rattle.std.specs.Char.{digit_value}
use Rattle.std.specs.List.{list_all, list_any, before_first, after_first}
use Rattle.std.specs.Str.{all_ascii_digits, bytes_eq}
use Rattle.std.specs.Str.Parse.{digits_value, without_leading_plus}
use Rattle.asl_words.specs.declared.verbs.Verb.{Verb}
use Rattle.asl_words.specs.declared.verbs.Verb.TheVariants as verb
use Rattle.asl_words.specs.declared.given.Given.{Given}
use Rattle.asl_words.specs.declared.screen.Screen.{Screen}
use Rattle.asl_words.specs.declared.words.Asked.{Asked}
use Rattle.asl_words.specs.declared.words.Words.{Words}
use Rattle.asl_words.specs.declared.words.Words.TheVariants as words
use Rattle.asl_words.specs.declared.words.DefinitionWords.{DefinitionWords}
use Rattle.asl_words.specs.declared.words.ProjectWords.{ProjectWords}
use Rattle.asl_words.specs.declared.words.Subject.{Subject}
use Rattle.asl_words.specs.declared.words.Subject.TheVariants as subject
use Rattle.asl_words.specs.declared.words.PrintWords.{PrintWords}
use Rattle.asl_words.specs.declared.words.SetupWords.{SetupWords}
use Rattle.asl_words.specs.declared.words.Begin.{Begin}
use Rattle.asl_words.specs.declared.words.Begin.TheVariants as begin
use Rattle.asl_words.specs.declared.words.ErrorsBegin.{ErrorsBegin}
use Rattle.asl_words.specs.declared.words.ErrorsBegin.TheVariants as errors
use Rattle.asl_words.specs.declared.words.ErrorsFormat.{ErrorsFormat}
use Rattle.asl_words.specs.declared.words.ErrorsFormat.TheVariants as outcome
use Rattle.asl_words.specs.declared.words.PlansFormat.{PlansFormat}
use Rattle.asl_words.specs.declared.words.PlansFormat.TheVariants as plans
use Rattle.asl_words.specs.declared.words.ErrorsShown.{ErrorsShown}
use Rattle.asl_words.specs.declared.words.ErrorsShown.TheVariants as shown
use Rattle.asl_words.specs.declared.words.ChosenWords.{ChosenWords}
use Rattle.asl_words.specs.declared.words.TestedWords.{TestedWords}
use Rattle.asl_words.specs.declared.words.OrderWords.{OrderWords}
use Rattle.asl_words.specs.declared.words.Shard.{Shard}
use Rattle.asl_words.specs.declared.words.LintFormat.{LintFormat}
use Rattle.asl_words.specs.declared.words.LintFormat.TheVariants as lint
use Rattle.asl_words.specs.declared.words.GraphFormat.{GraphFormat}
use Rattle.asl_words.specs.declared.words.GraphFormat.TheVariants as graph
use Rattle.asl_words.specs.declared.words.RunFormat.{RunFormat}
use Rattle.asl_words.specs.declared.words.RunFormat.TheVariants as run
use Rattle.asl_words.specs.declared.words.DebugFormat.{DebugFormat}
use Rattle.asl_words.specs.declared.words.DebugFormat.TheVariants as debug
use Rattle.asl_words.specs.declared.words.ReportFormat.{ReportFormat}
use Rattle.asl_words.specs.declared.words.ReportFormat.TheVariants as report
use Rattle.asl_words.specs.declared.words.CoverageFormat.{CoverageFormat}
use Rattle.asl_words.specs.declared.words.CoverageFormat.TheVariants as coverage
use Rattle.asl_words.specs.declared.words.WitnessFormat.{WitnessFormat}
use Rattle.asl_words.specs.declared.words.WitnessFormat.TheVariants as witness

abbrev pub Word : Type 0
Word = Option (Bor (List ℕ))

-- ---- formats, numbers and parts of suites

-- what a text names
abbrev pub named : {T : Type 0} → List (List ℕ × T) → List ℕ → Option T
named [] text = None
named (row ∷ rows) text = if bytes_eq text row.0 then Some row.1 else named rows text

abbrev pub format_asked : {T : Type 0} → List (List ℕ × T) → Word → Option T
format_asked rows = option_and_then (λ w. named rows w.now)

abbrev pub lint_formats : List (List ℕ × LintFormat)
lint_formats =
    (codes "text", lint.Text) ∷ (codes "json", lint.Json) ∷ (codes "sarif", lint.Sarif)
    ∷ (codes "github", lint.Github) ∷ (codes "gitlab", lint.Gitlab) ∷ []

abbrev pub graph_formats : List (List ℕ × GraphFormat)
graph_formats =
    (codes "mermaid", graph.Mermaid) ∷ (codes "markdown", graph.Markdown) ∷ (codes "dot", graph.Dot) ∷ []

-- that of the service tells of the region that is named
abbrev pub run_formats : Word → List (List ℕ × RunFormat)
run_formats region =
    (codes "text", run.Text) ∷ (codes "json", run.Json) ∷ (codes "aws", run.Aws region)
    ∷ (codes "steps", run.Steps) ∷ (codes "tree", run.Tree) ∷ (codes "data", run.Data) ∷ []

abbrev pub report_formats : List (List ℕ × ReportFormat)
report_formats =
    (codes "text", report.Text) ∷ (codes "junit", report.JUnit) ∷ (codes "json", report.Json) ∷ []

abbrev pub coverage_formats : List (List ℕ × CoverageFormat)
coverage_formats = (codes "text", coverage.Text) ∷ (codes "json", coverage.Json) ∷ (codes "lcov", coverage.Lcov) ∷ []

abbrev pub witness_formats : List (List ℕ × WitnessFormat)
witness_formats =
    (codes "steps", witness.Steps) ∷ (codes "tree", witness.Tree) ∷ (codes "data", witness.Data) ∷ (codes "test", witness.Test) ∷ []

-- decimal digits, one at least
abbrev pub is_numeral : List ℕ → Bool
is_numeral ds = nat_lt 0 (length ds) && list_all (λ d. nat_lt (digit_value d) 10) ds

-- decimal digits, of which a plus may stand in front, of a number of 64 bits from a least to a greatest
abbrev pub is_unsigned_in : ℕ → ℕ → List ℕ → Bool
is_unsigned_in least greatest text =
    let n = digits_value 10 (without_leading_plus text) in
    is_numeral (without_leading_plus text) && (nat_lt n (2 ^ 64) && (nat_le least n && nat_le n greatest))

-- a number from a least to a greatest, in decimal digits
unfoldable pub number_in : ℕ → ℕ → List ℕ → Option ℕ
number_in least greatest text =
    if is_unsigned_in least greatest text then Some (digits_value 10 (without_leading_plus text)) else None

abbrev pub number_asked : ℕ → ℕ → Word → Option ℕ
number_asked least greatest = option_and_then (λ w. number_in least greatest w.now)

-- a number where there is a word for one
abbrev pub number_if_asked : ℕ → ℕ → Word → Option (Option ℕ)
number_if_asked least greatest None = Some None
number_if_asked least greatest (Some w) = option_map Some (number_in least greatest w.now)

-- a number of 64 bits, in decimal digits alone
abbrev pub digits_in : List ℕ → Option ℕ
digits_in text =
    if all_ascii_digits text then number_in 0 18446744073709551615 text else None

abbrev pub shard_between : ℕ → ℕ → Option Shard
shard_between first apart =
    if nat_le 1 first && nat_le first apart then Some (record { first = first; apart = apart }) else None

abbrev pub is_slash : ℕ → Bool
is_slash c = c == 47

-- the part that two numbers of 64 bits name
abbrev pub shard_by : List ℕ → List ℕ → Option Shard
shard_by first apart = option_and_then (λ f. option_and_then (shard_between f) (digits_in apart)) (digits_in first)

-- what two texts name with the first of these marks between them
abbrev pub at_mark : {T : Type 0} → (ℕ → Bool) → (List ℕ → List ℕ → Option T) → List ℕ → Option T
at_mark is_mark by text =
    if list_any is_mark text then by (before_first is_mark text) (after_first is_mark text) else None

-- `I/N`, two numbers with a slash (47) between them, the first from 1 to the second
abbrev pub shard_in : List ℕ → Option Shard
shard_in = at_mark is_slash shard_by

-- the whole where there is no word
abbrev pub shard_asked : Word → Option Shard
shard_asked None = Some (record { first = 1; apart = 1 })
shard_asked (Some w) = shard_in w.now

-- ---- what is asked of each command

abbrev pub definition_asked : Given → Option DefinitionWords
definition_asked g = option_map (λ d. record { definition = d }) g.definition

-- a definition, or else a project; both aren't named
abbrev pub subject_named : Word → Word → Option Subject
subject_named (Some d) None = Some (subject.Definition (record { definition = d }))
subject_named (Some d) (Some p) = None
subject_named None p = Some (subject.Project (record { project = p }))

abbrev pub subject_asked : Given → Option Subject
subject_asked g = subject_named g.definition g.project

abbrev pub check_of : Subject → Option Words
check_of (subject.Definition d) = Some (words.Check d)
check_of (subject.Project p) = Some (words.CheckAll p)

abbrev pub check_asked : Given → Option Words
check_asked g = option_and_then check_of (subject_asked g)

abbrev pub print_asked : Given → Option PrintWords
print_asked g = option_map (λ d. record { definition = d; pretty = g.pretty }) (definition_asked g)

-- of a word and the option that may stand for it one is there, and not both
abbrev pub mocks_file : Given → Word
mocks_file g = option_xor g.mocks g.mocks_option

abbrev pub setup_asked : Given → Option SetupWords
setup_asked g = option_and_then (λ definition. option_and_then (λ mocks.
    option_and_then (λ chosen. option_map (λ input. record {
      definition = definition;
      mocks = mocks;
      chosen = chosen;
      input = input;
    }) (option_xor g.input g.input_option)) (option_xor g.chosen g.case_option))
    (mocks_file g)) g.definition

-- the word or the option, and not both; neither need be there
abbrev pub either_asked : Word → Word → Option Word
either_asked (Some word) (Some option) = None
either_asked word option = Some (option_or word option)

-- the number sign, which stands between a machine and a case of it
abbrev pub is_case_mark : ℕ → Bool
is_case_mark c = c == 35

abbrev pub has_case : Word → Bool
has_case None = false
has_case (Some w) = list_any is_case_mark w.now

-- a workflow of a project is meant: the project is named, or the first word is a case of a machine and
-- nothing else is chosen
abbrev pub names_chosen : Given → Bool
names_chosen g =
    is_some g.project || (not (is_some g.chosen) && (not (is_some g.case_option) && has_case g.definition))

-- something is named that a project names
abbrev pub names_more : Given → Bool
names_more g = is_some g.chosen || (is_some g.input || is_some g.mocks_option)

-- what is chosen of a project is the first word, or the option; the input may stand behind it
abbrev pub chosen_asked : Given → Option ChosenWords
chosen_asked g = if names_more g then None else option_and_then (λ chosen. option_map (λ input. record {
  project = record { project = g.project };
  chosen = chosen;
  input = input;
}) (either_asked g.mocks g.input_option)) (option_xor g.definition g.case_option)

-- something is named that a test names, or a project
abbrev pub names_beside_test : Given → Bool
names_beside_test g = is_some g.chosen || (is_some g.case_option || (is_some g.input
    || (is_some g.input_option || is_some g.project)))

-- a number from 1, in decimal digits alone
abbrev pub number_from_one : List ℕ → Option ℕ
number_from_one text = option_and_then (λ n. if n == 0 then None else Some n) (digits_in text)

-- `SUITE#N`: the name of a file of tests, and the number of one of them, from 1
abbrev pub test_by : List ℕ → List ℕ → Option ℕ
test_by suite number = number_from_one number

abbrev pub test_number : List ℕ → Option ℕ
test_number = at_mark is_case_mark test_by

-- what the execution of a test begins with
abbrev pub tested_asked : Given → Bor (List ℕ) → Option TestedWords
tested_asked g test = if names_beside_test g then None else option_and_then (λ definition.
    option_and_then (λ mocks. option_map (λ number. record {
      definition = definition;
      mocks = mocks;
      test = test;
      number = number;
    }) (test_number test.now)) (mocks_file g)) g.definition

-- a test is named, or else a project may be meant, or else the files themselves are
abbrev pub begin_by : Given → Word → Option Begin
begin_by g (Some test) = option_map begin.Test (tested_asked g test)
begin_by g None =
    if names_chosen g then option_map begin.Project (chosen_asked g) else option_map begin.Files (setup_asked g)

-- what a run begins with
abbrev pub begin_asked : Given → Option Begin
begin_asked g = begin_by g g.test

-- a file is named that is to be judged
abbrev pub names_files : Given → Bool
names_files g = is_some g.file || (is_some g.mocks_option || (is_some g.expect_option
    || (is_some g.input_option || (is_some g.steps || is_some g.script_option))))

-- files, and no project
abbrev pub lint_files_asked : Given → Option Words
lint_files_asked g = if is_some g.project then None else option_map (λ format. words.Lint (record {
  mocks = g.mocks_option;
  expectations = g.expect_option;
  input = g.input_option;
  steps = g.steps;
  script = g.script_option;
  machine = g.machine_option;
  format = format;
  strict = g.strict;
})) (format_asked lint_formats g.format)

-- a project, which names its machines itself
abbrev pub lint_all_asked : Given → Option Words
lint_all_asked g = if is_some g.machine_option then None else option_map (λ format. words.LintAll (record {
  project = record { project = g.project };
  format = format;
  strict = g.strict;
})) (format_asked lint_formats g.format)

abbrev pub lint_asked : Given → Option Words
lint_asked g = if names_files g then lint_files_asked g else lint_all_asked g

-- something is named that only a run needs
abbrev pub names_run : Given → Bool
names_run g = is_some g.mocks || (is_some g.chosen || (is_some g.input
    || (is_some g.mocks_option || (is_some g.case_option || is_some g.input_option))))

abbrev pub marked_run : Given → Option (Option SetupWords)
marked_run g = if g.run then option_map Some (setup_asked g) else (if names_run g then None else Some None)

abbrev pub graph_asked : Given → Option Words
graph_asked g = option_and_then (λ definition. option_and_then (λ format. option_map (λ run.
    words.Graph (record { definition = definition; format = format; run = run })) (marked_run g))
    (format_asked graph_formats g.format)) (definition_asked g)

abbrev pub mocks_asked : Given → Option Words
mocks_asked g = option_and_then (λ definition. option_map (λ machine.
    words.Mocks (record { definition = definition; machine = machine; pretty = g.pretty })) g.machine)
    (definition_asked g)

-- a run is printed by what happened at each state, which may have colours
abbrev pub tells_of_states : RunFormat → Bool
tells_of_states run.Tree = true
tells_of_states run.Data = true
tells_of_states _ = false

-- a run is printed in the shape in which the service tells one
abbrev pub is_of_service : RunFormat → Bool
is_of_service (run.Aws region) = true
is_of_service _ = false

-- how a run is printed; a region is named beside the service's format alone
abbrev pub run_format_asked : Word → Word → Option RunFormat
run_format_asked w region = option_and_then (λ format.
    if is_some region && not (is_of_service format) then None else Some format)
    (format_asked (run_formats region) w)

-- at most so many steps are taken where no file names them; both aren't given
abbrev pub most_asked : Word → Word → Option (Option ℕ)
most_asked (Some steps) (Some w) = None
most_asked steps w = number_if_asked 1 1000000 w

abbrev pub run_asked : Given → Screen → Option Words
run_asked g s = option_and_then (λ format. option_and_then (λ begin. option_map (λ most. words.Run (record {
  begin = begin;
  steps = g.steps;
  most_steps = most;
  format = format;
  coloured = s.coloured && tells_of_states format;
})) (most_asked g.steps g.most_steps)) (begin_asked g)) (run_format_asked g.format g.region)

-- a script is told as text; without one it is the tree where a person types and reads, and nothing
-- else is named
abbrev pub debug_format : Word → Bool → Bool → Option DebugFormat
debug_format None typed has_script = Some (if typed && not has_script then debug.Tree else debug.Text)
debug_format (Some w) typed has_script =
    if bytes_eq w.now (codes "text") then Some debug.Text
    else (if bytes_eq w.now (codes "tree") && not has_script then Some debug.Tree else None)

-- lines are to end a talk, and a script is named in their place
abbrev pub debugs_by_script : Given → Bool
debugs_by_script g = g.strict && (is_some g.script || is_some g.script_option)

abbrev pub debug_asked : Given → Screen → Option Words
debug_asked g s = if debugs_by_script g then None else option_and_then (λ script. option_and_then (λ begin. option_map (λ format. words.Debug (record {
  begin = begin;
  script = script;
  format = format;
  coloured = s.coloured;
  strict = g.strict;
})) (debug_format g.format s.typed (is_some script))) (begin_asked g)) (either_asked g.script g.script_option)

-- the least percent that is to be covered; 0 where only the flag is there
abbrev pub coverage_asked : Word → Bool → Option (Option ℕ)
coverage_asked (Some w) flag = option_map Some (number_in 0 100 w.now)
coverage_asked None flag = Some (if flag then Some 0 else None)

-- it is told what tests cover
abbrev pub covers : Given → Bool
covers g = g.coverage || is_some g.least

-- and how; nothing is said of it where it isn't told
abbrev pub coverage_format_asked : Word → Bool → Option CoverageFormat
coverage_format_asked None covered = Some coverage.Text
coverage_format_asked (Some w) covered = if covered then named coverage_formats w.now else None

-- so many worlds are tried at most for each test; 100000 where nothing is said of it
abbrev pub limit_asked : Word → Option ℕ
limit_asked None = Some 100000
limit_asked (Some w) = number_in 1 1000000 w.now

-- in which orders each test has to hold; nothing is said of them where they aren't asked for
abbrev pub orders_asked : Bool → Bool → Word → Option (Option OrderWords)
orders_asked orders every limit =
    if orders then option_map (λ n. Some (record { every = every; limit = n })) (limit_asked limit)
    else (if every || is_some limit then None else Some None)

-- reports are to be written of tests that are listed alone
abbrev pub lists_reports : Given → Bool
lists_reports g = g.list && (is_some g.junit || is_some g.json)

abbrev pub test_one_asked : Given → DefinitionWords → Option Words
test_one_asked g d = option_and_then (λ mocks. option_and_then (λ expectations.
    option_and_then (λ workers. option_and_then (λ format. option_and_then (λ shard. option_and_then (λ least. option_and_then (λ told. option_map (λ orders.
    words.Test (record {
      definition = d.definition;
      mocks = mocks;
      expectations = expectations;
      workers = workers;
      format = format;
      junit = g.junit;
      json = g.json;
      shard = shard;
      filter = g.filter;
      list = g.list;
      coverage = least;
      coverage_format = told;
      strict = g.strict;
      orders = orders;
      among = false;
    })) (orders_asked g.orders g.every g.limit)) (coverage_format_asked g.coverage_format (covers g))) (coverage_asked g.least g.coverage)) (shard_asked g.shard)) (format_asked report_formats g.format))
    (number_asked 1 64 g.workers)) g.expectations) g.mocks

abbrev pub test_all_asked : Given → ProjectWords → Option Words
test_all_asked g p = option_and_then (λ workers. option_and_then (λ format.
    option_and_then (λ shard. option_and_then (λ least. option_and_then (λ told. option_map (λ orders. words.TestAll (record {
      project = p;
      workers = workers;
      format = format;
      junit = g.junit;
      json = g.json;
      shard = shard;
      filter = g.filter;
      list = g.list;
      coverage = least;
      coverage_format = told;
      strict = g.strict;
      orders = orders;
    })) (orders_asked g.orders g.every g.limit)) (coverage_format_asked g.coverage_format (covers g))) (coverage_asked g.least g.coverage)) (shard_asked g.shard)) (format_asked report_formats g.format))
    (number_asked 1 64 g.workers)

abbrev pub test_of : Given → Subject → Option Words
test_of g (subject.Definition d) = test_one_asked g d
test_of g (subject.Project p) = test_all_asked g p

abbrev pub test_asked : Given → Option Words
test_asked g = if lists_reports g then None else option_and_then (test_of g) (subject_asked g)

-- how the steps of one outcome are printed; nothing is said of it where all outcomes are
abbrev pub witness_format : Word → Word → Option WitnessFormat
witness_format number None = Some witness.Steps
witness_format None (Some w) = None
witness_format (Some n) (Some w) = named witness_formats w.now

abbrev pub all_orders_asked : Given → Screen → Option Words
all_orders_asked g s = option_and_then (λ begin. option_and_then (λ limit. option_and_then (λ number.
    option_map (λ format. words.Explore (record {
      begin = begin;
      limit = limit;
      prompt = g.prompt;
      calls = g.calls;
      witness = number;
      format = format;
      coloured = s.coloured;
    })) (witness_format g.witness g.format)) (number_if_asked 1 1000000 g.witness))
    (number_asked 1 1000000 g.limit)) (begin_asked g)

-- nothing but a definition is named, and perhaps its input
abbrev pub names_definition_alone : Given → Bool
names_definition_alone g =
    not (names_chosen g) && (not (is_some g.test) && (not (is_some g.mocks) && (not (is_some g.mocks_option)
    && (not (is_some g.chosen) && (not (is_some g.case_option) && not (is_some g.input))))))

-- where errors are put in, no mock file need be named
abbrev pub errors_begin : Given → Option ErrorsBegin
errors_begin g =
    if names_definition_alone g
    then option_map (λ d. errors.Sample (record { definition = d; input = g.input_option })) g.definition
    else option_map errors.Case (begin_asked g)

abbrev pub is_mocks : Word → Bool
is_mocks None = false
is_mocks (Some w) = bytes_eq w.now (codes "mocks")

abbrev pub is_json : Word → Bool
is_json None = false
is_json (Some w) = bytes_eq w.now (codes "json")

-- how what comes of all plans is printed there
abbrev pub plans_format : Word → Option PlansFormat
plans_format w =
    if not (is_some w) then Some plans.Text
    else if is_json w then Some plans.Json
    else None

-- how an outcome is: the mock file of a plan, or its steps
abbrev pub errors_format : Word → Word → Option ErrorsFormat
errors_format number w = if is_mocks w then Some outcome.Mocks else option_map outcome.Steps (witness_format number w)

-- what is printed: the outcome that is named, or what comes of all plans
abbrev pub errors_shown : Word → Word → Option ErrorsShown
errors_shown number w =
    if not (is_some number) then option_map shown.Plans (plans_format w)
    else option_and_then (λ n. option_map (λ f. shown.Outcome n f) (errors_format number w)) (number_asked 1 1000000 number)

-- there it isn't told how often Tasks are invoked
abbrev pub errors_asked : Given → Screen → Option Words
errors_asked g s = if g.calls then None else option_and_then (λ begin. option_and_then (λ most. option_and_then (λ limit.
    option_map (λ told. words.Errors (record {
      begin = begin;
      errors = most;
      limit = limit;
      prompt = g.prompt;
      shown = told;
      coloured = s.coloured;
    })) (errors_shown g.witness g.format)) (number_asked 1 1000000 g.limit)) (number_asked 0 2 g.errors)) (errors_begin g)

-- nothing that an execution begins with is named, and no outcome; a project may be
abbrev pub names_project_alone : Given → Bool
names_project_alone g =
    not (is_some g.definition) && (not (is_some g.test) && (not (names_run g)
    && (not (is_some g.witness) && not (is_some g.format))))

abbrev pub all_cases_asked : Given → Option Words
all_cases_asked g = option_map (λ limit. words.ExploreAll (record {
  project = record { project = g.project };
  limit = limit;
  prompt = g.prompt;
  calls = g.calls;
})) (number_asked 1 1000000 g.limit)

abbrev pub without_errors_asked : Given → Screen → Option Words
without_errors_asked g s = if names_project_alone g then all_cases_asked g else all_orders_asked g s

-- something is named of plans of errors
abbrev pub names_plans : Given → Bool
names_plans g = is_some g.error || is_some g.always || is_some g.undo

-- which errors are put in, and which rules are to hold then, is named only where some are
abbrev pub explore_asked : Given → Screen → Option Words
explore_asked g s =
    if is_some g.errors then errors_asked g s
    else if names_plans g then None
    else without_errors_asked g s

-- what a command is to do, where answers are read on this screen; nothing where what is given doesn't
-- fit together
abbrev pub words_asked : Verb → Given → Screen → Option Words
words_asked verb.Check g s = check_asked g
words_asked verb.Lint g s = lint_asked g
words_asked verb.Print g s = option_map words.Print (print_asked g)
words_asked verb.Upgrade g s = option_map words.Upgrade (print_asked g)
words_asked verb.Graph g s = graph_asked g
words_asked verb.Mocks g s = mocks_asked g
words_asked verb.Run g s = run_asked g s
words_asked verb.Debug g s = debug_asked g s
words_asked verb.Test g s = test_asked g
words_asked verb.Explore g s = explore_asked g s
words_asked verb.Explain g s = Some (words.Explain (record { code = g.code }))
words_asked verb.Lsp g s = Some words.Lsp

-- the same, and how much is told beside that
abbrev pub asked : Verb → Given → Screen → Option Asked
asked verb g s = option_map (λ w. record { words = w; quiet = g.quiet }) (words_asked verb g s)
