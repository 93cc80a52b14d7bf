-- The command line: which commands there are, what each takes, and what that is to clap.
use Rattle.std.specs.Prelude.{ℕ, Bool, true, false, List, [], ◌∷◌, ◌++◌, Some, map, fold, codes}
use Rattle.clap.specs.Words.{App, Rule, Text, new_app, new_rule, with_rule}
use Rattle.clap.specs.declared.builder.ArgAction.TheVariants.{Append, SetTrue}
use Rattle.clap.specs.declared.builder.ValueParser.TheVariants as parser
use Rattle.asl_arguments.specs.declared.arguments.Argument.{Argument as CodeArgument}
use Rattle.asl_arguments.specs.declared.arguments.CommandRow.{CommandRow}
use Rattle.asl_arguments.specs.declared.arguments.Kind.{Kind as CodeKind}
use Rattle.asl_arguments.specs.declared.arguments.Kind.TheVariants as kind
use Rattle.asl_arguments.specs.declared.arguments.Presence.{Presence}
use Rattle.asl_arguments.specs.declared.arguments.Presence.TheVariants as presence
use Rattle.asl_words.specs.declared.verbs.Verb.{Verb}
use Rattle.asl_words.specs.declared.verbs.Verb.TheVariants.{Check, Lint, Print, Upgrade, Graph, Mocks, Run, Debug, Test, Explore, Explain, Lsp}

-- ---- what there is

-- an argument is a word, known by its place, or all words from there on, or an option of two hyphens and a name: without a value, with a
-- text, with one as often as it is there, with one of some words, or with a number from a least to a greatest
pub data Kind : Type 0 where
  word : Kind
  words : Kind
  flag : Kind
  text : Kind
  texts : Kind
  choice : List Text → Kind
  number : ℕ → ℕ → Kind

-- an argument, whether it has to be there, and the value that it has where it isn't given
pub record Argument : Type 0 where
  pub name : Text
  pub kind : Kind
  pub required : Bool
  pub default : List Text

pub record Command : Type 0 where
  pub verb : Verb
  pub name : Text
  pub arguments : List Argument

abbrev pub needed : Text → Kind → Argument
needed n k = record { name = n; kind = k; required = true; default = [] }

abbrev pub free : Text → Kind → Argument
free n k = record { name = n; kind = k; required = false; default = [] }

abbrev pub preset : Text → Kind → Text → Argument
preset n k value = record { name = n; kind = k; required = false; default = value ∷ [] }

-- the texts of a run: this one of its definition, and three, each as a word or as the option that stands for it
abbrev pub run_arguments : Argument → List Argument → List Argument
run_arguments definition more =
    definition ∷ free (codes "MOCKS") word ∷ free (codes "CHOSEN") word ∷ free (codes "INPUT") word
    ∷ free (codes "mocks") text ∷ free (codes "case") text ∷ free (codes "input") text ∷ more

-- the same, where a project may stand for all, and a test for its case and its input
abbrev pub begin_arguments : List Argument → List Argument
begin_arguments more = run_arguments (free (codes "DEF") word) (free (codes "test") text ∷ more)

-- a definition, or a project in its place
abbrev pub subject_arguments : List Argument → List Argument
subject_arguments more = free (codes "DEF") word ∷ more

abbrev pub project_argument : List Argument
project_argument = free (codes "project") text ∷ []

abbrev pub check_arguments : List Argument
check_arguments = subject_arguments project_argument

abbrev pub lint_formats : List Text
lint_formats =
    codes "text" ∷ codes "json" ∷ codes "sarif" ∷ codes "github" ∷ codes "gitlab" ∷ []

abbrev pub lint_arguments : List Argument
lint_arguments =
    free (codes "FILE") words ∷ free (codes "mocks") text ∷ free (codes "expect") text
    ∷ free (codes "input") text ∷ free (codes "steps") text ∷ free (codes "script") text
    ∷ free (codes "machine") text
    ∷ preset (codes "format") (choice lint_formats) (codes "text")
    ∷ free (codes "strict") flag ∷ free (codes "ignore") texts ∷ project_argument

abbrev pub graph_arguments : List Argument
graph_arguments = run_arguments (needed (codes "DEF") word) (free (codes "run") flag
    ∷ preset (codes "format") (choice (codes "mermaid" ∷ codes "markdown" ∷ codes "dot" ∷ []))
    (codes "mermaid") ∷ [])

abbrev pub print_arguments : List Argument
print_arguments = needed (codes "DEF") word ∷ free (codes "pretty") flag ∷ []

abbrev pub mocks_arguments : List Argument
mocks_arguments =
    needed (codes "DEF") word ∷ preset (codes "MACHINE") word (codes "Machine")
    ∷ free (codes "pretty") flag ∷ []

abbrev pub run_formats : List Text
run_formats =
    codes "text" ∷ codes "json" ∷ codes "aws" ∷ codes "steps" ∷ codes "tree" ∷ codes "data" ∷ []

abbrev pub run_own_arguments : List Argument
run_own_arguments = begin_arguments (free (codes "steps") text
    ∷ free (codes "max-steps") (number 1 1000000)
    ∷ preset (codes "format") (choice run_formats) (codes "text") ∷ free (codes "region") text ∷ project_argument)

abbrev pub debug_arguments : List Argument
debug_arguments = begin_arguments (free (codes "SCRIPT") word ∷ free (codes "script") text
    ∷ free (codes "format") (choice (codes "text" ∷ codes "tree" ∷ [])) ∷ free (codes "strict") flag ∷ project_argument)

abbrev pub test_arguments : List Argument
test_arguments =
    subject_arguments (free (codes "MOCKS") word ∷ free (codes "EXPECT") word
    ∷ preset (codes "workers") (number 1 64) (codes "1")
    ∷ preset (codes "format") (choice (codes "text" ∷ codes "junit" ∷ codes "json" ∷ [])) (codes "text")
    ∷ free (codes "junit") text ∷ free (codes "json") text
    ∷ free (codes "shard") text ∷ free (codes "filter") text ∷ free (codes "list") flag
    ∷ free (codes "coverage") flag
    ∷ free (codes "min") (number 0 100)
    ∷ free (codes "coverage-format") (choice (codes "text" ∷ codes "json" ∷ codes "lcov" ∷ []))
    ∷ free (codes "strict") flag ∷ free (codes "orders") flag ∷ free (codes "every") flag
    ∷ free (codes "limit") (number 1 1000000) ∷ project_argument)

abbrev pub explore_arguments : List Argument
explore_arguments = begin_arguments (preset (codes "limit") (number 1 1000000) (codes "100000")
    ∷ free (codes "prompt") flag ∷ free (codes "calls") flag
    ∷ free (codes "witness") (number 1 1000000)
    ∷ free (codes "format") (choice
    (codes "steps" ∷ codes "tree" ∷ codes "data" ∷ codes "test" ∷ codes "mocks" ∷ codes "json" ∷ []))
    ∷ free (codes "errors") (number 0 2) ∷ free (codes "error") texts
    ∷ free (codes "always") texts ∷ free (codes "undo") texts ∷ project_argument)

-- each command may be told to be quiet
abbrev pub quiet : Argument
quiet = free (codes "quiet") flag

abbrev pub command : Verb → Text → List Argument → Command
command v n arguments = record { verb = v; name = n; arguments = arguments ++ quiet ∷ [] }

unfoldable pub asl_commands : List Command
asl_commands =
    command Check (codes "check") check_arguments
    ∷ command Lint (codes "lint") lint_arguments
    ∷ command Print (codes "print") print_arguments
    ∷ command Upgrade (codes "upgrade") print_arguments
    ∷ command Graph (codes "graph") graph_arguments
    ∷ command Mocks (codes "mocks") mocks_arguments
    ∷ command Run (codes "run") run_own_arguments
    ∷ command Debug (codes "debug") debug_arguments
    ∷ command Test (codes "test") test_arguments
    ∷ command Explore (codes "explore") explore_arguments
    ∷ command Explain (codes "explain") (free (codes "CODE") word ∷ [])
    ∷ command Lsp (codes "lsp") []
    ∷ []

-- ---- a row of the code's table as what it says

abbrev pub kind_seen : CodeKind → Kind
kind_seen kind.Word = word
kind_seen kind.Words = words
kind_seen kind.Flag = flag
kind_seen (kind.Text value) = text
kind_seen (kind.Texts value) = texts
kind_seen (kind.Choice names) = choice (map (λ n. n.now) names.now)
kind_seen (kind.Number value least greatest) = number least greatest

abbrev pub is_required : Presence → Bool
is_required presence.Required = true
is_required presence.Optional = false
is_required (presence.Default values) = false

abbrev pub default_of : Presence → List Text
default_of presence.Required = []
default_of presence.Optional = []
default_of (presence.Default values) = map (λ v. v.now) values.now

abbrev pub argument_seen : CodeArgument → Argument
argument_seen a = record {
  name = a.name.now;
  kind = kind_seen a.kind;
  required = is_required a.presence;
  default = default_of a.presence;
}

abbrev pub command_seen : CommandRow → Command
command_seen c = record {
  verb = c.verb;
  name = c.name.now;
  arguments = map argument_seen c.arguments.now;
}

-- ---- and what it is to clap

abbrev pub kind_rule : Text → CodeKind → Rule
kind_rule name kind.Word = new_rule name
kind_rule name kind.Words = record (new_rule name) { action = Some Append }
kind_rule name kind.Flag = record (new_rule name) { long = Some name; action = Some SetTrue }
kind_rule name (kind.Text value) =
    record (new_rule name) { long = Some name; value_names = 1; parser = Some parser.String }
kind_rule name (kind.Texts value) = record (new_rule name) {
  long = Some name;
  value_names = 1;
  parser = Some parser.String;
  action = Some Append;
}
kind_rule name (kind.Choice names) =
    record (new_rule name) { long = Some name; value_names = 1; parser = Some (parser.Names names) }
kind_rule name (kind.Number value least greatest) = record (new_rule name) {
  long = Some name;
  value_names = 1;
  parser = Some (parser.Unsigned least greatest);
}

abbrev pub rule_for : CodeArgument → Rule
rule_for a = record (kind_rule a.name.now a.kind) {
  required = is_required a.presence;
  defaults = default_of a.presence;
}

-- a command that takes nothing else
abbrev pub app_for : CommandRow → App
app_for c = fold with_rule (new_app c.name.now) (map rule_for c.arguments.now)
