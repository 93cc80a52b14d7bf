-- What the program does for the words that it has read.
use Rattle.std.specs.Prelude.{Bool}
use Rattle.asl_arguments.specs.declared.found.Lists.{Lists}
use Rattle.asl_command_line.specs.declared.reading.Line.{Line}
use Rattle.asl_words.specs.declared.words.Words.{Words}
use Rattle.asl_words.specs.declared.words.Words.TheVariants.{Check, CheckAll, Lint, LintAll, Print, Upgrade, Graph, Mocks, Run, Debug, Test, TestAll, Explore, ExploreAll, Errors, Explain, Lsp}
use Rattle.asl_cli.specs.Streams.{FileUse, found, InputUse, OutputUse, IsUnused, Io}
use Rattle.asl_cli.specs.Answers.{IsRan, IsDebugged, IsChecked, IsFormPrinted, IsUpgraded}
use Rattle.asl_cli.specs.Suites.{IsTested}
use Rattle.asl_cli.specs.Projects.{AreAllChecked, AreAllLinted, AreAllTested}
use Rattle.asl_cli.specs.Linting.{IsLinted}
use Rattle.asl_cli.specs.Graphing.{IsDrawn}
use Rattle.asl_cli.specs.Mocking.{IsSampled}
use Rattle.asl_cli.specs.Exploring.{IsExplored}
use Rattle.asl_cli.specs.ExploringAll.{AreAllExplored}
use Rattle.asl_cli.specs.Injecting.{AreErrorsExplored}
use Rattle.asl_cli.specs.Explaining.{IsExplained}
use Rattle.asl_cli.specs.Serving.{IsServedTo}

-- what the words ask for was done, and nothing else: a definition was judged, linted, printed,
-- upgraded or drawn, a mock file was made for it, an execution was run or debugged, every order of its branches was
-- tried, also where errors are put in, the tests of a suite were run, one of these was done for a workflow of a project or for each, or
-- a code was explained, or an editor was served; this says whether only faults were told beside that, and this is what is named one after another
abbrev pub AreObeyed : {F I K O E : Type 0} → FileUse F → InputUse I → OutputUse K → Io O E → Bool → Words
    → Lists → Type 0
AreObeyed files typed outputs io quiet (Check w) l = IsUnused outputs × IsChecked (found files) io quiet w
AreObeyed files typed outputs io quiet (CheckAll w) l = IsUnused outputs × AreAllChecked files io quiet w
AreObeyed files typed outputs io quiet (Lint w) l = IsUnused outputs × IsLinted (found files) io quiet w l
AreObeyed files typed outputs io quiet (LintAll w) l = IsUnused outputs × AreAllLinted files io quiet w l
AreObeyed files typed outputs io quiet (Print w) l = IsUnused outputs × IsFormPrinted (found files) io quiet w
AreObeyed files typed outputs io quiet (Upgrade w) l = IsUnused outputs × IsUpgraded (found files) io quiet w
AreObeyed files typed outputs io quiet (Graph w) l = IsUnused outputs × IsDrawn (found files) io quiet w
AreObeyed files typed outputs io quiet (Mocks w) l = IsUnused outputs × IsSampled (found files) io quiet w
AreObeyed files typed outputs io quiet (Run w) l = IsUnused outputs × IsRan (found files) io quiet w
AreObeyed files typed outputs io quiet (Debug w) l = IsUnused outputs × IsDebugged (found files) typed io quiet w
AreObeyed files typed outputs io quiet (Test w) l = IsTested (found files) outputs io quiet w
AreObeyed files typed outputs io quiet (TestAll w) l = AreAllTested files outputs io quiet w
AreObeyed files typed outputs io quiet (Explore w) l = IsUnused outputs × IsExplored (found files) io quiet w
AreObeyed files typed outputs io quiet (ExploreAll w) l = IsUnused outputs × AreAllExplored files io quiet w
AreObeyed files typed outputs io quiet (Errors w) l = IsUnused outputs × AreErrorsExplored (found files) io quiet w l
AreObeyed files typed outputs io quiet (Explain w) l = IsUnused outputs × IsExplained io quiet w
AreObeyed files typed outputs io quiet Lsp l = IsUnused outputs × IsServedTo typed io

abbrev pub IsObeyed : {F I K O E : Type 0} → FileUse F → InputUse I → OutputUse K → Io O E → Line → Type 0
IsObeyed files typed outputs io l =
    AreObeyed files typed outputs io l.asked.quiet l.asked.words l.lists
