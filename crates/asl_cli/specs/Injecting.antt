-- What the command `explore` finds, prints and tells where errors are put in.
use Rattle.std.specs.Prelude.{ℕ, Bool, true, ◌&&◌, List, ◌∷◌, ◌++◌, length, ◌≡◌, ◌⊎◌, Option, Some, None, Result, Ok, option_map, ⊤, codes}
use Rattle.asl_json_data.specs.Data.{Data}
use Rattle.asl_check.specs.Judged.{IsMachineOf}
use Rattle.asl_mock_sample.specs.Files.{sample_text}
use Rattle.asl_run_input.specs.declared.setup.Setup.{Setup}
use Rattle.asl_run_input.specs.Emulations.{Texts, Accepts}
use Rattle.asl_explore.specs.declared.found.Found.{Found}
use Rattle.asl_error_plans.specs.Telling.{plans_text, are_good}
use Rattle.asl_error_plans.specs.declared.outcomes.PlanOutcomes.{PlanOutcomes}
use Rattle.asl_explore_errors.specs.Filling.{IsFilled}
use Rattle.asl_explore_errors.specs.JsonLines.{json_lines}
use Rattle.asl_explore_errors.specs.Rules.{are_kept, rules_from}
use Rattle.asl_explore_errors.specs.Searches.{AreAllFound, names_in, tasks_failing, witness_of}
use Rattle.asl_explore_errors.specs.Under.{case_file, IsUnder}
use Rattle.asl_explore_errors.specs.declared.tried.ErrorsFound.{ErrorsFound}
use Rattle.asl_rules.specs.declared.fault.RuleFault.{RuleFault}
use Rattle.asl_arguments.specs.declared.found.Lists.{Lists}
use Rattle.asl_words.specs.declared.words.ErrorsBegin.{ErrorsBegin}
use Rattle.asl_words.specs.declared.words.ErrorsBegin.TheVariants.{Case, Sample}
use Rattle.asl_words.specs.declared.words.ErrorsFormat.{ErrorsFormat}
use Rattle.asl_words.specs.declared.words.ErrorsFormat.TheVariants.{Mocks, Steps}
use Rattle.asl_words.specs.declared.words.ErrorsShown.{ErrorsShown}
use Rattle.asl_words.specs.declared.words.ErrorsShown.TheVariants.{Plans, Outcome}
use Rattle.asl_words.specs.declared.words.PlansFormat.{PlansFormat}
use Rattle.asl_words.specs.declared.words.PlansFormat.TheVariants.{Text, Json}
use Rattle.asl_words.specs.declared.words.ErrorsWords.{ErrorsWords}
use Rattle.asl_words.specs.declared.words.SampleWords.{SampleWords}
use Rattle.asl_host.specs.Outcomes.{status_of, IsUntouched, IsTold}
use Rattle.asl_host.specs.Reading.{Lacks}
use Rattle.asl_cli.specs.declared.fault.CommandFault.{CommandFault}
use Rattle.asl_cli.specs.Answers.{IsRefusedFor}
use Rattle.asl_cli.specs.Beginnings.{without_steps, IsBeginning, IsNoBeginning}
use Rattle.asl_cli.specs.Exploring.{has_colours, orders_for, witness_text}
use Rattle.asl_cli.specs.Faults.{named, AreUnread, IsDefinitionTextReason, IsTextsReason}
use Rattle.asl_cli.specs.Formats.{IsShown as IsShownIn}
use Rattle.asl_cli.specs.Ruling.{IsRuleReason, accepts, rule_texts, rules_of, tasks_of}
use Rattle.asl_cli.specs.Streams.{FileSystem, Io, Prints}
use Rattle.asl_cli.specs.declared.ruling.Ruled.{Ruled}

-- ---- what an execution begins with

-- the bytes of a file, or an empty object where none is named
abbrev pub IsInputOrEmpty : (List ℕ → List ℕ → Type 0) → Option (List ℕ) → List ℕ → Type 0
IsInputOrEmpty gives None b = b ≡ codes "{}"
IsInputOrEmpty gives (Some name) b = gives name b

-- a definition that the file may give, in the only machine of a mock file to begin with, in which all goes well
pub record IsSampleBeginning (gives : List ℕ → List ℕ → Type 0) (w : SampleWords) (t : Texts) : Type 0 where
  pub definition : gives w.definition.now t.definition
  pub machine : Data
  pub is_machine : IsMachineOf t.definition machine
  pub mocks : t.mocks ≡ sample_text (codes "Machine") machine
  pub chosen : t.chosen ≡ codes "Machine#good"
  pub input : IsInputOrEmpty gives (option_map (λ n. n.now) w.input) t.input
  pub steps : t.steps ≡ None

-- a file can't be read, or what was read is no definition; or memory ran out
abbrev pub IsNoSampleBeginning : (List ℕ → List ℕ → Type 0) → Lacks → SampleWords → CommandFault → Type 0
IsNoSampleBeginning gives lacks w r =
    AreUnread gives lacks (w.definition.now ∷ named (option_map (λ n. n.now) w.input)) r
    ⊎ ((b : List ℕ) × gives w.definition.now b × IsDefinitionTextReason b r)

abbrev pub AreErrorsTexts : (List ℕ → List ℕ → Type 0) → ErrorsBegin → Texts → Type 0
AreErrorsTexts gives (Case b) t = IsBeginning gives b t
AreErrorsTexts gives (Sample w) t = IsSampleBeginning gives w t

abbrev pub AreNoErrorsTexts : (List ℕ → List ℕ → Type 0) → Lacks → ErrorsBegin → CommandFault → Type 0
AreNoErrorsTexts gives lacks (Case b) r = IsNoBeginning gives lacks b r
AreNoErrorsTexts gives lacks (Sample w) r = IsNoSampleBeginning gives lacks w r

-- the rules that are named for an execution, or the fault of the first that is none
abbrev pub rules_named : Setup → Lists → Result (List Ruled) RuleFault
rules_named s l = rules_of (tasks_of s.machine) (names_in l.always.items) (names_in l.undo.items)

-- what was read is refused, or a rule for the execution that it may give; or memory ran out
abbrev pub IsSetupOrRuleReason : Texts → Lists → CommandFault → Type 0
IsSetupOrRuleReason t l r =
    IsTextsReason (without_steps t) r
    ⊎ ((s : Setup) × Accepts (without_steps t) s None × IsRuleReason (rules_named s l) r)

-- why nothing begins: a file can't be read, or what was read is refused, or a rule; or memory ran out
abbrev pub IsErrorsReason : (List ℕ → List ℕ → Type 0) → Lacks → ErrorsBegin → Lists → CommandFault → Type 0
IsErrorsReason gives lacks b l r =
    AreNoErrorsTexts gives lacks b r ⊎ ((t : Texts) × AreErrorsTexts gives b t × IsSetupOrRuleReason t l r)

-- ---- what is found

-- an outcome of an execution under a plan: the mock file of the plan, or the steps
abbrev pub IsPlanIn : ErrorsFormat → Bool → List ℕ → Setup → Found → List ℕ → Type 0
IsPlanIn Mocks coloured chosen under f t = t ≡ case_file under
IsPlanIn (Steps format) coloured chosen under f t =
    IsShownIn (has_colours format coloured) (witness_text format chosen under f) t

-- this is shown of an outcome and the plan that gives it, where there is one
abbrev pub IsPlanShown : ErrorsFormat → Bool → List ℕ → Setup → Option (PlanOutcomes × Found) → Option (List ℕ) → Type 0
IsPlanShown format coloured chosen s None None = ⊤
IsPlanShown format coloured chosen s (Some v) (Some t) =
    (under : Setup) × IsUnder s v.0.plan.items under × IsPlanIn format coloured chosen under v.1 t
IsPlanShown format coloured chosen s v t = ⊥

-- what was found of these rules, and what comes of each plan
abbrev pub errors_report : PlansFormat → List (List ℕ) → ErrorsFound → List ℕ
errors_report Text rules x = rules_from x 0 rules ++ plans_text x.plans.items
errors_report Json rules x = json_lines rules x

-- and no order ends against one of them
abbrev pub all_is_good : List (List ℕ) → ErrorsFound → Bool
all_is_good rules x = are_good x.plans.items && are_kept (length rules) x

-- this is shown of what was found, and whether all is good
abbrev pub IsShownOf : ErrorsShown → Bool → List ℕ → Setup → ErrorsFound → List (List ℕ) → Option (List ℕ) → Bool → Type 0
IsShownOf (Plans format) coloured chosen s x rules t good =
    (t ≡ Some (errors_report format rules x)) × (good ≡ all_is_good rules x)
IsShownOf (Outcome n format) coloured chosen s x rules t good =
    IsPlanShown format coloured chosen s (witness_of n x) t × (good ≡ true)

-- what a search may find of an execution of which this is the mock file, with an answer to each Task, where these errors are put in, if
-- any are named, and the ends of its orders are judged by the rules that are, is shown so
pub record IsTried (w : ErrorsWords) (l : Lists) (mocks chosen : List ℕ) (own : Setup) (t : Option (List ℕ))
    (good : Bool) : Type 0 where
  pub setup : Setup
  pub filled : IsFilled mocks own setup
  pub rules : List Ruled
  pub are_rules : rules_named own l ≡ Ok rules
  pub found : ErrorsFound
  pub are_found : AreAllFound accepts rules w.errors (tasks_failing (names_in l.errors.items) setup.machine)
      (orders_for w.prompt) w.limit setup found
  pub shown : IsShownOf w.shown w.coloured chosen setup found (rule_texts (names_in l.always.items) (names_in l.undo.items)) t
      good

-- the same of the execution that the files may give
pub record IsTriedFor (gives : List ℕ → List ℕ → Type 0) (w : ErrorsWords) (l : Lists) (t : Option (List ℕ))
    (good : Bool) : Type 0 where
  pub texts : Texts
  pub begins : AreErrorsTexts gives w.begin texts
  pub own : Setup
  pub accepted : Accepts (without_steps texts) own None
  pub tried : IsTried w l texts.mocks texts.chosen own t good

-- ---- what is printed

-- it was printed, and the status says whether all is good; or no outcome has the number, which was told
abbrev pub IsErrorsShown : {O E : Type 0} → Io O E → Option (List ℕ) → Bool → Type 0
IsErrorsShown io (Some t) good = IsUntouched io.err × Prints io t (status_of good)
IsErrorsShown io None good = (t : List ℕ) × IsUntouched io.out × (io.status ≡ 2) × IsTold io.err t

-- the exploration for these words, errors and rules: what was found was printed; or nothing was tried, which was told
abbrev pub AreErrorsExplored : {O E : Type 0} → FileSystem → Io O E → Bool → ErrorsWords → Lists → Type 0
AreErrorsExplored files io quiet w l =
    ((t : Option (List ℕ)) × (good : Bool) × IsTriedFor files.gives w l t good × IsErrorsShown io t good)
    ⊎ IsRefusedFor io quiet (IsErrorsReason files.gives files.lacks w.begin l)
