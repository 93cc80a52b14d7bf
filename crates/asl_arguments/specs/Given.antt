-- What is given for each argument of a command.
use Rattle.std.specs.Prelude.{Bool, false, List, [], ℕ, Option, Some, None, ◌≡◌, map, option_map, codes}
use Rattle.std.specs.Borrow.{Bor}
use Rattle.std.specs.Str.{bytes_eq}
use Rattle.clap.specs.Words.{App, all_of, first_of, first_value, matched_of, matches_of, raw_values}
use Rattle.clap.specs.declared.parser.matches.Found.{Found}
use Rattle.asl_arguments.specs.declared.found.Lists.{Lists}
use Rattle.asl_arguments.specs.declared.found.Taken.{Taken}
use Rattle.asl_words.specs.declared.given.Given.{Given}

abbrev pub said : Option (Bor (List ℕ)) → Option (List ℕ)
said = option_map (λ s. s.now)

-- whether a flag is there
abbrev pub is_set : Option (List ℕ) → Bool
is_set None = false
is_set (Some value) = bytes_eq value (codes "true")

-- each is the value of its own argument, where these are the values by the arguments' names
pub record IsGiven (value : List ℕ → Option (List ℕ)) (g : Given) : Type 0 where
  pub definition : said g.definition ≡ value (codes "DEF")
  pub mocks : said g.mocks ≡ value (codes "MOCKS")
  pub chosen : said g.chosen ≡ value (codes "CHOSEN")
  pub input : said g.input ≡ value (codes "INPUT")
  pub script : said g.script ≡ value (codes "SCRIPT")
  pub machine : said g.machine ≡ value (codes "MACHINE")
  pub file : said g.file ≡ value (codes "FILE")
  pub expectations : said g.expectations ≡ value (codes "EXPECT")
  pub code : said g.code ≡ value (codes "CODE")
  pub mocks_option : said g.mocks_option ≡ value (codes "mocks")
  pub case_option : said g.case_option ≡ value (codes "case")
  pub input_option : said g.input_option ≡ value (codes "input")
  pub script_option : said g.script_option ≡ value (codes "script")
  pub expect_option : said g.expect_option ≡ value (codes "expect")
  pub machine_option : said g.machine_option ≡ value (codes "machine")
  pub steps : said g.steps ≡ value (codes "steps")
  pub format : said g.format ≡ value (codes "format")
  pub shard : said g.shard ≡ value (codes "shard")
  pub filter : said g.filter ≡ value (codes "filter")
  pub workers : said g.workers ≡ value (codes "workers")
  pub least : said g.least ≡ value (codes "min")
  pub limit : said g.limit ≡ value (codes "limit")
  pub witness : said g.witness ≡ value (codes "witness")
  pub errors : said g.errors ≡ value (codes "errors")
  pub error : said g.error ≡ value (codes "error")
  pub always : said g.always ≡ value (codes "always")
  pub undo : said g.undo ≡ value (codes "undo")
  pub most_steps : said g.most_steps ≡ value (codes "max-steps")
  pub junit : said g.junit ≡ value (codes "junit")
  pub json : said g.json ≡ value (codes "json")
  pub region : said g.region ≡ value (codes "region")
  pub coverage_format : said g.coverage_format ≡ value (codes "coverage-format")
  pub project : said g.project ≡ value (codes "project")
  pub test : said g.test ≡ value (codes "test")
  pub strict : g.strict ≡ is_set (value (codes "strict"))
  pub run : g.run ≡ is_set (value (codes "run"))
  pub coverage : g.coverage ≡ is_set (value (codes "coverage"))
  pub prompt : g.prompt ≡ is_set (value (codes "prompt"))
  pub calls : g.calls ≡ is_set (value (codes "calls"))
  pub orders : g.orders ≡ is_set (value (codes "orders"))
  pub every : g.every ≡ is_set (value (codes "every"))
  pub list : g.list ≡ is_set (value (codes "list"))
  pub pretty : g.pretty ≡ is_set (value (codes "pretty"))
  pub quiet : g.quiet ≡ is_set (value (codes "quiet"))

-- the values by the arguments' names that clap's grammar gives words, of which the first is the command's name
abbrev pub values_of : App → List (List ℕ) → List ℕ → Option (List ℕ)
values_of app words n = first_of n (matches_of app words)

-- all that they give one name; none where there are none
abbrev pub values_in : Option (List (List ℕ)) → List (List ℕ)
values_in None = []
values_in (Some vs) = vs

abbrev pub said_all : List (Bor (List ℕ)) → List (List ℕ)
said_all = map (λ s. s.now)

-- what is named one after another, by the names of arguments
pub record AreListed (values : List ℕ → List (List ℕ)) (l : Lists) : Type 0 where
  pub files : said_all l.files.items ≡ values (codes "FILE")
  pub errors : said_all l.errors.items ≡ values (codes "error")
  pub always : said_all l.always.items ≡ values (codes "always")
  pub undo : said_all l.undo.items ≡ values (codes "undo")
  pub ignored : said_all l.ignored.items ≡ values (codes "ignore")

-- what clap found
abbrev pub all_found : Found → List ℕ → List (List ℕ)
all_found f n = values_in (option_map raw_values (matched_of f n))

pub record IsTakenBy (f : Found) (t : Taken) : Type 0 where
  pub given : IsGiven (first_value f) t.given
  pub lists : AreListed (all_found f) t.lists

-- all values that clap's grammar gives words, by the arguments' names
abbrev pub all_values_of : App → List (List ℕ) → List ℕ → List (List ℕ)
all_values_of app words n = values_in (all_of n (matches_of app words))

-- what words give
pub record IsTaken (a : App) (words : List (List ℕ)) (t : Taken) : Type 0 where
  pub given : IsGiven (values_of a words) t.given
  pub lists : AreListed (all_values_of a words) t.lists
