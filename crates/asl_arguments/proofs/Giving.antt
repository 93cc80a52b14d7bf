-- What is read off clap's matches is what its grammar gives.
use Rattle.std.proofs.Common.{◌≡◌, ◌≢◌, ◌∙◌, inl, inr, ℕ, List, [], true, ap, subst, codes}
use Rattle.std.specs.Prelude.{Option, Result, Err, IfOk}
use Rattle.clap.specs.Words.{App, HasKind, HasMatchesOf, IsAmong, Kinds, all_of, built, first_of, first_value, found_of, is_simple, is_simple_and_free, kind_of, matches_of}
use Rattle.clap.specs.Faults.{fault_of, is_free_app}
use Rattle.clap.specs.declared.ArgMatches.{ArgMatches}
use Rattle.clap.specs.declared.Error.{Error}
use Rattle.clap.specs.declared.error.ErrorKind.TheVariants.{OutOfMemory}
use Rattle.clap.proofs.WalkLemmas.{both, first_value-rows, raw_values-rows}
use Rattle.asl_arguments.specs.Given.{IsGiven, IsTaken, IsTakenBy, all_found, is_set, values_in, values_of}
use Rattle.asl_arguments.specs.declared.found.Taken.{Taken}
use Rattle.asl_words.specs.declared.given.Given.{Given}
use Rattle.asl_arguments.specs.declared.found.Ungiven.{Ungiven}
use Rattle.asl_arguments.specs.declared.found.Ungiven.TheVariants.{Refused}

given_too : (v w : List ℕ → Option (List ℕ)) (g : Given) → ((n : List ℕ) → v n ≡ w n) → IsGiven v g → IsGiven w g
given_too v w g same h = record {
  definition = h.definition ∙ same (codes "DEF");
  mocks = h.mocks ∙ same (codes "MOCKS");
  chosen = h.chosen ∙ same (codes "CHOSEN");
  input = h.input ∙ same (codes "INPUT");
  script = h.script ∙ same (codes "SCRIPT");
  machine = h.machine ∙ same (codes "MACHINE");
  file = h.file ∙ same (codes "FILE");
  expectations = h.expectations ∙ same (codes "EXPECT");
  code = h.code ∙ same (codes "CODE");
  mocks_option = h.mocks_option ∙ same (codes "mocks");
  case_option = h.case_option ∙ same (codes "case");
  input_option = h.input_option ∙ same (codes "input");
  script_option = h.script_option ∙ same (codes "script");
  expect_option = h.expect_option ∙ same (codes "expect");
  machine_option = h.machine_option ∙ same (codes "machine");
  steps = h.steps ∙ same (codes "steps");
  format = h.format ∙ same (codes "format");
  shard = h.shard ∙ same (codes "shard");
  filter = h.filter ∙ same (codes "filter");
  workers = h.workers ∙ same (codes "workers");
  least = h.least ∙ same (codes "min");
  limit = h.limit ∙ same (codes "limit");
  witness = h.witness ∙ same (codes "witness");
  errors = h.errors ∙ same (codes "errors");
  error = h.error ∙ same (codes "error");
  always = h.always ∙ same (codes "always");
  undo = h.undo ∙ same (codes "undo");
  most_steps = h.most_steps ∙ same (codes "max-steps");
  junit = h.junit ∙ same (codes "junit");
  json = h.json ∙ same (codes "json");
  region = h.region ∙ same (codes "region");
  coverage_format = h.coverage_format ∙ same (codes "coverage-format");
  project = h.project ∙ same (codes "project");
  test = h.test ∙ same (codes "test");
  strict = h.strict ∙ ap is_set (same (codes "strict"));
  run = h.run ∙ ap is_set (same (codes "run"));
  coverage = h.coverage ∙ ap is_set (same (codes "coverage"));
  prompt = h.prompt ∙ ap is_set (same (codes "prompt"));
  calls = h.calls ∙ ap is_set (same (codes "calls"));
  orders = h.orders ∙ ap is_set (same (codes "orders"));
  every = h.every ∙ ap is_set (same (codes "every"));
  list = h.list ∙ ap is_set (same (codes "list"));
  pretty = h.pretty ∙ ap is_set (same (codes "pretty"));
  quiet = h.quiet ∙ ap is_set (same (codes "quiet"));
}

pub found_given : (app : App) (words : List (List ℕ)) (m : ArgMatches) (g : Given) → is_simple_and_free app ≡ true → HasMatchesOf app words m
    → IsGiven (first_value (found_of m)) g → IsGiven (values_of app words) g
found_given app words m g plain has =
    let simple = (both (is_simple app) (is_free_app (built app)) plain).0 in
    given_too _ _ g (λ n. first_value-rows (found_of m) n ∙ ap (first_of n) (has simple).0)

-- and so is all that is taken
pub found_taken : (app : App) (words : List (List ℕ)) (m : ArgMatches) (t : Taken) → is_simple_and_free app ≡ true → HasMatchesOf app words m
    → IsTakenBy (found_of m) t → IsTaken app words t
found_taken app words m t plain has h =
    let simple = (both (is_simple app) (is_free_app (built app)) plain).0 in
    let all : (n : List ℕ) → all_found (found_of m) n ≡ values_in (all_of n (matches_of app words)) = λ n. ap values_in (raw_values-rows (found_of m) n ∙ ap (all_of n) (has simple).0) in
    record {
      given = found_given app words m t.given plain has h.given;
      lists = record {
        files = h.lists.files ∙ all (codes "FILE");
        errors = h.lists.errors ∙ all (codes "error");
        always = h.lists.always ∙ all (codes "always");
        undo = h.lists.undo ∙ all (codes "undo");
        ignored = h.lists.ignored ∙ all (codes "ignore");
      };
    }

-- an error that isn't want of memory is a reason
pub refused : (kinds : Kinds) (e : Error) → HasKind kinds e → kind_of e ≢ OutOfMemory → kinds ≢ []
refused kinds e has not none = elim has [
  | inl memory ↦ not memory
  | inr among ↦ subst (λ ks. IsAmong (kind_of e) ks) none among
]

-- what is said of a command's line is said of each that is the same to clap
module _ (app same : App) (words : List (List ℕ)) (r : Result Taken Ungiven) (is : app ≡ same) where
  pub given_of_same : IfOk r (λ t. (fault_of app words ≡ []) × IsTaken app words t) → IfOk r (λ t. (fault_of same words ≡ []) × IsTaken same words t)
  given_of_same = subst (λ (a : App). IfOk r (λ t. (fault_of a words ≡ []) × IsTaken a words t)) is

  pub refused_of_same : (r ≡ Err Refused → fault_of app words ≢ []) → r ≡ Err Refused → fault_of same words ≢ []
  refused_of_same = subst (λ (a : App). r ≡ Err Refused → fault_of a words ≢ []) is
