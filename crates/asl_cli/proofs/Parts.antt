-- What one file of tests after another adds to a report.
use Rattle.std.proofs.Common.{ℕ, ◌+◌, ◌<◌, ◌≤◌, ◌≡◌, ◌∙◌, Bool, List, [], ◌∷◌, ◌++◌, length, get_or, drop, ap, ap₂, sym, subst, append_assoc, append-nil}
use Rattle.std.proofs.lemmas.List.{drop_more, drop_all}
use Rattle.std.specs.Prelude.{map}
use Rattle.asl_host.specs.Reading.{Lacks}
use Rattle.asl_words.specs.declared.words.TestWords.{TestWords}
use Rattle.asl_words.specs.declared.words.TestAllWords.{TestAllWords}
use Rattle.asl_cli.specs.Streams.{Io, file_use, found}
use Rattle.asl_cli.specs.declared.suites.SuiteNames.{SuiteNames}
use Rattle.asl_suite.specs.Junit.{junit_suites}
use Rattle.asl_cli.specs.declared.fault.CommandFault.{CommandFault}
use Rattle.asl_cli.specs.declared.fault.CommandFault.TheVariants.{OutOfMemory}
use Rattle.asl_cli.specs.Answers.{IsRefusedFor}
use Rattle.asl_cli.specs.Projects.{Added, AreParts, IsPart, IsTestOf, Joined, leaving_all, leaving_by, shown_all, suite_seen, together}

-- what no file of tests is called
abbrev pub nowhere : SuiteNames
nowhere = record {
  definition = record { ref_ptr = (0, 0); now = [] };
  mocks = record { ref_ptr = (0, 0); now = [] };
  tests = record { ref_ptr = (0, 0); now = [] };
}

module _ {F : Type 0} (quiet : Bool) (a : TestAllWords) (gives : F → List ℕ → List ℕ → Type 0) (lacks : F → Lacks) where
  -- of these files of tests, from f on
  abbrev Parts : F → List SuiteNames → List Added → Type 0
  Parts f ss ps = AreParts quiet a (file_use gives lacks f) (map suite_seen ss) ps

  -- what those add that are left is, behind what was added, what all add
  abbrev pub GoesOn : F → F → List SuiteNames → List SuiteNames → List Added → Type 0
  GoesOn f g all left done = (ps : List Added) → Parts g left ps → Parts f all (done ++ ps)

  -- one more
  pub part-more : (f g h : F) (all : List SuiteNames) (i : ℕ) (d : SuiteNames) (done : List Added) (p : Added) → i < length all
      → (t : TestWords) × IsTestOf a (suite_seen (get_or all i d)) t × IsPart (found (file_use gives lacks g)) quiet t p
      → GoesOn f g all (drop i all) done → GoesOn f h all (drop (i + 1) all) (done ++ p ∷ [])
  part-more f g h all i d done p within one so ps rest =
      subst (Parts f all) (sym (append_assoc done (p ∷ []) ps)) (so (p ∷ ps) (subst (λ (ss : List SuiteNames). Parts g ss (p ∷ ps)) (sym (drop_more all i d within)) (h, one, rest)))

  -- and behind the last one
  pub part-end : (f g : F) (all : List SuiteNames) (i : ℕ) (done : List Added) → length all ≤ i → GoesOn f g all (drop i all) done → Parts f all done
  part-end f g all i done over so =
      subst (Parts f all) (append-nil done) (so [] (subst (λ (ss : List SuiteNames). Parts g ss []) (sym (drop_all i all over)) tt))

-- what is left of them all
pub same-leaving : (a : TestAllWords) (text junit : List ℕ) (j : Joined) (ps : List Added) → j ≡ together ps → text ≡ shown_all a.list a.format j → junit ≡ junit_suites j.junit → leaving_by a text junit j ≡ leaving_all a ps
same-leaving a text junit j ps all shown element =
    ap₂ (λ (t u : List ℕ). leaving_by a t u j) shown element
    ∙ ap (λ (k : Joined). leaving_by a (shown_all a.list a.format k) (junit_suites k.junit) k) all

-- want of memory is a reason among others
pub wanting : {O E : Type 0} (io : Io O E) (quiet : Bool) (P : CommandFault → Type 0) → P OutOfMemory → IsRefusedFor io quiet (λ r. r ≡ OutOfMemory) → IsRefusedFor io quiet P
wanting io quiet P p (r, t, e, tells, untouched, two, told) = (r, t, subst P (sym e) p, tells, untouched, two, told)
