-- Inputs that stand in files, piece by piece.
use Rattle.std.proofs.Common.{ℕ, zero, suc, ◌≡◌, ◌∙◌, ◌<◌, ◌⊎◌, inl, inr, List, [], ◌∷◌, ◌++◌, length, get_or, ap, sym, subst, arith, append_assoc, append-nil}
use Rattle.std.specs.Prelude.{Option, Some, None, string_bytes}
use Rattle.asl_json.specs.declared.value.Json.{Json}
use Rattle.asl_run_input.specs.Emulations.{Texts}
use Rattle.asl_project.specs.declared.workflow.Workflow.{Workflow}
use Rattle.asl_words.specs.declared.words.SetupWords.{SetupWords}
use Rattle.asl_words.specs.declared.words.ChosenWords.{ChosenWords}
use Rattle.asl_words.specs.declared.words.TestedWords.{TestedWords}
use Rattle.asl_host.specs.Reading.{Lacks}
use Rattle.asl_host.specs.Naming.{beside}
use Rattle.asl_host.specs.declared.files.Unreadable.{Unreadable}
use Rattle.asl_suite_file.specs.declared.expectation.Draft.{Draft}
use Rattle.asl_suite_file.specs.declared.expectation.Expectation.{Expectation}
use Rattle.asl_suite_file.specs.declared.expectation.InputSource.{InputSource}
use Rattle.asl_suite_file.specs.declared.expectation.InputSource.TheVariants.{Here, File as Named}
use Rattle.asl_cli.specs.declared.fault.CommandFault.{CommandFault}
use Rattle.asl_cli.specs.declared.fault.CommandFault.TheVariants.{File, Definition, Emulation, Script, Expectations, Test, Project, Rule, Code, Output, OutOfMemory}
use Rattle.asl_cli.specs.declared.inputs.Known.{Known}
use Rattle.asl_cli.specs.Faults.{IsUnread, IsFirstUnread, AreUnread, IsGiven, named, names_in, AreGiven}
use Rattle.asl_cli.specs.Beginnings.{suite_name, IsInputText, IsInputUnread, IsOfTest, IsTestReason, IsUnchosenIn, IsReasonFrom}
use Rattle.asl_cli.specs.Debugging.{IsDebugReasonFrom}
use Rattle.asl_cli.specs.Inputs.{AreTestsOn, IsFirstLost, IsHeld, IsInput, IsInputFrom, IsKnown, IsKnownOrHeld, IsLost, IsTestFrom, IsTestOn, IsUnheld, Unless}

abbrev Gives : Type 1
Gives = List ℕ → List ℕ → Type 0

-- a reason that implies another one, memory aside
pub unless-map : (P Q : CommandFault → Type 0) (r : CommandFault) → ((s : CommandFault) → P s → Q s) → Unless P r → Unless Q r
unless-map P Q (File name why) f h = f (File name why) h
unless-map P Q (Definition e lines) f h = f (Definition e lines) h
unless-map P Q (Emulation e lines) f h = f (Emulation e lines) h
unless-map P Q (Script e lines) f h = f (Script e lines) h
unless-map P Q (Expectations e lines) f h = f (Expectations e lines) h
unless-map P Q (Project e lines) f h = f (Project e lines) h
unless-map P Q (Rule fault lines) f h = f (Rule fault lines) h
unless-map P Q (Code word lines) f h = f (Code word lines) h
unless-map P Q (Test number lines) f h = f (Test number lines) h
unless-map P Q (Output name why) f h = f (Output name why) h
unless-map P Q OutOfMemory f h = h

-- ---- what may be given later might have been given before

module _ (gives less : Gives) (lacks few : Lacks) (more : (n b : List ℕ) → less n b → gives n b) (lacking : (n : List ℕ) (u : Unreadable) → few n u → lacks n u) where
  pub held-before : (name : List ℕ) (v : Json) → IsHeld less name v → IsHeld gives name v
  held-before name v h = record { bytes = h.bytes; given = more name h.bytes h.given; reads = h.reads }

  pub input-before : (file : List ℕ) (x : InputSource) (v : Json) → IsInput less file x v → IsInput gives file x v
  input-before file (Here y) v h = h
  input-before file (Named name) v h = held-before (beside file name) v h

  pub unheld-before : (name : List ℕ) (r : CommandFault) → IsUnheld less few name r → IsUnheld gives lacks name r
  unheld-before name (File n why) h = (h.0, lacking name why h.1)
  unheld-before name (Definition e lines) h = h
  unheld-before name (Emulation e lines) h = record { bytes = h.bytes; given = more name h.bytes h.given; fault = h.fault }
  unheld-before name (Script e lines) h = h
  unheld-before name (Expectations e lines) h = h
  unheld-before name (Project e lines) h = h
  unheld-before name (Rule fault lines) h = h
  unheld-before name (Code word lines) h = h
  unheld-before name (Test number lines) h = h
  unheld-before name (Output n why) h = h
  unheld-before name OutOfMemory h = h

  pub unread-before : (name : List ℕ) (r : CommandFault) → IsUnread few name r → IsUnread lacks name r
  unread-before name (File n why) h = (h.0, lacking name why h.1)
  unread-before name (Definition e lines) h = h
  unread-before name (Emulation e lines) h = h
  unread-before name (Script e lines) h = h
  unread-before name (Expectations e lines) h = h
  unread-before name (Test number lines) h = h
  unread-before name (Project e lines) h = h
  unread-before name (Rule fault lines) h = h
  unread-before name (Code word lines) h = h
  unread-before name (Output n why) h = h
  unread-before name OutOfMemory h = h

  first-unread-before : (names : List (List ℕ)) (name : List ℕ) (why : Unreadable) → IsFirstUnread less few names name why → IsFirstUnread gives lacks names name why
  first-unread-before [] name why h = h
  first-unread-before (n ∷ names) name why (inl h) = inl (h.0, lacking n why h.1)
  first-unread-before (n ∷ names) name why (inr ((b, g), h)) = inr ((b, more n b g), first-unread-before names name why h)

  pub all-unread-before : (names : List (List ℕ)) (r : CommandFault) → AreUnread less few names r → AreUnread gives lacks names r
  all-unread-before names (File n why) h = first-unread-before names (string_bytes n) why h
  all-unread-before names (Definition e lines) h = h
  all-unread-before names (Emulation e lines) h = h
  all-unread-before names (Script e lines) h = h
  all-unread-before names (Expectations e lines) h = h
  all-unread-before names (Test number lines) h = h
  all-unread-before names (Project e lines) h = h
  all-unread-before names (Rule fault lines) h = h
  all-unread-before names (Code word lines) h = h
  all-unread-before names (Output n why) h = h
  all-unread-before names OutOfMemory h = h

  pub setup-before : (w : SetupWords) (t : Texts) → AreGiven less w t → AreGiven gives w t
  setup-before w t h = record {
    definition = more _ _ h.definition;
    mocks = more _ _ h.mocks;
    chosen = h.chosen;
    input = more _ _ h.input;
    steps = h.steps;
  }

  pub unchosen-before : (c : ChosenWords) (ws : List Workflow) (r : CommandFault) → IsUnchosenIn less few c ws r → IsUnchosenIn gives lacks c ws r
  unchosen-before c ws r (inl h) = inl h
  unchosen-before c ws r (inr (s, is, u)) = inr (s, is, all-unread-before (names_in s) r u)

  input-text-before : (file : List ℕ) (x : InputSource) (b : List ℕ) → IsInputText less file x b → IsInputText gives file x b
  input-text-before file (Here y) b h = h
  input-text-before file (Named name) b h = more (beside file name) b h

  input-unread-before : (file : List ℕ) (x : InputSource) (r : CommandFault) → IsInputUnread few file x r → IsInputUnread lacks file x r
  input-unread-before file (Here y) r h = h
  input-unread-before file (Named name) r h = unread-before (beside file name) r h

  pub of-test-before : (w : TestedWords) (d : Draft) (t : Texts) → IsOfTest less w d t → IsOfTest gives w d t
  of-test-before w d t h = record {
    chosen = h.chosen;
    input = input-text-before (suite_name w) d.input t.input h.input;
    steps = h.steps;
  }

  pub test-reason-before : (w : TestedWords) (all : List Draft) (r : CommandFault) → IsTestReason few w all r → IsTestReason lacks w all r
  test-reason-before w all r (inl h) = inl h
  test-reason-before w all r (inr (d, is, u)) = inr (d, is, input-unread-before (suite_name w) d.input r u)

  pub given-from : (name steps : Option (List ℕ)) → IsGiven less name steps → IsGiven gives name steps
  given-from None None h = h
  given-from None (Some b) h = h
  given-from (Some n) None h = h
  given-from (Some n) (Some b) h = more n b h

  pub reason-from : (own : Texts) (name : Option (List ℕ)) (r : CommandFault) → IsReasonFrom less few own name r → IsReasonFrom gives lacks own name r
  reason-from own name r (inl h) = inl (all-unread-before (named name) r h)
  reason-from own name r (inr (steps, given, h)) = inr (steps, given-from name steps given, h)

  pub debug-reason-from : (own : Texts) (script : List ℕ) (r : CommandFault) → IsDebugReasonFrom less few own script r → IsDebugReasonFrom gives lacks own script r
  debug-reason-from own script r (inl h) = inl (unread-before script r h)
  debug-reason-from own script r (inr (inl h)) = inr (inl h)
  debug-reason-from own script r (inr (inr (s, bytes, given, h))) = inr (inr (s, bytes, more script bytes given, h))

  pub lost-before : (file : List ℕ) (x : InputSource) (r : CommandFault) → IsLost less few file x r → IsLost gives lacks file x r
  lost-before file (Here y) r h = h
  lost-before file (Named name) r h = unheld-before (beside file name) r h

  pub first-before : (file : List ℕ) (ds : List Draft) (r : CommandFault) → IsFirstLost less few file ds r → IsFirstLost gives lacks file ds r
  first-before file [] r h = h
  first-before file (d ∷ ds) r (inl h) = inl (lost-before file d.input r h)
  first-before file (d ∷ ds) r (inr ((v, i), h)) = inr ((v, input-before file d.input v i), first-before file ds r h)

  pub tests-before : (file : List ℕ) (ds : List Draft) (ts : List Expectation) → AreTestsOn less file ds ts → AreTestsOn gives file ds ts
  tests-before file [] [] h = h
  tests-before file [] (t ∷ ts) h = h
  tests-before file (d ∷ ds) [] h = h
  tests-before file (d ∷ ds) (t ∷ ts) ((v, i, e), h) = ((v, input-before file d.input v i, e), tests-before file ds ts h)

-- ---- what is known of files

abbrev pub AreKnownOf : Gives → List ℕ → List Known → Type 0
AreKnownOf gives file ks = (n : List ℕ) (v : Json) → IsKnown ks n v → IsHeld gives (beside file n) v

-- a value that was just kept is the last one
pub known-more : (ks : List Known) (k : Known) (n : List ℕ) (v : Json) → IsKnown (ks ++ k ∷ []) n v → IsKnown ks n v ⊎ ((k.name ≡ n) × (k.value ≡ v))
known-more [] k n v (inl h) = inr h
known-more [] k n v (inr h) = absurd h
known-more (j ∷ ks) k n v (inl h) = inl (inl h)
known-more (j ∷ ks) k n v (inr h) = elim (known-more ks k n v h) [
  | inl before ↦ inl (inr before)
  | inr last ↦ inr last
]

module _ (gives less : Gives) (lacks few : Lacks) (more : (n b : List ℕ) → less n b → gives n b) (lacking : (n : List ℕ) (u : Unreadable) → few n u → lacks n u) (file : List ℕ) (ks : List Known) (known : AreKnownOf gives file ks) where
  pub held-known : (n : List ℕ) (v : Json) → IsKnownOrHeld (λ m. IsHeld less (beside file m)) ks n v → IsHeld gives (beside file n) v
  held-known n v (inl h) = known n v h
  held-known n v (inr h) = held-before gives less lacks few more lacking (beside file n) v h

  pub input-known : (x : InputSource) (v : Json) → IsInputFrom less file ks x v → IsInput gives file x v
  input-known (Here y) v h = h
  input-known (Named name) v h = held-known name v h

  pub test-known : (d : Draft) (t : Expectation) → IsTestFrom less file ks d t → IsTestOn gives file d t
  test-known d t h = (h.0, input-known d.input h.0 h.1, h.2)

-- what stands at a place is known
pub known-at : (ks : List Known) (i : ℕ) (x : Known) (n : List ℕ) (v : Json) → i < length ks → x ≡ get_or ks i x → x.name ≡ n → v ≡ x.value → IsKnown ks n v
known-at [] i x n v within is e f = absurd (omega arith)
known-at (k ∷ ks) zero x n v within is e f = inl (ap (λ (y : Known). y.name) (sym is) ∙ e, ap (λ (y : Known). y.value) (sym is) ∙ sym f)
known-at (k ∷ ks) (suc i) x n v within is e f = inr (known-at ks i x n v (omega arith) is e f)

pub keep-known : (ks more : List Known) (k : Known) (m : List ℕ) (w : Json) → more ≡ ks ++ k ∷ [] → k.name ≡ m → k.value ≡ w → (n : List ℕ) (v : Json) → IsKnown more n v → IsKnownOrHeld (λ a b. (a ≡ m) × (b ≡ w)) ks n v
keep-known ks more k m w e p q n v h = elim (known-more ks k n v (subst (λ (l : List Known). IsKnown l n v) e h)) [
  | inl before ↦ inl before
  | inr last ↦ inr (sym last.0 ∙ p, sym last.1 ∙ q)
]

-- what was kept holds, too
pub kept-held : (P : List ℕ → Json → Type 0) (ks : List Known) (m : List ℕ) (w : Json) (n : List ℕ) (v : Json) → P m w → IsKnownOrHeld (λ a b. (a ≡ m) × (b ≡ w)) ks n v → IsKnownOrHeld P ks n v
kept-held P ks m w n v held (inl h) = inl h
kept-held P ks m w n v held (inr h) = inr (subst (λ (b : Json). P n b) (sym h.1) (subst (λ (a : List ℕ). P a w) (sym h.0) held))

-- ---- one test more

module _ (gives : Gives) (file : List ℕ) (all rest left : List Draft) (d : Draft) (split : left ≡ d ∷ rest) where
  pub tests-more : (so now : List Expectation) (t : Expectation) → now ≡ so ++ t ∷ [] → IsTestOn gives file d t
      → ((ts : List Expectation) → AreTestsOn gives file left ts → AreTestsOn gives file all (so ++ ts))
      → (ts : List Expectation) → AreTestsOn gives file rest ts → AreTestsOn gives file all (now ++ ts)
  tests-more so now t e on before ts h =
      let same : now ++ ts ≡ so ++ t ∷ ts = ap (λ (l : List Expectation). l ++ ts) e ∙ append_assoc so (t ∷ []) ts in
      subst (λ (l : List Expectation). AreTestsOn gives file all l) (sym same) (before (t ∷ ts) (subst (λ (ds : List Draft). AreTestsOn gives file ds (t ∷ ts)) (sym split) (on, h)))

  pub first-more : (lacks : Lacks) (t : Expectation) → IsTestOn gives file d t
      → ((r : CommandFault) → IsFirstLost gives lacks file left r → IsFirstLost gives lacks file all r)
      → (r : CommandFault) → IsFirstLost gives lacks file rest r → IsFirstLost gives lacks file all r
  first-more lacks t on before r h = before r (subst (λ (ds : List Draft). IsFirstLost gives lacks file ds r) (sym split) (inr ((on.0, on.1), h)))

-- none is left
pub tests-done : (gives : Gives) (file : List ℕ) (all left : List Draft) (now : List Expectation) → left ≡ []
    → ((ts : List Expectation) → AreTestsOn gives file left ts → AreTestsOn gives file all (now ++ ts)) → AreTestsOn gives file all now
tests-done gives file all left now none before =
    subst (λ (l : List Expectation). AreTestsOn gives file all l) (append-nil now) (before [] (subst (λ (ds : List Draft). AreTestsOn gives file ds []) (sym none) tt))
