-- Files that are read one after another.
use Rattle.std.proofs.Common.{◌≡◌, ℕ, ◌+◌, ◌<◌, inr, Bool, List, [], ◌∷◌, ◌++◌, length, get_or, drop, subst}
use Rattle.std.specs.Prelude.{map, Some, None}
use Rattle.std.proofs.lemmas.List.{drop_more}
use Rattle.asl_host.specs.Reading.{Lacks}
use Rattle.asl_host.specs.declared.files.Unreadable.{Unreadable}
use Rattle.asl_project.specs.declared.workflow.Workflow.{Workflow}
use Rattle.asl_lint_files.specs.declared.kinds.Role.TheVariants as role
use Rattle.asl_lint_files.specs.declared.linting.LintFile.{LintFile}
use Rattle.asl_lint_files.proofs.Paired.{GoesOn, next}
use Rattle.asl_cli.specs.Faults.{IsFirstUnread}
use Rattle.asl_cli.specs.Linting.{IsLintedBut, IsReadAs, Wanted, seen}
use Rattle.asl_cli.specs.Projects.{workflow_files}
use Rattle.asl_cli.specs.Streams.{FileSystem, Io}
use Rattle.asl_cli.specs.declared.linting.Manner.{Manner}
use Rattle.asl_cli.specs.declared.linting.Wanted.{Wanted as WantedFile}

-- ---- what was read

-- it goes on with what is left
abbrev pub ReadSoFar : (List ℕ → List ℕ → Type 0) → List WantedFile → List WantedFile → List LintFile → Type 0
ReadSoFar gives all rest fs = GoesOn (IsReadAs gives) (map seen all) (map seen rest) fs

pub read_more : (gives : List ℕ → List ℕ → Type 0) (ws : List WantedFile) (i : ℕ) (d : WantedFile) (f : LintFile) (old new : List LintFile) → i < length ws
    → new ≡ old ++ f ∷ [] → IsReadAs gives (seen (get_or ws i d)) f → ReadSoFar gives ws (drop i ws) old → ReadSoFar gives ws (drop (i + 1) ws) new
read_more gives ws i d f old new within more is before =
    next (IsReadAs gives) (map seen ws) (map seen (drop (i + 1) ws)) (seen (get_or ws i d)) f old new more is (subst (λ (xs : List WantedFile). ReadSoFar gives ws xs old) (drop_more ws i d within) before)

-- ---- the first that can't be read

abbrev names : List WantedFile → List (List ℕ)
names ws = map (λ (w : Wanted). w.0) (map seen ws)

-- it is the first of all if it is the first in what is left
abbrev pub LostIn : (List ℕ → List ℕ → Type 0) → Lacks → List WantedFile → List WantedFile → Type 0
LostIn gives lacks all rest = (name : List ℕ) (why : Unreadable) → IsFirstUnread gives lacks (names rest) name why → IsFirstUnread gives lacks (names all) name why

pub lost_more : (gives : List ℕ → List ℕ → Type 0) (lacks : Lacks) (ws : List WantedFile) (i : ℕ) (d : WantedFile) (b : List ℕ) → i < length ws
    → gives (get_or ws i d).name.now b → LostIn gives lacks ws (drop i ws) → LostIn gives lacks ws (drop (i + 1) ws)
lost_more gives lacks ws i d b within given before =
    let left : LostIn gives lacks ws (get_or ws i d ∷ drop (i + 1) ws) = subst (λ (xs : List WantedFile). LostIn gives lacks ws xs) (drop_more ws i d within) before in
    λ name why h. left name why (inr ((b, given), h))

-- ---- the files of a workflow

-- of the same rules and the same files the same is said
pub linted_as : {O E : Type 0} (files : FileSystem) (io : Io O E) (quiet : Bool) (m : Manner) (rs qs : List (List ℕ)) (ws vs : List Wanted) → rs ≡ qs → ws ≡ vs → IsLintedBut rs files io quiet m ws → IsLintedBut qs files io quiet m vs
linted_as files io quiet m rs qs ws vs rules named h =
    subst (λ (xs : List Wanted). IsLintedBut qs files io quiet m xs) named (subst (λ (xs : List (List ℕ)). IsLintedBut xs files io quiet m ws) rules h)

pub both_named : (w : Workflow) (d m : WantedFile) (name mocks : List ℕ) → seen d ≡ (name, Some role.Definition, None) → name ≡ w.definition → seen m ≡ (mocks, Some role.Mocks, None) → Some mocks ≡ w.mocks → seen d ∷ seen m ∷ [] ≡ workflow_files w
both_named w d m name mocks a b e f = rw (a, b, e, ← f)

pub one_named : (w : Workflow) (d : WantedFile) (name : List ℕ) → seen d ≡ (name, Some role.Definition, None) → name ≡ w.definition → None ≡ w.mocks → seen d ∷ [] ≡ workflow_files w
one_named w d name a b f = rw (a, b, ← f)
