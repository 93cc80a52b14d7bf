-- What the text of a path starts from.
use Rattle.std.proofs.Common.{◌≡◌, ℕ, List, sym, ap, ◌∙◌}
use Rattle.std.specs.Prelude.{Result, Ok, Err}
use Rattle.asl_path.specs.declared.step.Root.{Root}
use Rattle.asl_path.specs.declared.step.Root.TheVariants.{Input, Context}
use Rattle.asl_path.specs.declared.step.Step.{Step}
use Rattle.asl_path.specs.Grammar.{IsPath, StartsFrom}
use Rattle.asl_path.specs.Faults.{FaultAt}
use Rattle.asl_path.proofs.Passing.{path_passes}
use Rattle.asl_path.proofs.Judging.{path_faultless}

pub is_some_path : (root : Root) (t : List ℕ) → StartsFrom root t → IsPath t
is_some_path root t s = record { root = root; steps = s.steps; spelled = s.spelled }

pub is_no_place : (t : List ℕ) (at : ℕ) → FaultAt t at → StartsFrom Input t → ⊥
is_no_place t at f s = path_faultless t at f (is_some_path Input t s)

abbrev root_of : Result (Root × List Step) ℕ → Root
root_of (Ok x) = x.0
root_of (Err e) = Context

-- a path starts from one root
pub one_root : (t : List ℕ) → StartsFrom Context t → StartsFrom Input t → ⊥
one_root t s u =
    let same : Context ≡ Input = ap root_of (sym (path_passes Context s.steps t s.spelled) ∙ path_passes Input u.steps t u.spelled) in
    cc
