-- Paths begin with `$`, and calls don't.
use Rattle.std.proofs.Common.{◌≡◌, ℕ, true, false, List, ◌++◌, ap, ◌∙◌}
use Rattle.asl_path.specs.Grammar.{IsPath, SpellsRoot}
use Rattle.asl_path.specs.declared.step.Root.{Root}
use Rattle.asl_path.specs.declared.step.Root.TheVariants.{Input, Context}
use Rattle.asl_intrinsic.specs.Tree.{Argument, constant, quoted, path, call}
use Rattle.asl_intrinsic.specs.Grammar.{SpellsCall}
use Rattle.asl_intrinsic.specs.Faults.{IsCall}
use Rattle.asl_template.specs.Filling.{is_path}

root_begins : (root : Root) (front back : List ℕ) → SpellsRoot root front → is_path (front ++ back) ≡ true
root_begins Input front back e = ap (λ (u : List ℕ). is_path (u ++ back)) e
root_begins Context front back e = ap (λ (u : List ℕ). is_path (u ++ back)) e

pub path_begins : (t : List ℕ) → IsPath t → is_path t ≡ true
path_begins t h = ap is_path h.spelled.parts ∙ root_begins h.root h.spelled.front h.spelled.back h.spelled.front_is

spelled_begins : (a : Argument) (t : List ℕ) → SpellsCall a t → is_path t ≡ false
spelled_begins (constant d) t h = absurd h
spelled_begins (quoted s) t h = absurd h
spelled_begins (path p) t h = absurd h
spelled_begins (call name ts) t h = ap is_path (h.parts ∙ ap (λ (u : List ℕ). u ++ h.back) h.front_is.parts)

pub call_begins : (t : List ℕ) → IsCall t → is_path t ≡ false
call_begins t h = spelled_begins h.tree t h.spelled
