-- Which texts read what stands at a chain of keys of the Context Object, as ["Task", "Token"]; and values that are equal but for
-- what stands there. (Amazon States Language, "Paths", "The Context Object".)
use Rattle.std.specs.Prelude.{◌≡◌, ◌⊎◌, ℕ, List, [], ◌∷◌, ◌++◌, Bool, true, false, ◌&&◌, ◌||◌, Result, Ok, Err}
use Rattle.asl_json_data.specs.Data.{Data, null, boolean, number, text, list, dict, Chain, no_items, item, Pairs, no_members, member, pairs}
use Rattle.asl_json_data.specs.Distinct.{Members, has_key}
use Rattle.asl_json.specs.Same.{bytes_eq}
use Rattle.asl_path.specs.declared.step.Root.{Root}
use Rattle.asl_path.specs.declared.step.Step.{Step}
use Rattle.asl_path.specs.declared.step.Step.TheVariants.{Name, Index}
use Rattle.asl_path.specs.private.Steps.{steps}
use Rattle.asl_intrinsic.specs.Tree.{Argument, constant, quoted, path, call, Arguments, none, argument}
use Rattle.asl_intrinsic.specs.Calls.{is_context}
use Rattle.asl_intrinsic.specs.private.Steps.{heard}

abbrev pub Keys : Type 0
Keys = List (List ℕ)

-- ---- values that are equal but for what stands at a chain of keys

-- objects of the same members but for the value of the first one of this key; the two values there are related so
pub record DifferAt (k : List ℕ) (R : Data → Data → Type 0) (a b : Data) : Type 0 where
  pub before : Members
  pub after : Members
  pub one : Data
  pub other : Data
  pub a_is : a ≡ dict (pairs (before ++ (k, one) ∷ after))
  pub b_is : b ≡ dict (pairs (before ++ (k, other) ∷ after))
  pub first : has_key k before ≡ false
  pub related : R one other

abbrev pub AreEqualBut : Keys → Data → Data → Type 0
AreEqualBut [] a b = Unit {0}
AreEqualBut (k ∷ ks) a b = (a ≡ b) ⊎ DifferAt k (AreEqualBut ks) a b

-- ---- texts that read what stands there

-- the steps lead there, to what holds it, or into it: one is the front of the other
abbrev pub meets : Keys → List Step → Bool
meets [] ss = true
meets (k ∷ ks) [] = true
meets (k ∷ ks) (Name n ∷ ss) = bytes_eq n k && meets ks ss
meets (k ∷ ks) (Index i ∷ ss) = false

abbrev pub leads : Keys → Result (Root × List Step) ℕ → Bool
leads ks (Ok p) = meets ks p.1
leads ks (Err left) = false

-- the text is a path of the Context Object that does
unfoldable pub path_reads : Keys → List ℕ → Bool
path_reads ks t = is_context t && leads ks (steps t)

-- so does a path in a call
abbrev mutual
  pub argument_reads : Keys → Argument → Bool
  argument_reads ks (constant d) = false
  argument_reads ks (quoted t) = false
  argument_reads ks (path t) = path_reads ks t
  argument_reads ks (call n ts) = some_argument_reads ks ts

  pub some_argument_reads : Keys → Arguments → Bool
  some_argument_reads ks none = false
  some_argument_reads ks (argument t ts) = argument_reads ks t || some_argument_reads ks ts

abbrev pub tree_reads : Keys → Result Argument ℕ → Bool
tree_reads ks (Ok t) = argument_reads ks t
tree_reads ks (Err left) = false

-- the text spells a call that does
unfoldable pub call_reads : Keys → List ℕ → Bool
call_reads ks t = tree_reads ks (heard t)

-- the text is a path or a call that reads what stands there
abbrev pub text_reads : Keys → List ℕ → Bool
text_reads ks t = path_reads ks t || call_reads ks t

-- some text of a value passes a test, whatever it stands for
abbrev mutual
  pub some_text : (List ℕ → Bool) → Data → Bool
  some_text p null = false
  some_text p (boolean b) = false
  some_text p (number n) = false
  some_text p (text t) = p t
  some_text p (list ds) = some_text_in p ds
  some_text p (dict ms) = some_text_among p ms

  pub some_text_in : (List ℕ → Bool) → Chain → Bool
  some_text_in p no_items = false
  some_text_in p (item d ds) = some_text p d || some_text_in p ds

  pub some_text_among : (List ℕ → Bool) → Pairs → Bool
  some_text_among p no_members = false
  some_text_among p (member k d ms) = some_text p d || some_text_among p ms

-- some text of the value reads what stands there
abbrev pub reads : Keys → Data → Bool
reads ks d = some_text (text_reads ks) d
