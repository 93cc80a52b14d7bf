-- Which values are templates, and which fault is answered for any other. (Amazon States Language,
-- "Payload Template".)
use Rattle.std.specs.Prelude.{◌≡◌, ◌<◌, ◌≤◌, ℕ, suc, List, [], ◌∷◌, ◌++◌, Bool, true, false, if◌then◌else◌, map}
use Rattle.asl_json_data.specs.Data.{Data, null, boolean, number, text, list, dict, Chain, no_items, item, Pairs, no_members, member}
use Rattle.asl_json_data.specs.Distinct.{Members}
use Rattle.asl_path.specs.Grammar.{IsPath}
use Rattle.asl_path.specs.declared.step.Step.{Step}
use Rattle.asl_path.specs.declared.step.Step.TheVariants.{Name, Index}
use Rattle.asl_intrinsic.specs.Faults.{IsCall}
use Rattle.asl_template.specs.Names.{name_before, is_double}
use Rattle.asl_template.specs.Filling.{is_path, chosen}

-- what the rules say of a member: its value is to be a text, it is beside another of its name, its
-- text is to be a path, or a call
pub data Rule : Type 0 where
  no_text : Rule
  beside : Rule
  path : List ℕ → Rule
  call : List ℕ → Rule

-- which fault it is to break a rule: L1, L2, L5, L6
abbrev pub number_of : Rule → ℕ
number_of no_text = 1
number_of beside = 2
number_of (path t) = 5
number_of (call t) = 6

abbrev pub IsBroken : Rule → Type 0
IsBroken no_text = Unit {0}
IsBroken beside = Unit {0}
IsBroken (path t) = IsPath t → ⊥
IsBroken (call t) = IsCall t → ⊥

-- a rule at a place: the steps from the outermost value in
abbrev pub Claim : Type 0
Claim = Rule × List Step

abbrev pub under : Step → Claim → Claim
under s c = (c.0, s ∷ c.1)

-- what is claimed of the value of a computed member
abbrev pub text_claim : Data → Rule
text_claim (text t) = if is_path t then path t else call t
text_claim d = no_text

abbrev pub double_claims : Bool → List Claim
double_claims true = (beside, []) ∷ []
double_claims false = []

abbrev mutual
  -- what is claimed of a template, in document order
  pub claims : Data → List Claim
  claims null = []
  claims (boolean b) = []
  claims (number n) = []
  claims (text t) = []
  claims (list ds) = item_claims 0 ds
  claims (dict ms) = member_claims [] ms

  pub item_claims : ℕ → Chain → List Claim
  item_claims i no_items = []
  item_claims i (item d ds) = map (under (Index i)) (claims d) ++ item_claims (suc i) ds

  -- behind other members of the object
  pub member_claims : Members → Pairs → List Claim
  member_claims seen no_members = []
  member_claims seen (member k d ms) =
      map (under (Name k))
      (double_claims (is_double seen k)
      ++ chosen (name_before k) ((text_claim d, []) ∷ []) (claims d))
      ++ member_claims (seen ++ (k, d) ∷ []) ms

-- each of these has the property
abbrev pub Each : (Claim → Type 0) → List Claim → Type 0
Each P [] = Unit {0}
Each P (c ∷ cs) = P c × Each P cs

abbrev pub Holds : Claim → Type 0
Holds c = IsBroken c.0 → ⊥

-- no rule is broken
pub record IsTemplate (d : Data) : Type 0 where
  pub hold : Each Holds (claims d)

-- the first of the lowest number among those that are broken
pub record IsFirst (cs : List Claim) (c : Claim) : Type 0 where
  pub before : List Claim
  pub after : List Claim
  pub parts : cs ≡ before ++ c ∷ after
  pub broken : IsBroken c.0
  pub earlier : Each (λ (b : Claim). IsBroken b.0 → number_of c.0 < number_of b.0) before
  pub later : Each (λ (b : Claim). IsBroken b.0 → number_of c.0 ≤ number_of b.0) after
