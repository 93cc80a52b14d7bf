-- A fault as a clause sees it, and what reading a part answers.
use Rattle.std.specs.Prelude.{◌≡◌, ℕ, List, [], ◌∷◌, ◌++◌, Bool, true, false, nat_lt, if◌then◌else◌, reverse, Result, Ok, Err}
use Rattle.std.specs.declared.vec.Vec.{Vec}
use Rattle.asl_path.specs.declared.step.Step.{Step}
use Rattle.asl_path.specs.Faults.{FaultAt}
use Rattle.asl_intrinsic.specs.Faults.{IsFaultOf}
use Rattle.asl_intrinsic.specs.declared.expr.CallFault.TheVariants.{OutOfMemory as NoMemory}
use Rattle.asl_template.specs.Faults.{Rule, no_text, beside, path, call, Claim, Each, Holds, IsFirst}
use Rattle.asl_template.specs.declared.fault.Kind.{Kind}
use Rattle.asl_template.specs.declared.fault.Kind.TheVariants.{NotText, Both, PathText, CallText}
use Rattle.asl_template.specs.declared.fault.Fault.TheInside.{Inside}

abbrev pub Found : Type 0
Found = Kind × List Step

abbrev pub seen : Inside → Found
seen a = (a.kind, reverse a.steps.items)

abbrev pub number_of_kind : Kind → ℕ
number_of_kind NotText = 1
number_of_kind Both = 2
number_of_kind (PathText at) = 5
number_of_kind (CallText e) = 6

-- the one with the lower number, else the earlier one
abbrev pub better : Found → Found → Found
better a b = if nat_lt (number_of_kind b.0) (number_of_kind a.0) then b else a

abbrev pub under_read : {A : Type 0} → Step → Result A Found → Result A Found
under_read s (Ok a) = Ok a
under_read s (Err f) = Err (f.0, s ∷ f.1)

-- the parts so far and one more, or the better fault
abbrev pub taken : {A : Type 0} → Result (List A) Found → Result A Found → Result (List A) Found
taken (Ok xs) (Ok a) = Ok (xs ++ a ∷ [])
taken (Ok xs) (Err f) = Err f
taken (Err f) (Ok a) = Err f
taken (Err f) (Err g) = Err (better f g)

-- with the fault of standing beside another of the name
abbrev pub judged_read : {A : Type 0} → Bool → Result A Found → Result A Found
judged_read false r = r
judged_read true (Ok a) = Err (Both, [])
judged_read true (Err f) = Err (better (Both, []) f)

abbrev pub listed : {A Y : Type 0} → Result (Vec A Y) Found → Result (List A) Found
listed (Ok v) = Ok v.items
listed (Err f) = Err f

-- the fault tells of the rule, which is broken
abbrev pub Says : Rule → Kind → Type 0
Says no_text NotText = Unit {0}
Says beside Both = Unit {0}
Says (path t) (PathText at) = FaultAt t at
Says (call t) (CallText e) = IsFaultOf t e × (e ≡ NoMemory → ⊥)
Says r k = ⊥

-- the first broken rule of the lowest number
pub record IsFound (cs : List Claim) (f : Found) : Type 0 where
  pub claim : Claim
  pub is_first : IsFirst cs claim
  pub says : Says claim.0 f.0
  pub at : claim.1 ≡ f.1

-- the answer of reading something of which these claims are made
abbrev pub Reads : {X : Type 0} {Y : Type 0} → (X → Y) → Y → List Claim → Result X Found → Type 0
Reads view y cs (Ok x) = (view x ≡ y) × Each Holds cs
Reads view y cs (Err f) = IsFound cs f
