-- What a mock file is made of, value by value. (AWS Step Functions, "Mocked service integrations",
-- the file MockConfigFile.json.)
use Rattle.std.specs.Prelude.{ℕ, List, [], ◌∷◌, ◌++◌, Bool, true, false, ◌&&◌, ◌||◌, ◌==◌, if◌then◌else◌, codes, is_some}
use Rattle.asl_json_data.specs.Data.{Data, null, boolean, number, text, list, dict, Pairs, no_members, member}
use Rattle.asl_json.specs.Same.{bytes_eq}
use Rattle.asl_json.specs.Meaning.{value_in, count}
use Rattle.asl_mock.specs.Places.{Place, under}
use Rattle.asl_mock.specs.declared.shape.Shape.{Shape}
use Rattle.asl_mock.specs.declared.shape.Shape.TheVariants.{Any, Text, Top, Machines, Machine, Cases, Case, Responses, Response, Answer, Thrown}

-- what a member of this key is
abbrev pub part_shape : Shape → List ℕ → Shape
part_shape Top k =
    if bytes_eq k (codes "StateMachines") then Machines else if bytes_eq k (codes "MockedResponses")
    then Responses else Any
part_shape Machines k = Machine
part_shape Machine k = if bytes_eq k (codes "TestCases") then Cases else Any
part_shape Cases k = Case
part_shape Case k = Text
part_shape Responses k = Response
part_shape Response k = Answer
part_shape Answer k = if bytes_eq k (codes "Throw") then Thrown else Any
part_shape Thrown k = Text
part_shape Any k = Any
part_shape Text k = Any

abbrev pub has : List ℕ → Data → Bool
has k d = is_some (value_in k d)

abbrev pub members_count : Data → ℕ
members_count (dict ms) = count ms
members_count _ = 0

-- whether an object has the members that it needs, and none besides
abbrev pub fits : Shape → Data → Bool
fits Machine d = has (codes "TestCases") d
-- exactly one of the two
fits Answer d = (members_count d == 1) && (has (codes "Return") d || has (codes "Throw") d)
-- `Error`, and `Cause` at most
fits Thrown d =
    has (codes "Error") d && (members_count d == (if has (codes "Cause") d then 2 else 1))
fits Text d = false
fits _ d = true

-- any value may stand there
abbrev pub takes_any : Shape → Bool
takes_any Any = true
takes_any _ = false

abbrev pub takes_text : Shape → Bool
takes_text Any = true
takes_text Text = true
takes_text _ = false

abbrev pub unless : Bool → List Place
unless true = []
unless false = [] ∷ []

-- the values that don't fit, in document order; an object that doesn't stands where it begins
abbrev mutual
  pub misfits : Shape → Data → List Place
  misfits s null = unless (takes_any s)
  misfits s (boolean b) = unless (takes_any s)
  misfits s (number n) = unless (takes_any s)
  misfits s (text t) = unless (takes_text s)
  misfits s (list ds) = unless (takes_any s)
  misfits s (dict ms) = unless (fits s (dict ms)) ++ misfits_below s ms

  pub misfits_below : Shape → Pairs → List Place
  misfits_below s no_members = []
  misfits_below s (member k d ms) = under k (misfits (part_shape s k) d) ++ misfits_below s ms
