-- Which answer of a mock file an invocation has.
use Rattle.std.specs.Prelude.{ℕ, suc, Bool, false, ◌&&◌, nat_le, List, [], ◌∷◌, codes, if◌then◌else◌, Option, Some, None}
use Rattle.asl_json_data.specs.Data.{Data, text}
use Rattle.asl_json_data.specs.Distinct.{Members}
use Rattle.asl_json.specs.Meaning.{value_in}
use Rattle.asl_mock.specs.Key.{span_in}
use Rattle.asl_json.specs.Access.{member_list_at}
use Rattle.asl_mock.specs.declared.key.Span.{Span}

abbrev pub under : List ℕ → Option Data → Option Data
under k None = None
under k (Some d) = value_in k d

-- the case of these names in a mock file
abbrev pub case_named : Data → List ℕ → List ℕ → Option Data
case_named mocks machine name =
    under name (under (codes "TestCases") (under machine (value_in (codes "StateMachines") mocks)))

-- none, where the name is empty
abbrev pub case_in : Data → List ℕ → List ℕ → Option Data
case_in mocks machine [] = None
case_in mocks machine (c ∷ cs) = case_named mocks machine (c ∷ cs)

abbrev pub text_in : Option Data → Option (List ℕ)
text_in (Some (text t)) = Some t
text_in _ = None

-- the name of the response that a case has for a state
abbrev pub response_of : Option Data → List ℕ → Option (List ℕ)
response_of case state = text_in (under state case)

abbrev pub is_within : ℕ → Option Span → Bool
is_within n None = false
is_within n (Some s) = nat_le s.low n && nat_le n s.high

-- an answer with this key is for the invocation of number n
abbrev pub has_number : List ℕ → ℕ → Bool
has_number k n = is_within n (span_in k)

-- the number of the first answer for it, counted from i
abbrev pub answer_number : ℕ → ℕ → Members → Option ℕ
answer_number i n [] = None
answer_number i n (m ∷ ms) = if has_number m.0 n then Some i else answer_number (suc i) n ms

abbrev pub answer_under : Option Data → List ℕ → ℕ → Option ℕ
answer_under None response n = None
answer_under (Some d) response n = answer_number 0 n (member_list_at response d)

-- among those of the response of this name
abbrev pub answer_of : Data → List ℕ → ℕ → Option ℕ
answer_of mocks response n =
    answer_under (value_in (codes "MockedResponses") mocks) response n
