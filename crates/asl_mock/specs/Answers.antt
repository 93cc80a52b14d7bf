-- What the answers of a mock file are, and which one is given.
use Rattle.std.specs.Prelude.{ℕ, ◌-◌, List, [], ◌∷◌, Bool, ◌&&◌, nat_le, nat_lt, Option, Some, None, if◌then◌else◌, codes, map, unwrap_or}
use Rattle.asl_json_data.specs.Data.{Data, text}
use Rattle.asl_json.specs.View.{json_of}
use Rattle.asl_json_data.specs.Distinct.{Members}
use Rattle.asl_json.specs.Meaning.{value_in}
use Rattle.asl_mock.specs.Key.{span_in}
use Rattle.asl_json.specs.Access.{member_list, member_list_at}
use Rattle.asl_mock.specs.Tables.{Named, value_for}
use Rattle.asl_mock.specs.declared.key.Span.{Span}
use Rattle.asl_mock.specs.declared.response.Answer.{Answer}
use Rattle.asl_mock.specs.declared.response.Answer.TheVariants.{Returns, Throws}
use Rattle.asl_mock.specs.declared.response.Ranged.{Ranged}

-- ---- what the file spells

abbrev pub text_of : Option Data → List ℕ
text_of (Some (text t)) = t
text_of _ = []

abbrev pub cause_of : Option Data → Option (List ℕ)
cause_of None = None
cause_of (Some d) = Some (text_of (Some d))

abbrev pub thrown : Option Data → Answer
thrown None = Throws [] None
thrown (Some d) =
    Throws (text_of (value_in (codes "Error") d)) (cause_of (value_in (codes "Cause") d))

abbrev pub answer_by : Option Data → Option Data → Answer
answer_by (Some v) t = Returns (json_of v)
answer_by None t = thrown t

-- an object with one member: `Return` and any value, or `Throw` and an object with `Error` and at
-- most `Cause`
abbrev pub answer_of : Data → Answer
answer_of d = answer_by (value_in (codes "Return") d) (value_in (codes "Throw") d)

-- an answer among those in the order of their numbers
abbrev pub placed : Ranged → List Ranged → List Ranged
placed a [] = a ∷ []
placed a (b ∷ bs) = if nat_lt a.span.low b.span.low then a ∷ b ∷ bs else b ∷ placed a bs

abbrev pub with_answer : Option Span → Data → List Ranged → List Ranged
with_answer None d rs = rs
with_answer (Some s) d rs = placed (record { span = s; answer = answer_of d }) rs

-- the answers of the members behind these
abbrev pub answers_on : List Ranged → Members → List Ranged
answers_on rs [] = rs
answers_on rs (m ∷ ms) = answers_on (with_answer (span_in m.0) m.1 rs) ms

-- the answers of a response, in the order of their numbers
abbrev pub Response : Type 0
Response = List Ranged

abbrev pub response_of : Members → Response
response_of ms = answers_on [] ms

abbrev pub named_response : List ℕ × Data → Named Response
named_response m = (m.0, response_of (member_list m.1))

abbrev pub responses_of : Members → List (Named Response)
responses_of ms = map named_response ms

-- a case: the response of each state that it names
abbrev pub Case : Type 0
Case = List (Named Response)

abbrev pub named_state : List (Named Response) → List ℕ × Data → Named Response
named_state rs m = (m.0, unwrap_or (value_for (text_of (Some m.1)) rs) [])

abbrev pub case_of : List (Named Response) → Members → Case
case_of rs ms = map (named_state rs) ms

abbrev pub named_case : List (Named Response) → List ℕ × Data → Named Case
named_case rs m = (m.0, case_of rs (member_list m.1))

abbrev pub Machine : Type 0
Machine = List (Named Case)

abbrev pub machine_of : List (Named Response) → Members → Machine
machine_of rs ms = map (named_case rs) ms

abbrev pub named_machine : List (Named Response) → List ℕ × Data → Named Machine
named_machine rs m = (m.0, machine_of rs (member_list_at (codes "TestCases") m.1))

abbrev pub machines_of : List (Named Response) → Members → List (Named Machine)
machines_of rs ms = map (named_machine rs) ms

-- a file: the cases of each machine
abbrev pub Machines : Type 0
Machines = List (Named Machine)

abbrev pub mocks_of : Data → Machines
mocks_of d =
    machines_of (responses_of (member_list_at (codes "MockedResponses") d))
    (member_list_at (codes "StateMachines") d)

-- ---- which answer is given

abbrev pub has_number : ℕ → Ranged → Bool
has_number n a = nat_le a.span.low n && nat_le n a.span.high

abbrev pub first_with : ℕ → List Ranged → Option Answer
first_with n [] = None
first_with n (a ∷ rs) = if has_number n a then Some a.answer else first_with n rs

abbrev pub answer_in : ℕ → Option Response → Option Answer
answer_in n None = None
answer_in n (Some r) = first_with n r

-- the answer of number n to the state of this name, where the case names a response for it that has
-- one
abbrev pub answer_to : Case → List ℕ → ℕ → Option Answer
answer_to c state n = answer_in n (value_for state c)

-- ---- how far one answer reaches

-- of answers in the order of their numbers: the last number up to which each one from n on has the same answer, or none has any
abbrev pub last_alike : ℕ → List Ranged → ℕ
last_alike n [] = 4294967295
last_alike n (a ∷ rs) =
    if nat_lt n a.span.low then a.span.low - 1
    else if nat_le n a.span.high then a.span.high else last_alike n rs

abbrev pub last_in : ℕ → Option Response → ℕ
last_in n None = 4294967295
last_in n (Some r) = last_alike n r

-- the same of the state of this name
abbrev pub last_to : Case → List ℕ → ℕ → ℕ
last_to c state n = last_in n (value_for state c)
