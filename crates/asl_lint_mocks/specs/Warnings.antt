-- What is suspicious in a mock file.
use Rattle.std.specs.Prelude.{ℕ, ◌-◌, List, Bool, false, ◌&&◌, not, nat_le, nat_lt, Option, Some, None, codes}
use Rattle.std.specs.List.{list_any}
use Rattle.asl_json_data.specs.Data.{Data, text}
use Rattle.asl_json_data.specs.Distinct.{Members}
use Rattle.asl_json.specs.Same.{bytes_eq}
use Rattle.asl_mock.specs.Form.{unless}
use Rattle.asl_mock.specs.Key.{span_in}
use Rattle.asl_mock.specs.Places.{Place, under, in_each}
use Rattle.asl_json.specs.Access.{member_list, member_list_at}
use Rattle.asl_mock.specs.declared.key.Span.{Span}

-- missing-answer: an answer of a response begins above 0, and the number before it has none

abbrev pub has_number : ℕ → Option Span → Bool
has_number n None = false
has_number n (Some s) = nat_le s.low n && nat_le n s.high

abbrev pub is_answered : Members → ℕ → Bool
is_answered ms n = list_any (λ m. has_number n (span_in m.0)) ms

abbrev pub begins_bare : Members → Option Span → Bool
begins_bare ms None = false
begins_bare ms (Some s) = nat_lt 0 s.low && not (is_answered ms (s.low - 1))

abbrev pub has_gap : Members → Bool
has_gap ms = list_any (λ m. begins_bare ms (span_in m.0)) ms

abbrev pub gap_in : List ℕ × Data → List Place
gap_in r = unless (not (has_gap (member_list r.1)))

abbrev pub gaps : Data → List Place
gaps d =
    under (codes "MockedResponses") (in_each gap_in (member_list_at (codes "MockedResponses") d))

-- unused-response: no case of any machine names a response

abbrev pub is_text : List ℕ → Data → Bool
is_text k (text t) = bytes_eq k t
is_text k d = false

abbrev pub case_names : List ℕ → List ℕ × Data → Bool
case_names k c = list_any (λ s. is_text k s.1) (member_list c.1)

abbrev pub machine_names : List ℕ → List ℕ × Data → Bool
machine_names k m = list_any (case_names k) (member_list_at (codes "TestCases") m.1)

abbrev pub is_named : Data → List ℕ → Bool
is_named d k = list_any (machine_names k) (member_list_at (codes "StateMachines") d)

abbrev pub unused : Data → List Place
unused d =
    under (codes "MockedResponses")
    (in_each (λ r. unless (is_named d r.0)) (member_list_at (codes "MockedResponses") d))
