-- What is wrong with a mock file, and which fault is answered.
use Rattle.std.specs.Prelude.{ℕ, List, [], ◌∷◌, ◌++◌, Bool, true, false, ◌&&◌, nat_le, Option, Some, None, if◌then◌else◌, codes, is_some, map}
use Rattle.std.specs.List.{list_any}
use Rattle.asl_json_data.specs.Data.{Data}
use Rattle.asl_json_data.specs.Distinct.{Members}
use Rattle.asl_mock.specs.Key.{span_in}
use Rattle.asl_mock.specs.Places.{Place, under, in_each}
use Rattle.asl_mock.specs.Form.{misfits, unless}
use Rattle.asl_json.specs.Access.{member_list, member_list_at}
use Rattle.asl_mock.specs.Tables.{Named, value_for}
use Rattle.asl_mock.specs.Answers.{Response, text_of, responses_of}
use Rattle.asl_mock.specs.declared.key.Span.{Span}
use Rattle.asl_mock.specs.declared.shape.Shape.TheVariants.{Top}

-- M3: a key that stands for no numbers

abbrev pub bad_key : List ℕ × Data → List Place
bad_key m = unless (is_some (span_in m.0))

abbrev pub bad_keys_in : List ℕ × Data → List Place
bad_keys_in r = in_each bad_key (member_list r.1)

abbrev pub bad_keys : Data → List Place
bad_keys d =
    under (codes "MockedResponses") (in_each bad_keys_in (member_list_at (codes "MockedResponses") d))

-- M4: a key with a number of an earlier key of the same response

abbrev pub have_a_number : Span → Span → Bool
have_a_number a b = nat_le a.low b.high && nat_le b.low a.high

abbrev pub overlap : Span → Option Span → Bool
overlap a None = false
overlap a (Some b) = have_a_number a b

abbrev pub meets : Span → List ℕ × Data → Bool
meets s m = overlap s (span_in m.0)

abbrev pub is_apart : Option Span → Members → Bool
is_apart None ms = true
is_apart (Some s) ms = if list_any (meets s) ms then false else true

abbrev pub overlaps_behind : Members → Members → List Place
overlaps_behind seen [] = []
overlaps_behind seen (m ∷ ms) =
    under m.0 (unless (is_apart (span_in m.0) seen)) ++ overlaps_behind (seen ++ m ∷ []) ms

abbrev pub overlaps_in : List ℕ × Data → List Place
overlaps_in r = overlaps_behind [] (member_list r.1)

abbrev pub overlaps : Data → List Place
overlaps d =
    under (codes "MockedResponses") (in_each overlaps_in (member_list_at (codes "MockedResponses") d))

-- M5: the name of a response that isn't there; `known` says which are

abbrev pub lost_name : (Data → Bool) → List ℕ × Data → List Place
lost_name known s = unless (known s.1)

abbrev pub lost_in_case : (Data → Bool) → List ℕ × Data → List Place
lost_in_case known c = in_each (lost_name known) (member_list c.1)

abbrev pub lost_in_machine : (Data → Bool) → List ℕ × Data → List Place
lost_in_machine known m =
    under (codes "TestCases") (in_each (lost_in_case known) (member_list_at (codes "TestCases") m.1))

abbrev pub lost_but : (List (Named Response) → Data → Bool) → Data → List Place
lost_but known d =
    under (codes "StateMachines")
    (in_each (lost_in_machine (known (responses_of (member_list_at (codes "MockedResponses") d))))
    (member_list_at (codes "StateMachines") d))

abbrev pub is_response : List (Named Response) → Data → Bool
is_response rs v = is_some (value_for (text_of (Some v)) rs)

abbrev pub lost_names : Data → List Place
lost_names d = lost_but is_response d

-- all faults, a number and a place each: the lowest number first, and of one number in document
-- order
abbrev pub numbered : ℕ → List Place → List (ℕ × Place)
numbered n ps = map (λ (p : Place). (n, p)) ps

abbrev pub faults : Data → List (ℕ × Place)
faults d =
    numbered 2 (misfits Top d)
    ++ (numbered 3 (bad_keys d) ++ (numbered 4 (overlaps d) ++ numbered 5 (lost_names d)))
