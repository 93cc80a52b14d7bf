-- Which cases are equal: those with the same answers to the same states, in the same order. The
-- spelling of a value counts, and
-- so does the order of its members.
use Rattle.std.specs.Prelude.{Bool, false, ◌&&◌, nat_eq}
use Rattle.std.specs.Cmp.Lexicographic.{pointwise}
use Rattle.std.specs.Option.{option_eq}
use Rattle.asl_json.specs.Same.{bytes_eq, json_equal}
use Rattle.asl_mock.specs.Answers.{Response, Case}
use Rattle.asl_mock.specs.Tables.{Named}
use Rattle.asl_mock.specs.declared.response.Answer.{Answer}
use Rattle.asl_mock.specs.declared.response.Answer.TheVariants.{Returns, Throws}
use Rattle.asl_mock.specs.declared.response.Ranged.{Ranged}

abbrev pub answer_equal : Answer → Answer → Bool
answer_equal (Returns v) (Returns w) = json_equal v w
answer_equal (Throws e c) (Throws f d) = bytes_eq e f && option_eq bytes_eq c d
answer_equal (Returns v) (Throws f d) = false
answer_equal (Throws e c) (Returns w) = false

abbrev pub ranged_equal : Ranged → Ranged → Bool
ranged_equal a b =
    (nat_eq a.span.low b.span.low && nat_eq a.span.high b.span.high)
    && answer_equal a.answer b.answer

abbrev pub response_equal : Response → Response → Bool
response_equal = pointwise ranged_equal

abbrev pub state_equal : Named Response → Named Response → Bool
state_equal a b = bytes_eq a.0 b.0 && response_equal a.1 b.1

abbrev pub case_equal : Case → Case → Bool
case_equal = pointwise state_equal
