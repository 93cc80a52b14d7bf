-- A case as a mock file, in which each state's response has the state's name.
-- (AWS Step Functions, "Mocked service integrations", the file MockConfigFile.json.)
use Rattle.std.specs.Prelude.{ℕ, List, [], ◌∷◌, ◌++◌, Option, Some, None, if◌then◌else◌, nat_lt, unwrap_or, codes}
use Rattle.std.specs.List.{flat_map}
use Rattle.std.specs.Fmt.{decimal}
use Rattle.asl_json_data.specs.Compact.{compact, quoted}
use Rattle.asl_json.specs.View.{data_of}
use Rattle.asl_json.specs.declared.value.Json.{Json}
use Rattle.asl_mock.specs.Tables.{value_for}
use Rattle.asl_mock.specs.Answers.{Case}
use Rattle.asl_mock.specs.declared.key.Span.{Span}
use Rattle.asl_mock.specs.declared.response.Answer.{Answer}
use Rattle.asl_mock.specs.declared.response.Answer.TheVariants.{Returns, Throws}
use Rattle.asl_mock.specs.declared.response.Ranged.{Ranged}

-- keys have nine digits at most
abbrev pub last_of : Span → ℕ
last_of s = if nat_lt s.high 999999999 then s.high else 999999999

abbrev pub end_text : Span → List ℕ
end_text s = if nat_lt s.low (last_of s) then 45 ∷ decimal (last_of s) else []

unfoldable pub key_text : Span → List ℕ
key_text s = 34 ∷ (decimal s.low ++ (end_text s ++ 34 ∷ []))

abbrev pub cause_text : Option (List ℕ) → List ℕ
cause_text None = []
cause_text (Some c) = codes ",\"Cause\":" ++ quoted c

unfoldable pub thrown_text : List ℕ → Option (List ℕ) → List ℕ
thrown_text e c = codes "{\"Throw\":{\"Error\":" ++ (quoted e ++ (cause_text c ++ codes "}}"))

unfoldable pub returned_text : Json → List ℕ
returned_text v = codes "{\"Return\":" ++ (compact (data_of v) ++ 125 ∷ [])

abbrev pub answer_text : Answer → List ℕ
answer_text (Returns v) = returned_text v
answer_text (Throws e c) = thrown_text e c

unfoldable pub range_text : Ranged → List ℕ
range_text r = key_text r.span ++ 58 ∷ answer_text r.answer

-- behind a comma, unless no key spells its numbers
abbrev pub more_text : Ranged → List ℕ
more_text r = if nat_lt 999999999 r.span.low then [] else 44 ∷ range_text r

abbrev pub ranges_text : List Ranged → List ℕ
ranges_text [] = []
ranges_text (r ∷ rs) = range_text r ++ flat_map more_text rs

-- the name of a member, and the beginning of an object
unfoldable pub head : List ℕ → List ℕ
head name = quoted name ++ codes ":{"

unfoldable pub own_text : List ℕ → List Ranged → List ℕ
own_text state rs = head state ++ (ranges_text rs ++ 125 ∷ [])

abbrev pub response_text : Case → List ℕ → List ℕ
response_text c state = own_text state (unwrap_or (value_for state c) [])

-- the name of a state, and that of its response
abbrev pub chosen_text : List ℕ → List ℕ
chosen_text state = quoted state ++ 58 ∷ quoted state

-- behind a comma
abbrev pub more_chosen : List ℕ → List ℕ
more_chosen state = 44 ∷ chosen_text state

abbrev pub more_response : Case → List ℕ → List ℕ
more_response c state = 44 ∷ response_text c state

abbrev pub all_chosen_text : List (List ℕ) → List ℕ
all_chosen_text [] = []
all_chosen_text (s ∷ ss) = chosen_text s ++ flat_map more_chosen ss

abbrev pub all_responses_text : Case → List (List ℕ) → List ℕ
all_responses_text c [] = []
all_responses_text c (s ∷ ss) = response_text c s ++ flat_map (more_response c) ss

unfoldable pub machine_head : List ℕ → List ℕ
machine_head name = 123 ∷ (head (codes "StateMachines") ++ head name)

unfoldable pub case_text : List ℕ → List (List ℕ) → List ℕ
case_text name states = head name ++ (all_chosen_text states ++ codes "}}}}")

unfoldable pub responses_text : Case → List (List ℕ) → List ℕ
responses_text c states =
    44 ∷ (head (codes "MockedResponses") ++ (all_responses_text c states ++ codes "}}\n"))

-- a case of a machine, both of these names, of these states
abbrev pub file_text : List ℕ → List ℕ → Case → List (List ℕ) → List ℕ
file_text machine name c states =
    machine_head machine ++ (head (codes "TestCases") ++ (case_text name states ++ responses_text c states))
