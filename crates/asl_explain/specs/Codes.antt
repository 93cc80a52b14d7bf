-- Which codes are explained, what a word means among them, and what is told of one.
use Rattle.std.specs.Prelude.{ℕ, Bool, true, false, ◌||◌, List, [], ◌∷◌, ◌++◌, ◌≡◌, Option, Some, None, option_map, find, map, codes}
use Rattle.std.specs.Borrow.{Bor}
use Rattle.std.specs.List.{flat_map}
use Rattle.std.specs.Option.{option_or}
use Rattle.std.specs.Str.{bytes_eq, str_eq_ignore_ascii_case}
use Rattle.asl_explain.specs.declared.saying.Explanation.{Explanation}

-- a code as it is printed, and the name that stands behind a number
pub record Code : Type 0 where
  pub code : List ℕ
  pub name : Option (List ℕ)

abbrev pub numbered : List ℕ → List ℕ → Code
numbered c n = record { code = c; name = Some n }

abbrev pub plain : List ℕ → Code
plain c = record { code = c; name = None }

-- ---- all codes, a family each, in order

unfoldable pub definition_codes : List Code
definition_codes =
    numbered (codes "F1") (codes "Json")
    ∷ numbered (codes "F2") (codes "NotObject")
    ∷ numbered (codes "F3") (codes "Missing")
    ∷ numbered (codes "F4") (codes "UnknownField")
    ∷ numbered (codes "F5") (codes "Unsupported")
    ∷ numbered (codes "F6") (codes "WrongType")
    ∷ numbered (codes "F7") (codes "Range")
    ∷ numbered (codes "F8") (codes "Both")
    ∷ numbered (codes "F9") (codes "Neither")
    ∷ numbered (codes "F10") (codes "NoTarget")
    ∷ numbered (codes "F11") (codes "DuplicateState")
    ∷ numbered (codes "F12") (codes "AllNotLast")
    ∷ numbered (codes "F13") (codes "Path")
    ∷ numbered (codes "F14") (codes "Expression")
    ∷ numbered (codes "F15") (codes "Nesting")
    ∷ numbered (codes "F16") (codes "OutOfMemory")
    ∷ []

unfoldable pub mock_codes : List Code
mock_codes =
    numbered (codes "M1") (codes "Json")
    ∷ numbered (codes "M2") (codes "Shape")
    ∷ numbered (codes "M3") (codes "Key")
    ∷ numbered (codes "M4") (codes "Overlap")
    ∷ numbered (codes "M5") (codes "NoResponse")
    ∷ numbered (codes "M6") (codes "OutOfMemory")
    ∷ numbered (codes "M7") (codes "NoMachine")
    ∷ numbered (codes "M8") (codes "NoCase")
    ∷ []

unfoldable pub json_codes : List Code
json_codes =
    numbered (codes "J1") (codes "Syntax")
    ∷ numbered (codes "J2") (codes "Duplicate")
    ∷ numbered (codes "J3") (codes "Depth")
    ∷ numbered (codes "J4") (codes "Number")
    ∷ numbered (codes "J5") (codes "Size")
    ∷ numbered (codes "J6") (codes "Utf8")
    ∷ numbered (codes "J7") (codes "OutOfMemory")
    ∷ []

unfoldable pub expectation_codes : List Code
expectation_codes =
    numbered (codes "X1") (codes "Json")
    ∷ numbered (codes "X2") (codes "Shape")
    ∷ numbered (codes "X3") (codes "OutOfMemory")
    ∷ numbered (codes "X4") (codes "NoTest")
    ∷ []

unfoldable pub project_codes : List Code
project_codes =
    numbered (codes "K1") (codes "Syntax")
    ∷ numbered (codes "K2") (codes "Key")
    ∷ numbered (codes "K3") (codes "Type")
    ∷ numbered (codes "K4") (codes "Machine")
    ∷ numbered (codes "K5") (codes "File")
    ∷ numbered (codes "K6") (codes "OutOfMemory")
    ∷ []

unfoldable pub rule_codes : List Code
rule_codes =
    numbered (codes "Q1") (codes "Syntax")
    ∷ numbered (codes "Q2") (codes "NoSuchState")
    ∷ []

unfoldable pub line_codes : List Code
line_codes =
    numbered (codes "E1") (codes "StepLine")
    ∷ numbered (codes "E2") (codes "ScriptLine")
    ∷ []

unfoldable pub refusal_codes : List Code
refusal_codes =
    numbered (codes "S1") (codes "Over")
    ∷ numbered (codes "S2") (codes "NoSuchPlace")
    ∷ numbered (codes "S3") (codes "Stopped")
    ∷ numbered (codes "S4") (codes "Finished")
    ∷ numbered (codes "S5") (codes "Busy")
    ∷ numbered (codes "S6") (codes "Slots")
    ∷ numbered (codes "S7") (codes "NotYet")
    ∷ numbered (codes "S8") (codes "HistoryFull")
    ∷ numbered (codes "S9") (codes "OutOfMemory")
    ∷ plain (codes "NotPaused")
    ∷ plain (codes "NoSuchState")
    ∷ plain (codes "TooFar")
    ∷ []

unfoldable pub closing_codes : List Code
closing_codes =
    numbered (codes "H1") (codes "SeatMissing")
    ∷ numbered (codes "H2") (codes "Mismatch")
    ∷ numbered (codes "H3") (codes "Foreign")
    ∷ numbered (codes "H4") (codes "NotRun")
    ∷ numbered (codes "H5") (codes "OutOfMemory")
    ∷ numbered (codes "H6") (codes "OtherSetup")
    ∷ []

unfoldable pub warning_codes : List Code
warning_codes =
    plain (codes "unreachable-state")
    ∷ plain (codes "no-end")
    ∷ plain (codes "no-default")
    ∷ plain (codes "own-default")
    ∷ plain (codes "repeated-rule")
    ∷ plain (codes "impossible-and")
    ∷ plain (codes "endless-wait")
    ∷ plain (codes "unsent-token")
    ∷ plain (codes "heartbeat-not-shorter")
    ∷ plain (codes "limit-below-wait")
    ∷ plain (codes "unasked-handler")
    ∷ plain (codes "unknown-error")
    ∷ plain (codes "repeated-error")
    ∷ plain (codes "unused-delay")
    ∷ plain (codes "max-delay-below-interval")
    ∷ plain (codes "forgotten-dollar")
    ∷ plain (codes "not-computed")
    ∷ plain (codes "unknown-context-member")
    ∷ plain (codes "failing-call")
    ∷ plain (codes "unknown-state")
    ∷ plain (codes "not-a-task")
    ∷ plain (codes "unanswered-task")
    ∷ plain (codes "unused-response")
    ∷ plain (codes "missing-answer")
    ∷ plain (codes "kind")
    ∷ []

unfoldable pub verdict_codes : List Code
verdict_codes =
    plain (codes "ok")
    ∷ plain (codes "nocase")
    ∷ plain (codes "limit")
    ∷ plain (codes "status")
    ∷ plain (codes "output")
    ∷ plain (codes "match")
    ∷ plain (codes "error")
    ∷ plain (codes "cause")
    ∷ plain (codes "visits")
    ∷ plain (codes "invocations")
    ∷ plain (codes "calls")
    ∷ plain (codes "endless")
    ∷ plain (codes "cut")
    ∷ plain (codes "unanswered")
    ∷ plain (codes "accident")
    ∷ []

unfoldable pub error_codes : List Code
error_codes =
    plain (codes "States.Runtime")
    ∷ plain (codes "States.NoChoiceMatched")
    ∷ plain (codes "States.ParameterPathFailure")
    ∷ plain (codes "States.IntrinsicFailure")
    ∷ plain (codes "States.ResultPathMatchFailure")
    ∷ plain (codes "States.DataLimitExceeded")
    ∷ plain (codes "States.Timeout")
    ∷ []

abbrev pub asl_codes : List (List Code)
asl_codes = definition_codes ∷ mock_codes ∷ json_codes ∷ expectation_codes
    ∷ project_codes ∷ line_codes ∷ refusal_codes ∷ rule_codes ∷ closing_codes ∷ warning_codes ∷ verdict_codes ∷ error_codes ∷ []

-- ---- what a word means

-- two texts are the same, exactly or but for the case of ASCII letters
abbrev pub is_same : Bool → List ℕ → List ℕ → Bool
is_same true a b = bytes_eq a b
is_same false a b = str_eq_ignore_ascii_case a b

abbrev pub is_name : Bool → List ℕ → Option (List ℕ) → Bool
is_name exactly word None = false
is_name exactly word (Some name) = is_same exactly name word

-- a word means a code whose code or name it is
abbrev pub is_meant : Bool → List ℕ → Code → Bool
is_meant exactly word c = is_same exactly c.code word || is_name exactly word c.name

-- the first of these families' codes that it means
abbrev pub first_meant : Bool → List ℕ → List (List Code) → Option Code
first_meant exactly word [] = None
first_meant exactly word (family ∷ families) =
    option_or (find (is_meant exactly word) family) (first_meant exactly word families)

-- the first that it means exactly, or else the first that it means but for the case of ASCII letters
abbrev pub meant : List ℕ → Option Code
meant word = option_or (first_meant true word asl_codes) (first_meant false word asl_codes)

-- ---- what is told

-- whose explanation it is
abbrev pub code_of : Explanation → Code
code_of e = record { code = e.code.now; name = option_map (λ n. n.now) e.name }

abbrev pub behind : Option (List ℕ) → List ℕ
behind None = []
behind (Some name) = 32 ∷ name

-- its code, its name and its sentence, as a line without its line feed
abbrev pub line_of : Explanation → List ℕ
line_of e = e.code.now ++ (behind (option_map (λ n. n.now) e.name) ++ (codes ": " ++ e.sentence.now))

-- all that is told of it: its line, an empty line, and its text
abbrev pub told_of : Explanation → List ℕ
told_of e = line_of e ++ (10 ∷ 10 ∷ e.text.now)

-- the line of each
abbrev pub whole_line : Explanation → List ℕ
whole_line e = line_of e ++ (10 ∷ [])

abbrev pub family_lines : List Explanation → List ℕ
family_lines family = flat_map whole_line family

-- whose explanations these are, by their families
abbrev pub codes_of : List (Bor (List Explanation)) → List (List Code)
codes_of = map (λ f. map code_of f.now)

-- this is told of all codes: a line of each, in their order
pub record IsListed (text : List ℕ) : Type 0 where
  pub families : List (Bor (List Explanation))
  pub whole : codes_of families ≡ asl_codes
  pub lines : text ≡ flat_map (λ f. family_lines f.now) families
