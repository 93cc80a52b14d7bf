-- The points of a definition and a mock file, in document order, and what is told of each.
use Rattle.std.specs.Prelude.{ℕ, ◌+◌, false, List, [], ◌∷◌, ◌++◌, codes, is_some, if◌then◌else◌, Option, Some, None, unwrap_or}
use Rattle.std.specs.List.{flat_map}
use Rattle.std.specs.Fmt.{decimal}
use Rattle.asl_json_data.specs.Compact.{quoted}
use Rattle.asl_json_data.specs.Data.{Data, Chain, no_items, item}
use Rattle.asl_json_data.specs.Distinct.{Members}
use Rattle.asl_json.specs.Access.{items_in}
use Rattle.asl_json.specs.Meaning.{value_in}
use Rattle.asl_def_walk.specs.States.{all_states}
use Rattle.asl_mock.specs.Key.{span_in}
use Rattle.asl_json.specs.Access.{member_list, member_list_at}
use Rattle.asl_suite_coverage.specs.declared.point.Point.{Point}
use Rattle.asl_suite_coverage.specs.declared.spot.Part.{Part}
use Rattle.asl_suite_coverage.specs.declared.spot.Part.TheVariants.{State, Next, Rule, Default, Retrier, Catcher, Answer}
use Rattle.asl_suite_coverage.specs.Spots.{spot}
use Rattle.asl_suite_coverage.specs.Answers.{text_in}

-- ---- texts; names are JSON texts, so a line stays a line

-- as state "A"
unfoldable pub named : List ℕ → List ℕ → List ℕ
named word n = word ++ 32 ∷ quoted n

-- as transition "A" -> "B"
unfoldable pub leading : List ℕ → List ℕ → List ℕ
leading t target = t ++ (codes " -> " ++ quoted target)

-- as retrier 1 of "T"
unfoldable pub numbered : List ℕ → ℕ → List ℕ → List ℕ
numbered word i n = word ++ 32 ∷ (decimal i ++ (codes " of " ++ quoted n))

-- as answer "0-1" of response "R"
unfoldable pub answering : List ℕ → List ℕ → List ℕ
answering k r = named (codes "answer") k ++ (codes " of response " ++ quoted r)

-- ---- a state, by its name and its object

-- which isn't covered yet
abbrev pub point : List ℕ → Part → List ℕ → Point
point n p told = record { spot = spot n p; told = told; covered = false }

abbrev pub text_at : List ℕ → Data → Option (List ℕ)
text_at k d = text_in (value_in k d)

abbrev pub items_of_any : Option Data → Chain
items_of_any None = no_items
items_of_any (Some d) = items_in d

abbrev pub items_at : List ℕ → Data → Chain
items_at k d = items_of_any (value_in k d)

-- where it goes on, if it says so
abbrev pub target_points : List ℕ → Part → List ℕ → Option (List ℕ) → List Point
target_points n p word None = []
target_points n p word (Some t) = point n p (leading (named word n) t) ∷ []

abbrev pub rule_points : ℕ → List ℕ → Chain → List Point
rule_points i n no_items = []
rule_points i n (item d ds) =
    point n (Rule i) (leading (numbered (codes "rule") i n) (unwrap_or (text_at (codes "Next") d) []))
    ∷ rule_points (i + 1) n ds

abbrev pub retrier_points : ℕ → List ℕ → Chain → List Point
retrier_points i n no_items = []
retrier_points i n (item d ds) =
    point n (Retrier i) (numbered (codes "retrier") i n) ∷ retrier_points (i + 1) n ds

abbrev pub catcher_points : ℕ → List ℕ → Chain → List Point
catcher_points i n no_items = []
catcher_points i n (item d ds) =
    point n (Catcher i)
    (leading (numbered (codes "catcher") i n) (unwrap_or (text_at (codes "Next") d) []))
    ∷ catcher_points (i + 1) n ds

unfoldable pub state_points : List ℕ × Data → List Point
state_points s =
    (point s.0 State (named (codes "state") s.0) ∷ [])
    ++ (target_points s.0 Next (codes "transition") (text_at (codes "Next") s.1)
    ++ (rule_points 0 s.0 (items_at (codes "Choices") s.1)
    ++ (target_points s.0 Default (codes "Default of") (text_at (codes "Default") s.1)
    ++ (retrier_points 0 s.0 (items_at (codes "Retry") s.1)
    ++ catcher_points 0 s.0 (items_at (codes "Catch") s.1)))))

-- ---- a mock file

-- the answer of number i of a response, if its key is one
abbrev pub answer_point : ℕ → List ℕ → List ℕ → List Point
answer_point i r k = if is_some (span_in k) then point r (Answer i) (answering k r) ∷ [] else []

-- those of a response, counted from i
abbrev pub answer_points : ℕ → List ℕ → Members → List Point
answer_points i r [] = []
answer_points i r (m ∷ ms) = answer_point i r m.0 ++ answer_points (i + 1) r ms

abbrev pub response_points : List ℕ × Data → List Point
response_points m = answer_points 0 m.0 (member_list m.1)

-- ---- both

-- of a definition in canonical form, then of a mock file
abbrev pub all_points : Data → Data → List Point
all_points d mocks =
    flat_map state_points (all_states d)
    ++ flat_map response_points (member_list_at (codes "MockedResponses") mocks)
