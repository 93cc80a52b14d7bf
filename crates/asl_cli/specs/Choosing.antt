-- Which tests of a suite a word means, and how tests are listed.
use Rattle.std.specs.Prelude.{ℕ, ◌==◌, ◌&&◌, ◌||◌, ◌+◌, Bool, true, false, List, [], ◌∷◌, ◌++◌, Option, Some, None, if◌then◌else◌}
use Rattle.std.specs.Borrow.{Bor}
use Rattle.std.specs.List.{filter, flat_map}
use Rattle.std.specs.Fmt.{decimal}
use Rattle.asl_text.specs.Shown.{shown}
use Rattle.asl_json_data.specs.Compact.{quoted}
use Rattle.asl_suite_file.specs.Shards.{every, every_after}
use Rattle.asl_suite_file.specs.declared.expectation.Draft.{Draft}

abbrev pub begins : List ℕ → List ℕ → Bool
begins [] text = true
begins (c ∷ word) [] = false
begins (c ∷ word) (d ∷ text) = c == d && begins word text

-- a word stands somewhere in a text
abbrev pub has : List ℕ → List ℕ → Bool
has word [] = begins word []
has word (c ∷ text) = begins word (c ∷ text) || has word text

abbrev pub is_in_name : List ℕ → Option (List ℕ) → Bool
is_in_name word None = false
is_in_name word (Some name) = has word name

-- it stands in the machine and the case, as `MACHINE#CASE`, or in the name
abbrev pub is_meant : List ℕ → Draft → Bool
is_meant word t = has word (t.machine ++ 35 ∷ t.case) || is_in_name word t.name

-- those of which that holds; all where there is no word
abbrev pub meant : Option (Bor (List ℕ)) → List Draft → List Draft
meant None tests = tests
meant (Some w) tests = filter (is_meant w.now) tests

-- ---- the list of the tests that would be run

-- each with its number in the file
abbrev pub numbered : ℕ → List Draft → List (ℕ × Draft)
numbered number [] = []
numbered number (t ∷ tests) = (number, t) ∷ numbered (number + 1) tests

abbrev pub is_meant_by : Option (Bor (List ℕ)) → Draft → Bool
is_meant_by None t = true
is_meant_by (Some w) t = is_meant w.now t

-- the name as a JSON text behind a space, if there is one
abbrev pub listed_name : Option (List ℕ) → List ℕ
listed_name None = []
listed_name (Some t) = 32 ∷ quoted t

-- `MACHINE#CASE`, of which every character shows
abbrev pub shown_case : Draft → List ℕ
shown_case t = shown t.machine ++ 35 ∷ shown t.case

-- the number, the machine and the case, and the name
abbrev pub listed : ℕ × Draft → List ℕ
listed x = decimal x.0 ++ 32 ∷ (shown_case x.1 ++ (listed_name x.1.name ++ 10 ∷ []))

abbrev pub maybe_listed : Option (Bor (List ℕ)) → ℕ × Draft → List ℕ
maybe_listed word x = if is_meant_by word x.1 then listed x else []

-- the lines of those that a shard has once so many are left out
abbrev pub lines : Option (Bor (List ℕ)) → ℕ → ℕ → List (ℕ × Draft) → List ℕ
lines word skipped apart xs = flat_map (maybe_listed word) (every_after skipped apart xs)

-- a line for each test of these numbers that the word means
abbrev pub list_text : Option (Bor (List ℕ)) → ℕ → ℕ → List Draft → List ℕ
list_text word first apart tests = flat_map (maybe_listed word) (every first apart (numbered 1 tests))
