-- Conditions that are looked up by their texts.
use Rattle.std.specs.Prelude.{ℕ, ◌+◌, List, [], ◌∷◌, ◌++◌, Option, Some, None, if◌then◌else◌}
use Rattle.std.specs.Str.{bytes_eq}
use Rattle.asl_json_data.specs.Compact.{compact, quoted}
use Rattle.asl_json_data.specs.Data.{Pairs, no_members, member, pairs}
use Rattle.asl_json_data.specs.Distinct.{Members}

-- each key and its value, as they are written on one line
abbrev pub text_in : Pairs → List ℕ
text_in no_members = []
text_in (member k d ms) = (quoted k ++ compact d) ++ text_in ms

abbrev pub text_of : Members → List ℕ
text_of c = text_in (pairs c)

-- the number of the first of these conditions, counted from n, that has this text
abbrev pub first_with_text : List ℕ → ℕ → List Members → Option ℕ
first_with_text t n [] = None
first_with_text t n (c ∷ cs) = if bytes_eq t (text_of c) then Some n else first_with_text t (n + 1) cs

-- the number that is known, or else that of one to come
abbrev pub or_later : Option ℕ → Option ℕ → Option ℕ
or_later (Some n) later = Some n
or_later None later = later
