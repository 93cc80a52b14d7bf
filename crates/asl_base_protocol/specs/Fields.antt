-- What header fields say (Language Server Protocol 3.17, "Header Part"): each has a name and behind a colon a value. The structure is that of HTTP, where
-- the case of a name's letters doesn't count and blanks may stand before a value (RFC 9110, sections 5.1 and 5.5).
use Rattle.std.specs.Prelude.{ℕ, ◌+◌, ◌-◌, ◌*◌, ◌==◌, ◌||◌, Bool, cond, nat_le, List, [], ◌∷◌, length, take, drop, codes, Option, Some, None}
use Rattle.std.specs.List.{position}
use Rattle.std.specs.Char.{is_ascii_digit}
use Rattle.std.specs.Str.{str_eq_ignore_ascii_case}
use Rattle.asl_base_protocol.specs.declared.said.Said.{Said}
use Rattle.asl_base_protocol.specs.declared.said.Said.TheVariants.{Nothing, Length, Fault}

-- a space or a tab
abbrev pub is_blank : ℕ → Bool
is_blank c = (c == 32) || (c == 9)

abbrev pub behind_blanks : List ℕ → List ℕ
behind_blanks [] = []
behind_blanks (c ∷ cs) = cond (is_blank c) (behind_blanks cs) (c ∷ cs)

-- digits behind a number
abbrev pub number_on : ℕ → List ℕ → Option ℕ
number_on n [] = Some n
number_on n (c ∷ cs) = cond (is_ascii_digit c) (number_on (10 * n + (c - 48)) cs) None

-- a number of one to nine digits
abbrev pub length_in : List ℕ → Option ℕ
length_in v = cond ((length v == 0) || nat_le 10 (length v)) None (number_on 0 v)

abbrev pub is_content_length : List ℕ → Bool
is_content_length name = str_eq_ignore_ascii_case name (codes "Content-Length")

abbrev pub is_colon : ℕ → Bool
is_colon c = c == 58

-- one more field that says the length: it is said once
abbrev pub said_with : Said → Option ℕ → Said
said_with Nothing (Some n) = Length n
said_with s o = Fault

-- one more line, in which the first colon stands there
abbrev pub said_at : Said → List ℕ → Option ℕ → Said
said_at s l None = Fault
said_at s l (Some i) =
    cond (is_content_length (take i l)) (said_with s (length_in (behind_blanks (drop (i + 1) l)))) s

abbrev pub said_by : Said → List ℕ → Said
said_by s l = said_at s l (position is_colon l)

abbrev pub said_from : Said → List (List ℕ) → Said
said_from s [] = s
said_from s (l ∷ ls) = said_from (said_by s l) ls

-- what these lines say
abbrev pub said : List (List ℕ) → Said
said ls = said_from Nothing ls

-- no length
abbrev pub IsNoLength : Said → Type 0
IsNoLength Nothing = Unit {0}
IsNoLength (Length n) = ⊥
IsNoLength Fault = Unit {0}
