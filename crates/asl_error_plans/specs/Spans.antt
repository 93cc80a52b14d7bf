-- The numbers of answers before and behind an error that is put in.
use Rattle.std.specs.Prelude.{ℕ, ◌+◌, ◌-◌, List, [], ◌∷◌, ◌++◌, Bool, ◌||◌, nat_eq, nat_lt, Option, Some, None, if◌then◌else◌}
use Rattle.std.specs.List.{flat_map}
use Rattle.asl_mock.specs.declared.key.Span.{Span}
use Rattle.asl_mock.specs.declared.response.Answer.{Answer}
use Rattle.asl_mock.specs.declared.response.Ranged.{Ranged}

-- those of a span below a number
abbrev pub before : ℕ → Span → Option Span
before n s =
    if nat_lt s.low n
    then Some (record { low = s.low; high = if nat_lt s.high n then s.high else n - 1 })
    else None

abbrev pub first_behind : ℕ → Span → ℕ
first_behind n s = if nat_lt s.low n then n else s.low

-- the others, each one later
abbrev pub behind : ℕ → Span → Option Span
behind n s =
    if nat_lt s.high n || nat_eq (first_behind n s) 4294967295 then None
    else Some (record {
      low = first_behind n s + 1;
      high = if nat_eq s.high 4294967295 then 4294967295 else s.high + 1;
    })

-- the numbers that end in an error
abbrev pub error_span : ℕ → Bool → Span
error_span n for_good = record { low = n; high = if for_good then 4294967295 else n }

-- an answer for some numbers
abbrev pub part : Answer → Option Span → List Ranged
part a None = []
part a (Some s) = record { span = s; answer = a } ∷ []

abbrev pub earlier : ℕ → Ranged → List Ranged
earlier n r = part r.answer (before n r.span)

abbrev pub later : ℕ → Ranged → List Ranged
later n r = part r.answer (behind n r.span)

-- all answers with an error before that of a number
abbrev pub put_in : ℕ → Bool → Answer → List Ranged → List Ranged
put_in n for_good error rs =
    flat_map (earlier n) rs
    ++ record { span = error_span n for_good; answer = error }
    ∷ (if for_good then [] else flat_map (later n) rs)
