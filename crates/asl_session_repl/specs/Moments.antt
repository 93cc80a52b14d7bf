-- The moments and the steps that a line of the debugger may name.
use Rattle.std.specs.Prelude.{ℕ, ◌≡◌, ◌+◌, ◌*◌, ◌-◌, Bool, ◌==◌, ◌&&◌, ◌||◌, nat_lt, if◌then◌else◌, List, [], ◌∷◌, ◌++◌, length, take, drop, get_or, Option, Some, None}
use Rattle.std.specs.List.{list_all}
use Rattle.asl_time.specs.Timestamp.{IsTimestamp}
use Rattle.asl_history.specs.Places.{IsPlace, place_text}
use Rattle.asl_session.specs.Scripts.{IsPlaceText, is_digit, count_in}
use Rattle.asl_session_repl.specs.declared.timed.When.{When}
use Rattle.asl_session_repl.specs.declared.timed.When.TheVariants.{At, After, Since}
use Rattle.asl_session_repl.specs.declared.timed.Timed.{Timed}

-- ---- a span of time

-- the milliseconds of a unit: s, m, h, d
abbrev pub unit_millis : ℕ → Option ℕ
unit_millis c =
    if c == 115 then Some 1_000
    else (if c == 109 then Some 60_000
    else (if c == 104 then Some 3_600_000
    else (if c == 100 then Some 86_400_000 else None)))

-- a plus sign, a number and a unit, as +5s, spell so many milliseconds
pub record IsSpan (t : List ℕ) (millis : ℕ) : Type 0 where
  pub digits : List ℕ
  pub unit : ℕ
  pub count : ℕ
  pub size : ℕ
  pub text_is : t ≡ 43 ∷ (digits ++ unit ∷ [])
  pub count_is : count_in digits ≡ Some count
  pub size_is : unit_millis unit ≡ Some size
  pub millis_is : millis ≡ count * size

-- ---- a time since the start, as the tree tells it: 00:05.000, and from an hour on 1:00:05.000

abbrev pub is_clock_byte : ℕ → Bool
is_clock_byte c = (c == 58) || ((c == 46) || is_digit c)

abbrev pub below_60 : Option ℕ → Option ℕ
below_60 None = None
below_60 (Some n) = if nat_lt n 60 then Some n else None

-- so many milliseconds have hours, minutes, seconds and milliseconds
abbrev pub millis_of : Option ℕ → Option ℕ → Option ℕ → Option ℕ → Option ℕ
millis_of (Some h) (Some m) (Some s) (Some n) = Some (h * 3_600_000 + m * 60_000 + s * 1_000 + n)
millis_of h m s n = None

-- hours and a colon, or nothing
abbrev pub hours_in : List ℕ → Option ℕ
hours_in t =
    if length t == 0 then Some 0
    else (if get_or t (length t - 1) 0 == 58 then count_in (take (length t - 1) t) else None)

-- two digits, a colon, two digits, a point and three digits, behind the hours
abbrev pub clock_by : List ℕ → List ℕ → Option ℕ
clock_by front t =
    if (length t == 9) && (get_or t 2 0 == 58) && (get_or t 5 0 == 46)
    then millis_of (hours_in front) (below_60 (count_in (take 2 t)))
    (below_60 (count_in (take 2 (drop 3 t)))) (count_in (drop 6 t))
    else None

abbrev pub clock_in : List ℕ → Option ℕ
clock_in t =
    if list_all is_clock_byte t
    then clock_by (take (length t - 9) t) (drop (length t - 9) t) else None

-- ---- a moment

-- a timestamp; a span, which begins at the last moment; or a time since the start
abbrev pub IsWhen : List ℕ → When → Type 0
IsWhen t (At m) = IsTimestamp t m
IsWhen t (After n) = IsSpan t n
IsWhen t (Since n) = clock_in t ≡ Some n

-- ---- a step

-- its place, a space and its moment
pub record IsTimed (t : List ℕ) (a : Timed) : Type 0 where
  pub place_in : IsPlace a.place
  pub moment : List ℕ
  pub moment_is : IsWhen moment a.when
  pub text_is : t ≡ place_text a.place ++ 32 ∷ moment

-- the same; or its place alone
abbrev pub IsStepText : List ℕ → List ℕ → Option When → Type 0
IsStepText t p None = IsPlaceText t p
IsStepText t p (Some w) = IsTimed t (record { place = p; when = w })

-- two steps, a space between
pub record AreSteps (t : List ℕ) (a b : Timed) : Type 0 where
  pub one : List ℕ
  pub other : List ℕ
  pub text_is : t ≡ one ++ 32 ∷ other
  pub one_is : IsTimed one a
  pub other_is : IsTimed other b
