-- What the invocations of a Task came to, by the answers of a case.
use Rattle.std.specs.Prelude.{ℕ, zero, suc, Bool, true, false, ◌||◌, List, Option, Some, if◌then◌else◌}
use Rattle.asl_mock.specs.Answers.{Case, answer_to}
use Rattle.asl_mock.specs.declared.response.Answer.{Answer}
use Rattle.asl_mock.specs.declared.response.Answer.TheVariants.{Returns}

abbrev pub is_return : Option Answer → Bool
is_return (Some (Returns v)) = true
is_return _ = false

-- the invocation of number k, counted from 0, of the Task of this name returns
abbrev pub returns : Case → List ℕ → ℕ → Bool
returns c name k = is_return (answer_to c name k)

-- how many of n invocations do
abbrev pub returned : Case → List ℕ → ℕ → ℕ
returned c name zero = 0
returned c name (suc k) = if returns c name k then suc (returned c name k) else returned c name k

-- p is so of a number below n
abbrev pub some_below : (ℕ → Bool) → ℕ → Bool
some_below p zero = false
some_below p (suc k) = some_below p k || p k
