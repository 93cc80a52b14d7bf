-- Which answers the invocations of states get behind errors that are put in.
use Rattle.std.specs.Prelude.{ℕ, ◌-◌, List, Bool, ◌||◌, nat_eq, nat_lt, Option, Some, if◌then◌else◌}
use Rattle.std.specs.List.{fold}
use Rattle.asl_json.specs.Same.{bytes_eq}
use Rattle.asl_mock.specs.declared.response.Answer.{Answer}
use Rattle.asl_mock.specs.declared.response.Answer.TheVariants.{Throws}
use Rattle.asl_error_plans.specs.declared.injected.InjectedError.{InjectedError}

-- the answers of a state by the number of its invocation
abbrev pub Answers : Type 0
Answers = ℕ → Option Answer

-- with an error at a number: what stood there, and behind, comes one later, or never
abbrev pub answer_put : ℕ → Bool → Answer → Answers → Answers
answer_put n for_good error answers k =
    if nat_lt k n then answers k
    else if nat_eq k n || for_good then Some error
    else answers (k - 1)

-- what an invocation ends in
abbrev pub thrown : InjectedError → Answer
thrown e = Throws e.error e.cause

-- the answers of all states by their names, with an error put in
abbrev pub under_error : (List ℕ → Answers) → InjectedError → List ℕ → Answers
under_error answers e state =
    if bytes_eq state e.state
    then answer_put e.number e.for_good (thrown e) (answers state)
    else answers state

-- with each error of a plan, the last one outermost
abbrev pub under_plan : List InjectedError → (List ℕ → Answers) → List ℕ → Answers
under_plan plan answers = fold under_error answers plan
