-- What becomes of an error, from the canonical values of Retry and Catch. (Amazon States Language,
-- "Retrying after error",
-- "Fallback states".)
use Rattle.std.specs.Prelude.{ℕ, suc, ◌+◌, ◌*◌, min, List, get_or, Option, None, Some, if◌then◌else◌, nat_lt}
use Rattle.asl_json_data.specs.Data.{Data, list, Chain, no_items, item}
use Rattle.asl_time.specs.Delay.{cap_seconds, delay_after}
use Rattle.asl_def_fields.specs.Retries.{interval_of, attempts_of, rate_of, delay_limit_of}
use Rattle.asl_handle.specs.Names.{is_for}

pub data Handling : Type 0 where
  -- the state is retried by the retrier of this number, at this moment
  again : ℕ → ℕ → Handling
  -- this catcher says where the execution goes on
  caught : Data → Handling
  -- the branch fails
  unhandled : Handling

-- where the state is retried, of the number of the retrier
abbrev pub OnAgain : Handling → (ℕ → Type 0) → Type 0
OnAgain (again i until) P = P i
OnAgain (caught c) P = Unit {0}
OnAgain unhandled P = Unit {0}

-- the retriers or catchers; none where the member is absent
abbrev pub handlers_in : Option Data → Chain
handlers_in (Some (list ds)) = ds
handlers_in o = no_items

-- the first that is for the error, with its number, counted from i
abbrev pub first_for : List ℕ → ℕ → Chain → Option (ℕ × Data)
first_for error i no_items = None
first_for error i (item d ds) = if is_for d error then Some (i, d) else first_for error (suc i) ds

-- how often a retrier was used; never, where nothing is said of it
abbrev pub used : List ℕ → ℕ → ℕ
used uses i = get_or uses i 0

-- the milliseconds from an error to its retry, behind so many others
abbrev pub wait_after : Data → ℕ → ℕ
wait_after r n =
    delay_after (1000 * interval_of r) (rate_of r) (1000 * cap_seconds (delay_limit_of r)) n

-- 9999-12-31T23:59:59.999Z
abbrev pub last_moment : ℕ
last_moment = 253_402_300_799_999

-- so many milliseconds later, or the last moment
abbrev pub delayed : ℕ → ℕ → ℕ
delayed now wait = min (now + wait) last_moment

-- the first retrier that is for the error decides, where it isn't used up
abbrev pub retried : List ℕ → ℕ → Option (ℕ × Data) → Handling → Handling
retried uses now None otherwise = otherwise
retried uses now (Some x) otherwise =
    if nat_lt (used uses x.0) (attempts_of x.1)
    then again x.0 (delayed now (wait_after x.1 (used uses x.0))) else otherwise

-- the first catcher that is for it
abbrev pub caught_by : Option (ℕ × Data) → Handling
caught_by None = unhandled
caught_by (Some x) = caught x.1

-- of an error at a moment, by how often each retrier was used
abbrev pub decision : Option Data → Option Data → List ℕ → List ℕ → ℕ → Handling
decision retry catch error uses now =
    retried uses now (first_for error 0 (handlers_in retry))
    (caught_by (first_for error 0 (handlers_in catch)))
