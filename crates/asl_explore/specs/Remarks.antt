-- What is remarkable in the worlds that a search met, without their histories.
use Rattle.std.specs.Prelude.{ℕ, ◌≡◌, ◌≤◌, ◌<◌, ◌⊎◌, ◌+◌, ◌++◌, ◌&&◌, ◌||◌, not, Bool, true, false, List, [], ◌∷◌, map, max, nat_eq, nat_le, is_none, is_some, if◌then◌else◌, Option, Some, None}
use Rattle.std.specs.List.{Contains, count_by, filter, list_all, list_any}
use Rattle.asl_step.specs.declared.record.Record.{Record}
use Rattle.asl_step.specs.Records.{beginning_with, entering_with, is_finished}
use Rattle.asl_run_branches.specs.Branches.{Branch, record_at, is_stopped}
use Rattle.asl_run_state.specs.World.{World, count_of, is_late}
use Rattle.asl_run_input.specs.declared.setup.Setup.{Setup}
use Rattle.asl_exec.specs.Steps.{number_in, object_in, invokes_by, refusal_in, step}
use Rattle.asl_mock.specs.Answers.{Case, answer_to}
use Rattle.asl_explore.specs.Orders.{due}
use Rattle.asl_explore.specs.Settled.{last_answer}
use Rattle.asl_explore.specs.declared.answers.Run.{Run}
use Rattle.asl_explore.specs.declared.orders.Orders.{Orders}
use Rattle.asl_explore.specs.declared.orders.Orders.TheVariants.{Every, Prompt}
use Rattle.asl_explore.specs.declared.remarks.Answers.{Answers}
use Rattle.asl_explore.specs.declared.remarks.Remarks.{Remarks}
use Rattle.asl_explore.specs.declared.states.Stated.{Stated}

-- ---- which branch steps next

-- a step at a place isn't refused at its earliest moment
abbrev pub may_step : Setup → World → List ℕ → Bool
may_step s w p = is_none (refusal_in s w p (due w p))

-- a step at this moment is one that is tried: where no branch is to be late, none may step earlier
abbrev pub is_tried_at : Orders → Setup → World → ℕ → Bool
is_tried_at Every s w t = true
is_tried_at Prompt s w t =
    list_all (λ (b : Branch). not (may_step s w b.place) || nat_le t (due w b.place)) w.branches

-- the step of a branch is tried, and the time of the execution isn't over then
abbrev pub goes_next : Orders → Setup → World → List ℕ → Bool
goes_next o s w p =
    is_tried_at o s w (due w p) && (may_step s w p && not (is_late (due w p) w.deadline))

-- ---- what it does in a state

-- a branch is there, and this holds of what it is doing
abbrev pub is_doing : (Record → Bool) → Option Record → Bool
is_doing f None = false
is_doing f (Some r) = f r

abbrev pub is_number : ℕ → Option ℕ → Bool
is_number n None = false
is_number n (Some m) = nat_eq n m

-- a branch that does this is in the state of a number
abbrev pub is_in : Setup → ℕ → Record → Bool
is_in s n r = is_number n (number_in s.machine r)

-- it has entered its state, and hasn't left it
abbrev pub is_inside : Record → Bool
is_inside r = not (is_some (entering_with r)) && not (is_finished r)

-- it is about to ask for an answer: it enters a Task, or enters it again to be retried
abbrev pub is_asking : Setup → Record → Bool
is_asking s r = is_some (beginning_with r) && invokes_by (object_in s.machine r)

-- the branch at a place enters the state of a number next
abbrev pub enters : Orders → Setup → World → ℕ → List ℕ → Bool
enters o s w n p =
    is_doing (λ r. is_in s n r && (goes_next o s w p && is_some (entering_with r)))
    (record_at p w.branches)

-- it asks for an answer to this state, a Task, next
abbrev pub asks : Orders → Setup → World → ℕ → List ℕ → Bool
asks o s w n p =
    is_doing (λ r. is_in s n r && (goes_next o s w p && is_asking s r)) (record_at p w.branches)

-- it is stopped inside this state
abbrev pub stops : Setup → World → ℕ → List ℕ → Bool
stops s w n p =
    is_doing (λ r. is_in s n r && (is_stopped p w.branches && is_inside r)) (record_at p w.branches)

-- ---- in these worlds

-- a branch enters the state of a number
abbrev pub enters_in : Orders → Setup → ℕ → World → Bool
enters_in o s n w = list_any (λ (b : Branch). enters o s w n b.place) w.branches

abbrev pub is_entered : Orders → Setup → List World → ℕ → Bool
is_entered o s ws n = list_any (enters_in o s n) ws

-- a branch is stopped inside it
abbrev pub stops_in : Setup → ℕ → World → Bool
stops_in s n w = list_any (λ (b : Branch). stops s w n b.place) w.branches

abbrev pub is_cut_off : Setup → List World → ℕ → Bool
is_cut_off s ws n = list_any (stops_in s n) ws

-- so many branches ask for an answer to it at once
abbrev pub askers : Orders → Setup → ℕ → World → ℕ
askers o s n w = count_by (λ (b : Branch). asks o s w n b.place) w.branches

-- how often it was invoked behind a step
abbrev pub count_behind : Setup → World → ℕ → List ℕ → ℕ
count_behind s w n p = count_of (step s w p (due w p)).counts (Some n)

-- the same, where the step asks for an answer to it
abbrev pub asked_by : Orders → Setup → ℕ → World → Branch → ℕ
asked_by o s n w b = if asks o s w n b.place then count_behind s w n b.place else 0

abbrev pub greatest : List ℕ → ℕ
greatest [] = 0
greatest (n ∷ ns) = max n (greatest ns)

abbrev pub asked_in : Orders → Setup → ℕ → World → ℕ
asked_in o s n w = greatest (map (asked_by o s n w) w.branches)

-- it is invoked so often at most: the answers of numbers below this are asked for
abbrev pub most_asked : Orders → Setup → List World → ℕ → ℕ
most_asked o s ws n = greatest (map (asked_in o s n) ws)

-- ---- answers that are equal

-- the answers to the state of this name are equal from one number on and below another
abbrev pub AreOneBelow : Case → List ℕ → ℕ → ℕ → Type 0
AreOneBelow c name from below =
    (i : ℕ) → from ≤ i → i < below → i ≤ last_answer → answer_to c name i ≡ answer_to c name from

-- numbers from a low one to a high one: their answers are equal, or none has one; and the next
-- number has another answer
pub record IsRun (c : Case) (name : List ℕ) (r : Run) : Type 0 where
  pub order : r.low ≤ r.high
  pub within : r.high ≤ last_answer
  pub one : (i : ℕ) → r.low ≤ i → i ≤ r.high → answer_to c name i ≡ answer_to c name r.low
  pub ends : r.high < last_answer → answer_to c name (r.high + 1) ≡ answer_to c name r.low → ⊥
  pub is_answer : r.is_answer ≡ is_some (answer_to c name r.low)

-- such runs, one after another, from one number on and below another
abbrev pub AreRuns : Case → List ℕ → ℕ → ℕ → List Run → Type 0
AreRuns c name from below [] = from ≡ below
AreRuns c name from below (r ∷ rs) =
    (r.low ≡ from) × (IsRun c name r × AreRuns c name (r.high + 1) below rs)

-- ---- what is told

-- of each of these something is told, one after another
abbrev pub AreTold : {S A : Type 0} → (S → List A → Type 0) → List S → List A → Type 0
AreTold P [] xs = xs ≡ []
AreTold {A = A} P (t ∷ ts) xs =
    (ys : List A) × ((zs : List A) × ((xs ≡ ys ++ zs) × (P t ys × AreTold P ts zs)))

-- of a state its name, where this holds of it; else nothing
abbrev pub IsNamed : (Stated → Type 0) → Stated → List (List ℕ) → Type 0
IsNamed P t names = (P t × (names ≡ t.name ∷ [])) ⊎ ((P t → ⊥) × (names ≡ []))

-- two branches of a world are about to ask for an answer to the state, and not all answers from
-- there on are equal that are asked for
pub record IsShared (o : Orders) (s : Setup) (ws : List World) (t : Stated) : Type 0 where
  pub world : World
  pub met : Contains ws world
  pub two : 2 ≤ askers o s t.number world
  pub unlike :
      AreOneBelow s.case t.name (count_of world.counts (Some t.number))
      (most_asked o s ws t.number)
      → ⊥

-- nothing was left out, and no branch enters the state
abbrev pub IsUnentered : Bool → Orders → Setup → List World → Stated → Type 0
IsUnentered complete o s ws t = (complete ≡ true) × (is_entered o s ws t.number ≡ false)

-- nothing was left out, and the state is a Task that a branch enters
pub record IsAnswered (complete : Bool) (o : Orders) (s : Setup) (ws : List World)
    (t : Stated) : Type 0 where
  pub complete_is : complete ≡ true
  pub task : t.is_task ≡ true
  pub entered : is_entered o s ws t.number ≡ true

abbrev pub answers_of : List ℕ → Run → Answers
answers_of name r = record { task = name; low = r.low; high = r.high }

-- the runs of answers that begin at this number or behind it
abbrev pub answers_from : List ℕ → ℕ → List Run → List Answers
answers_from name number rs =
    map (answers_of name) (filter (λ (r : Run). r.is_answer && nat_le number r.low) rs)

-- the runs of the answers to a state of which none is asked for
pub record AreUnasked (o : Orders) (s : Setup) (ws : List World) (t : Stated)
    (xs : List Answers) : Type 0 where
  pub runs : List Run
  pub are : AreRuns s.case t.name 0 (last_answer + 1) runs
  pub told : xs ≡ answers_from t.name (most_asked o s ws t.number) runs

abbrev pub AreUnanswered :
    Bool → Orders → Setup → List World → Stated → List Answers → Type 0
AreUnanswered complete o s ws t xs =
    (IsAnswered complete o s ws t × AreUnasked o s ws t xs)
    ⊎ ((IsAnswered complete o s ws t → ⊥) × (xs ≡ []))

-- a branch is stopped inside the state
abbrev pub IsCutOff : Setup → List World → Stated → Type 0
IsCutOff s ws t = is_cut_off s ws t.number ≡ true

-- what is told of these states, by these worlds, where nothing was left out or something was
pub record AreRemarks (complete : Bool) (o : Orders) (s : Setup) (ws : List World)
    (ts : List Stated) (r : Remarks) : Type 0 where
  pub shared : AreTold (IsNamed (IsShared o s ws)) ts r.shared.items
  pub unentered : AreTold (IsNamed (IsUnentered complete o s ws)) ts r.unentered.items
  pub unanswered : AreTold (AreUnanswered complete o s ws) ts r.unanswered.items
  pub cut_off : AreTold (IsNamed (IsCutOff s ws)) ts r.cut_off.items
