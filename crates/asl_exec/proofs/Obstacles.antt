-- Steps may change places exactly where no reason is against it.
use Rattle.std.proofs.Common.{◌≡◌, ◌∙◌, ◌&&◌, ◌==◌, Bool, true, false, not, cond, List, [], ◌∷◌, refl, Some, None, Option}
use Rattle.std.specs.Prelude.{ℕ, is_none, is_some, option_map, nat_le, length}
use Rattle.asl_json.specs.Same.{bytes_eq}
use Rattle.asl_history.specs.Places.{is_prefix}
use Rattle.asl_run_branches.specs.Branches.{record_at}
use Rattle.asl_run_state.specs.declared.refusal.Refusal.{Refusal}
use Rattle.asl_run_state.specs.World.{World, is_over}
use Rattle.asl_run_input.specs.declared.setup.Setup.{Setup}
use Rattle.asl_run_input.specs.declared.step_at.StepAt.{StepAt}
use Rattle.asl_exec.specs.declared.obstacle.Obstacle.{Obstacle}
use Rattle.asl_exec.specs.declared.obstacle.Obstacle.TheVariants.{OnePlace, Above, TwoMoments, OneTask, NoRoom}
use Rattle.asl_exec.specs.Steps.{refusal_in, step}
use Rattle.asl_exec.specs.Exchanges.{has_failed, are_one_name, invoked_at, most_events, are_exchangeable, one_task, halt_by, first_among, obstacle_to}

-- ---- when each reason is none

in_line-none : (x y : Bool) (a b c : Obstacle) → is_none (cond x (cond y (Some a) (Some b)) (cond y (Some c) None)) ≡ (not x && not y)
in_line-none true true a b c = refl
in_line-none true false a b c = refl
in_line-none false true a b c = refl
in_line-none false false a b c = refl

if-none : (b : Bool) (o : Obstacle) → is_none (cond b None (Some o)) ≡ b
if-none true o = refl
if-none false o = refl

unless-none : (b : Bool) (o : Obstacle) → is_none (cond b (Some o) None) ≡ not b
unless-none true o = refl
unless-none false o = refl

refused-none : (f : Refusal → Obstacle) (o : Option Refusal) → is_none (option_map f o) ≡ is_none o
refused-none f None = refl
refused-none f (Some r) = refl

one_task-none : (n m : Option (List ℕ)) → is_none (one_task n m) ≡ not (are_one_name n m)
one_task-none None m = refl
one_task-none (Some n) None = refl
one_task-none (Some n) (Some m) = unless-none (bytes_eq n m) (OneTask n)

halt_by-none : (ends fails : Bool) (p : List ℕ) → is_none (halt_by ends fails p) ≡ (not ends && not fails)
halt_by-none true fails p = refl
halt_by-none false true p = refl
halt_by-none false false p = refl

-- ---- when all are

all-none : (a b c d e f g h : Option Obstacle) → is_none (first_among (a ∷ b ∷ c ∷ d ∷ e ∷ f ∷ g ∷ h ∷ [])) ≡ (is_none a && (is_none b && (is_none c && (is_none d && (is_none e && (is_none f && (is_none g && is_none h)))))))
all-none (Some a) b c d e f g h = refl
all-none None (Some b) c d e f g h = refl
all-none None None (Some c) d e f g h = refl
all-none None None None (Some d) e f g h = refl
all-none None None None None (Some e) f g h = refl
all-none None None None None None (Some f) g h = refl
all-none None None None None None None (Some g) h = refl
all-none None None None None None None None (Some h) = refl
all-none None None None None None None None None = refl

-- the same conditions, each step's together
by_step : (p m ra rb t ha hb r : Bool) → (p && (m && (ra && (rb && (t && (ha && (hb && r))))))) ≡ (p && (m && ((ra && ha) && ((rb && hb) && (t && r)))))
by_step false m ra rb t ha hb r = refl
by_step true false ra rb t ha hb r = refl
by_step true true false rb t ha hb r = refl
by_step true true true false t true hb r = refl
by_step true true true false t false hb r = refl
by_step true true true true false true true r = refl
by_step true true true true false true false r = refl
by_step true true true true false false hb r = refl
by_step true true true true true ha hb r = refl

all-by : (a b c d e f g h : Option Obstacle) (p m ra rb t ha hb r : Bool) → is_none a ≡ p → is_none b ≡ m → is_none c ≡ ra → is_none d ≡ rb → is_none e ≡ t → is_none f ≡ ha → is_none g ≡ hb → is_none h ≡ r → is_none (first_among (a ∷ b ∷ c ∷ d ∷ e ∷ f ∷ g ∷ h ∷ [])) ≡ (p && (m && ((ra && ha) && ((rb && hb) && (t && r)))))
all-by a b c d e f g h p m ra rb t ha hb r ea eb ec ed ee ef eg eh =
    all-none a b c d e f g h ∙ rw (ea, eb, ec, ed, ee, ef, eg, eh) (by_step p m ra rb t ha hb r)

-- steps without an obstacle are those that may change places
pub obstacle_to-none : (s : Setup) (w : World) (a b : StepAt) → is_none (obstacle_to s w a b) ≡ are_exchangeable s w a b
obstacle_to-none s w a b =
    all-by _ _ _ _ _ _ _ _ _ _ _ _ _ _ _ _
    (in_line-none (is_prefix a.place b.place) (is_prefix b.place a.place) (OnePlace a.place) (Above a.place b.place) (Above b.place a.place))
    (if-none (a.moment == b.moment) TwoMoments)
    (refused-none _ (refusal_in s w a.place a.moment))
    (refused-none _ (refusal_in s w b.place b.moment))
    (one_task-none (invoked_at s w a.place) (invoked_at s w b.place))
    (halt_by-none (is_over (step s w a.place a.moment).outcome) (has_failed (record_at a.place (step s w a.place a.moment).branches)) a.place)
    (halt_by-none (is_over (step s w b.place b.moment).outcome) (has_failed (record_at b.place (step s w b.place b.moment).branches)) b.place)
    (if-none (nat_le (length w.events) most_events) NoRoom)

pub is_none-is : (o : Option Obstacle) (b : Bool) → is_some o ≡ not b → b ≡ is_none o
is_none-is None true h = refl
is_none-is None false h = (cc)
is_none-is (Some x) true h = (cc)
is_none-is (Some x) false h = refl
