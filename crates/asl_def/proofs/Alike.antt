-- Comparing two tables state by state.
use Rattle.std.proofs.Common.{◌≡◌, ◌≢◌, ◌∙◌, ◌≤◌, ◌<◌, ◌+◌, ℕ, zero, suc, Bool, true, false, List, [], ◌∷◌, refl, sym, ap, length, take, drop, add-one, zero-add, arith}
use Rattle.std.specs.Prelude.{◌&&◌, ◌↔◌, IsTrue, Option, Some, None, slice_get}
use Rattle.asl_def.specs.private.EqualLaws.{equal_decides}
use Rattle.std.specs.Option.{option_eq}
use Rattle.asl_json_data.specs.Data.{Data, pairs}
use Rattle.asl_json.specs.Same.{equal, equal_members, bytes_eq}
use Rattle.asl_json.proofs.Equality.{unequal_members}
use Rattle.asl_def_schema.specs.Canon.{Named}
use Rattle.asl_def_fields.specs.declared.processor.ProcessorConfig.{ProcessorConfig}
use Rattle.asl_def_fields.specs.declared.processor.Mode.{Mode}
use Rattle.asl_def_fields.specs.declared.processor.Mode.TheVariants.{Inline}
use Rattle.asl_def_fields.specs.Shown.{config_shown}
use Rattle.asl_def_fields.specs.contracts.processor.ProcessorConfigPartialEq.TheImpl as configs
use Rattle.asl_def_fields.proofs.Alike.{alike, shows, last}
use Rattle.asl_def_states.specs.declared.parallel.Parallel.{Parallel as ParallelState}
use Rattle.asl_def_states.specs.declared.map.Map.{Map as MapState}
use Rattle.asl_def_states.specs.declared.state.State.{State}
use Rattle.asl_def_states.specs.declared.state.State.TheVariants.{Task, Pass, Choice, Wait, Parallel, Map, Succeed, Fail}
use Rattle.asl_def_states.specs.Show.{state_of}
use Rattle.asl_def_states.specs.Equal.{state_same, machines_equal, branches_equal, machine_equal}
use Rattle.asl_def_states.proofs.Alike.{state_alike}
use Rattle.asl_def_shared.specs.declared.body.Body.{Body}
use Rattle.asl_def_shared.specs.declared.heading.Heading.{Heading}
use Rattle.asl_def_shared.specs.Bodies.{processor_members, processor_of, machine_members, machine_of}
use Rattle.asl_def_shared.proofs.Alike.{texts, numbers}

-- the states from one number on, so many
abbrev pub rows : ℕ → ℕ → List Named → List Named
rows first count t = take count (drop first t)

abbrev pub rest_equal : ℕ → List Named → List Named → Bool
rest_equal i xs ys = equal_members (pairs (drop i xs)) (pairs (drop i ys))

length_take : (n : ℕ) (t : List Named) → n ≤ length t → length (take n t) ≡ n
length_take zero t h = refl
length_take (suc n) [] h = absurd (omega arith)
length_take (suc n) (x ∷ t) h = ap suc (length_take n t (omega arith))

length_drop : (n m : ℕ) (t : List Named) → n + m ≤ length t → m ≤ length (drop n t)
length_drop zero m t h = omega (arith, h)
length_drop (suc n) m [] h = absurd (omega (arith, h))
length_drop (suc n) m (x ∷ t) h = length_drop n m t (omega (arith, h))

length_rows : (first count : ℕ) (t : List Named) → first + count ≤ length t → length (rows first count t) ≡ count
length_rows first count t h = length_take count (drop first t) (length_drop first count t h)

pub other_count : (t u : List Named) (first count other_first other_count : ℕ) → first + count ≤ length t → other_first + other_count ≤ length u → count ≢ other_count → false ≡ equal_members (pairs (rows first count t)) (pairs (rows other_first other_count u))
other_count t u f n g m h k ne = unequal_members (rows f n t) (rows g m u) (λ e. ne (sym (length_rows f n t h) ∙ e ∙ length_rows g m u k))

taken : (n i : ℕ) (t : List Named) → i < n → slice_get (take n t) i ≡ slice_get t i
taken zero i t lt = absurd (omega (arith, lt))
taken (suc n) i [] lt = refl
taken (suc n) zero (x ∷ t) lt = refl
taken (suc n) (suc i) (x ∷ t) lt = taken n i t (omega (arith, lt))

dropped : (n i : ℕ) (t : List Named) → slice_get (drop n t) i ≡ slice_get t (n + i)
dropped zero i t = rw zero-add refl
dropped (suc n) i [] = refl
dropped (suc n) i (x ∷ t) = let e : suc n + i ≡ suc (n + i) = omega arith in rw e (dropped n i t)

from_here : (t : List Named) (i : ℕ) (x : Named) → slice_get t i ≡ Some x → drop i t ≡ x ∷ drop (suc i) t
from_here [] i x e = absurd cc
from_here (y ∷ t) zero x e = let same : y ≡ x = cc in ap (λ (z : Named). z ∷ t) same
from_here (y ∷ t) (suc i) x e = from_here t i x e

row_at : (t : List Named) (first count i : ℕ) (x : Named) → i < count → slice_get t (first + i) ≡ Some x → drop i (rows first count t) ≡ x ∷ drop (suc i) (rows first count t)
row_at t first count i x lt e = from_here (rows first count t) i x (taken count i (drop first t) lt ∙ dropped first i t ∙ e)

module _ (t u : List Named) (f g n m i : ℕ) (x y : Named) (all : Bool) (lx : i < n) (ly : i < m) (ex : slice_get t (f + i) ≡ Some x) (ey : slice_get u (g + i) ≡ Some y) (is : rest_equal i (rows f n t) (rows g m u) ≡ all) where
  step : rest_equal i (rows f n t) (rows g m u) ≡ (bytes_eq x.0 y.0 && (equal x.1 y.1 && rest_equal (i + 1) (rows f n t) (rows g m u)))
  step = rw (add-one i) (λ j. equal_members (pairs (row_at t f n i x lx ex j)) (pairs (row_at u g m i y ly ey j)))

  pub other_name : bytes_eq x.0 y.0 ≡ false → false ≡ all
  other_name e = sym (step ∙ ap (λ b. b && (equal x.1 y.1 && rest_equal (i + 1) (rows f n t) (rows g m u))) e) ∙ is

  and_false : (a b : Bool) → b ≡ false → (a && b) ≡ false
  and_false true b e = e
  and_false false b e = refl

  pub other_state : equal x.1 y.1 ≡ false → false ≡ all
  other_state e = sym (step ∙ and_false (bytes_eq x.0 y.0) _ (ap (λ b. b && rest_equal (i + 1) (rows f n t) (rows g m u)) e)) ∙ is

  pub goes_on : bytes_eq x.0 y.0 ≡ true → equal x.1 y.1 ≡ true → rest_equal (i + 1) (rows f n t) (rows g m u) ≡ all
  goes_on e h = sym (step ∙ (λ j. e j && (h j && rest_equal (i + 1) (rows f n t) (rows g m u)))) ∙ is

nothing : (i : ℕ) → drop {A = Named} i [] ≡ []
nothing zero = refl
nothing (suc i) = refl

past : (xs : List Named) (i : ℕ) → length xs ≤ i → drop i xs ≡ []
past [] i lt = nothing i
past (x ∷ xs) zero lt = absurd (omega (arith, lt))
past (x ∷ xs) (suc i) lt = past xs i (omega (arith, lt))

pub over : (t u : List Named) (f g n m i : ℕ) → f + n ≤ length t → g + m ≤ length u → n ≤ i → m ≤ i → rest_equal i (rows f n t) (rows g m u) ≡ true
over t u f g n m i h k ln lm =
    λ j. equal_members (pairs (past (rows f n t) i (omega (arith, ln, length_rows f n t h)) j)) (pairs (past (rows g m u) i (omega (arith, lm, length_rows g m u k)) j))

-- ---- states

pub not_same : (t u : List Named) (x y : State) → state_same x y ≡ false → false ≡ equal (state_of t x) (state_of u y)
not_same t u x y e = sym (state_alike t u x y ∙ ap (λ b. b && machines_equal t x u y) e)

pub same_parallel : (t u : List Named) (x y : State) (p q : ParallelState) → x ≡ Parallel p → y ≡ Parallel q → state_same x y ≡ true → branches_equal t p u q ≡ equal (state_of t x) (state_of u y)
same_parallel t u x y p q ex ey e = sym (state_alike t u x y ∙ (λ i. e i && machines_equal t (ex i) u (ey i)))

pub same_map : (t u : List Named) (x y : State) (p q : MapState) → x ≡ Map p → y ≡ Map q → state_same x y ≡ true → machine_equal t p u q ≡ equal (state_of t x) (state_of u y)
same_map t u x y p q ex ey e = sym (state_alike t u x y ∙ (λ i. e i && machines_equal t (ex i) u (ey i)))

no_machines : (t u : List Named) (x y : State) → ((p : ParallelState) → x ≡ Parallel p → ⊥) → ((m : MapState) → x ≡ Map m → ⊥) → machines_equal t x u y ≡ true
no_machines t u (Task a) y f g = refl
no_machines t u (Pass a) y f g = refl
no_machines t u (Choice a) y f g = refl
no_machines t u (Wait a) y f g = refl
no_machines t u (Parallel a) y f g = absurd (f a refl)
no_machines t u (Map a) y f g = absurd (g a refl)
no_machines t u (Succeed a) y f g = refl
no_machines t u (Fail a) y f g = refl

pub same_alone : (t u : List Named) (x y : State) → ((p : ParallelState) → x ≡ Parallel p → ⊥) → ((m : MapState) → x ≡ Map m → ⊥) → state_same x y ≡ true → true ≡ equal (state_of t x) (state_of u y)
same_alone t u x y f g e = sym (state_alike t u x y ∙ (λ i. e i && no_machines t u x y f g i))

-- ---- machines

config_alike : (c d : ProcessorConfig) → equal (config_shown c) (config_shown d) ≡ (configs.ghosts).eq c d
config_alike c d = by c.mode d.mode
  where
    by : (a b : Option Mode) → equal (config_shown (record { mode = a })) (config_shown (record { mode = b })) ≡ (configs.ghosts).eq (record { mode = a }) (record { mode = b })
    by None None = refl
    by None (Some Inline) = refl
    by (Some Inline) None = refl
    by (Some Inline) (Some Inline) = refl

pub body_alike : (t u : List Named) (c d : Option ProcessorConfig) (x y : Body) → equal (processor_of t c x) (processor_of u d y) ≡ (option_eq bytes_eq x.comment y.comment && (option_eq (configs.ghosts).eq c d && (bytes_eq x.start.name y.start.name && equal_members (pairs (rows x.first x.count t)) (pairs (rows y.first y.count u)))))
body_alike t u c d x y =
    alike (processor_members t c x) (processor_members u d y) refl refl
    ∙ (λ i. texts x.comment y.comment i && (shows (configs.ghosts).eq config_shown config_alike c d i && (bytes_eq x.start.name y.start.name && last {a = equal_members (pairs (rows x.first x.count t)) (pairs (rows y.first y.count u))} refl i)))

pub machine_alike : (t u : List Named) (h k : Heading) (x y : Body) → equal (machine_of t h x) (machine_of u k y) ≡ (option_eq bytes_eq x.comment y.comment && (option_eq bytes_eq h.query_language k.query_language && (option_eq bytes_eq h.version k.version && (bytes_eq x.start.name y.start.name && (option_eq bytes_eq h.timeout k.timeout && equal_members (pairs (rows x.first x.count t)) (pairs (rows y.first y.count u)))))))
machine_alike t u h k x y =
    alike (machine_members t h x) (machine_members u k y) refl refl
    ∙ (λ i. texts x.comment y.comment i && (texts h.query_language k.query_language i && (texts h.version k.version i && (bytes_eq x.start.name y.start.name && (numbers h.timeout k.timeout i && last {a = equal_members (pairs (rows x.first x.count t)) (pairs (rows y.first y.count u))} refl i)))))

-- what says whether two definitions are equal says whether they are one
pub says_same : (r : Bool) (a b : Data) → r ≡ equal a b → IsTrue r ↔ (a ≡ b)
says_same r a b e = (λ h. (equal_decides a b).0 (sym e ∙ h), λ h. e ∙ (equal_decides a b).1 h)
