-- What executions come to whose steps come at other moments.
use Rattle.std.proofs.Common.{ℕ, ◌≡◌, ◌⊎◌, inl, inr, ◌≤◌, Bool, true, false, List, [], ◌∷◌, refl, sym, ◌∙◌, ap, arith, max, option_map, subst, Option, Some, None}
use Rattle.std.specs.Prelude.{is_none, IsSome}
use Rattle.asl_step.specs.declared.record.Record.{Record}
use Rattle.asl_step_reads.specs.Reading.{reads}
use Rattle.asl_step_reads.specs.Steps.{clock_keys, timeless_record}
use Rattle.asl_run_branches.specs.Branches.{record_at}
use Rattle.asl_run_state.specs.declared.outcome.Outcome.TheVariants.{TimedOut}
use Rattle.asl_run_state.specs.declared.refusal.Refusal.{Refusal}
use Rattle.asl_run_state.specs.World.{World, is_over, is_late, timed_out}
use Rattle.asl_run_state.specs.Bare.{bare}
use Rattle.asl_run_state.specs.Refusals.{refusal_of}
use Rattle.asl_run_input.specs.declared.setup.Setup.{Setup}
use Rattle.asl_run_input.specs.declared.step_at.StepAt.{StepAt}
use Rattle.asl_exec.specs.Steps.{opening, refusal_in, step, world_after}
use Rattle.asl_exec.proofs.Accepting.{step_refused, step_late}
use Rattle.asl_exec.proofs.Going.{next, IsReady, step-is, ready-if}
use Rattle.asl_exec_moment_laws.specs.Orders.{due_of, due, after_order}
use Rattle.asl_exec_moment_laws.specs.Moments.{DifferInMoments}
use Rattle.asl_exec_moment_laws.specs.Laws.{MomentsMayBeAny, MomentsStayAside, OpenPlacesStay, BareWorldsStayAside}
use Rattle.asl_exec_moment_laws.proofs.Until.{until_in}
use Rattle.asl_exec_moment_laws.proofs.Reading.{record-same}
use Rattle.asl_exec_moment_laws.proofs.Changing.{AreSooner, sooner-self, sooner-there}
use Rattle.asl_exec_moment_laws.proofs.Stepping.{next-alike, next-sooner, ready-too, waits-till, due-is, earlier}

-- ---- a world that is over stays

over-refuses : (s : Setup) (w : World) (p : List ℕ) (t : ℕ) → is_over w.outcome ≡ true → is_none (refusal_in s w p t) ≡ false
unfolding refusal_of
over-refuses s w p t o = rw o refl

over-stays : (s : Setup) (w : World) (l : List StepAt) → is_over w.outcome ≡ true → world_after s w l ≡ w
over-stays s w [] o = refl
over-stays s w (a ∷ l) o = ap (λ (z : World). world_after s z l) (step_refused s w a.place a.moment (over-refuses s w a.place a.moment o)) ∙ over-stays s w l o

refused-stays : (s : Setup) (w : World) (p : List ℕ) (t : ℕ) (x : Refusal) → refusal_in s w p t ≡ Some x → step s w p t ≡ w
refused-stays s w p t x e = step_refused s w p t (ap is_none e)

-- ---- a step at its earliest moment

step-due : (s : Setup) (v : World) (p : List ℕ) (q : Record) → record_at p v.branches ≡ Some q → IsReady s v p (max v.last (until_in q)) q → step s v p (due v p) ≡ next s v p (max v.last (until_in q)) q
step-due s v p q there a =
    let e : due v p ≡ max v.last (until_in q) = ap (due_of v.last) there ∙ due-is v.last q in
    (step-is s v p (due v p) (max v.last (until_in q)) q (omega arith) a).1

-- ---- two worlds: the first after any steps, the second after the same, each as early as it may

pub record IsAhead (v w : World) : Type 0 where
  pub alike : DifferInMoments w v
  pub sooner : AreSooner v.branches w.branches
  pub last : v.last ≤ w.last

same-record : (a b : Record) → option_map timeless_record (Some a) ≡ option_map timeless_record (Some b) → timeless_record a ≡ timeless_record b
same-record a b e = cc

step-ahead : (s : Setup) (w v : World) (p : List ℕ) (t : ℕ) (r : Record) → reads clock_keys s.machine ≡ false → IsAhead v w → IsReady s w p (max w.last t) r → IsAhead (step s v p (due v p)) (next s w p (max w.last t) r)
step-ahead s w v p t r unread h a =
    let x = sooner-there p v.branches w.branches r h.sooner a.there in
    let q : Record = x.current in
    let n : ℕ = max w.last t in
    let m : ℕ = max v.last (until_in q) in
    let waited : until_in r ≤ n = waits-till s w p n r a in
    let less : until_in q ≤ until_in r = x.sooner in
    let last : v.last ≤ w.last = h.last in
    let early : m ≤ n = omega arith in
    let same : timeless_record r ≡ timeless_record q = same-record r q (ap (option_map timeless_record) (sym a.there) ∙ record-same p w.branches v.branches h.alike.branches ∙ ap (option_map timeless_record) x.there) in
    let late : is_late m v.deadline ≡ false = ap (is_late m) (sym h.alike.deadline) ∙ earlier m n w.deadline early a.early in
    let ready = ready-too s w v h.alike p n m r q a x.there same (omega arith) late in
    subst (λ (z : World). IsAhead z (next s w p n r)) (sym (step-due s v p q x.there ready))
    (record {
      alike = next-alike s unread w v h.alike p n m r q same;
      sooner = next-sooner s unread w v h.alike p n m r q same early less h.sooner;
      last = early;
    })

-- ---- lists of steps

-- what the steps lead to from the first, by a limit of its time or by an order from the second
abbrev ComesTo : Setup → World → World → World → Type 0
ComesTo s v w z = ((z.outcome ≡ TimedOut) × IsSome w.deadline) ⊎ ((ps : List (List ℕ)) × DifferInMoments z (after_order s v ps))

late-some : (now : ℕ) (d : Option ℕ) → is_late now d ≡ true → IsSome d
late-some now None e = absurd (cc)
late-some now (Some d) e = refl

pub comes-to : (s : Setup) (w v : World) (l : List StepAt) → reads clock_keys s.machine ≡ false → IsAhead v w → ComesTo s v w (world_after s w l)
comes-to s w v [] unread h = inr ([], h.alike)
comes-to s w v (a ∷ l) unread h = by (refusal_in s w a.place a.moment) (is_late (max w.last a.moment) w.deadline) refl refl (λ x y. comes-to s x y l unread)
  where
    Later : Type 0
    Later = (x y : World) → IsAhead y x → ComesTo s y x (world_after s x l)

    with-first : (r : Record) → IsReady s w a.place (max w.last a.moment) r → ComesTo s (step s v a.place (due v a.place)) (next s w a.place (max w.last a.moment) r) (world_after s (next s w a.place (max w.last a.moment) r) l) → ComesTo s v w (world_after s (next s w a.place (max w.last a.moment) r) l)
    with-first r x (inl e) = inl e
    with-first r x (inr e) = inr (a.place ∷ e.0, e.1)

    taken : (r : Record) → IsReady s w a.place (max w.last a.moment) r → Later → ComesTo s v w (world_after s w (a ∷ l))
    taken r x later =
        let is : step s w a.place a.moment ≡ next s w a.place (max w.last a.moment) r = (step-is s w a.place a.moment (max w.last a.moment) r refl x).1 in
        subst (λ (z : World). ComesTo s v w (world_after s z l)) (sym is)
        (with-first r x (later (next s w a.place (max w.last a.moment) r) (step s v a.place (due v a.place)) (step-ahead s w v a.place a.moment r unread h x)))

    by : (o : Option Refusal) (late : Bool) → refusal_in s w a.place a.moment ≡ o → is_late (max w.last a.moment) w.deadline ≡ late → Later → ComesTo s v w (world_after s w (a ∷ l))
    by (Some x) late e k later =
        let is = refused-stays s w a.place a.moment x e in
        subst (λ (z : World). ComesTo s v w (world_after s z l)) (sym is)
        (later w v h)
    by None true e k later =
        let is = step_late s w a.place a.moment e k in
        let z : World = timed_out (max w.last a.moment) w in
        inl (ap (λ (z : World). (world_after s z l).outcome) is ∙ ap (λ (z : World). z.outcome) (over-stays s z l refl), late-some (max w.last a.moment) w.deadline k)
    by None false e k later = let x = ready-if s w a.place a.moment e k in taken x.0 x.1 later

self-alike : (w : World) → DifferInMoments w w
self-alike w = record { branches = refl; counts = refl; many = refl; deadline = refl; outcome = refl }

pub any-moments : MomentsMayBeAny
any-moments s l unread = comes-to s (opening s) (opening s) l unread (record { alike = self-alike (opening s); sooner = sooner-self (opening s).branches; last = omega arith })

-- ---- orders of branches in two worlds, where there is no time limit

flipped : (w v : World) → DifferInMoments w v → DifferInMoments v w
flipped w v h = record { branches = sym h.branches; counts = sym h.counts; many = sym h.many; deadline = sym h.deadline; outcome = sym h.outcome }

-- a branch that may step in the first
record IsOpen (s : Setup) (w : World) (p : List ℕ) : Type 0 where
  current : Record
  ready : IsReady s w p (max w.last (until_in current)) current

open-if : (s : Setup) (w : World) (p : List ℕ) → w.deadline ≡ None → refusal_in s w p (due w p) ≡ None → IsOpen s w p
open-if s w p limit e =
    let x = ready-if s w p (due w p) e (ap (is_late (max w.last (due w p))) limit) in
    let is : max w.last (due w p) ≡ max w.last (until_in x.0) = (let d : due w p ≡ max w.last (until_in x.0) = ap (due_of w.last) x.1.there ∙ due-is w.last x.0 in omega arith) in
    record { current = x.0; ready = subst (λ (k : ℕ). IsReady s w p k x.0) is x.1 }

-- may in the second
record IsOpenToo (s : Setup) (w v : World) (p : List ℕ) (r : Record) : Type 0 where
  current : Record
  same : timeless_record r ≡ timeless_record current
  ready : IsReady s v p (max v.last (until_in current)) current

open-too : (s : Setup) (w v : World) (p : List ℕ) → w.deadline ≡ None → DifferInMoments w v → (x : IsOpen s w p) → IsOpenToo s w v p x.current
open-too s w v p limit alike x = by (record_at p v.branches) refl
  where
    is : Some (timeless_record x.current) ≡ option_map timeless_record (record_at p v.branches)
    is = ap (option_map timeless_record) (sym x.ready.there) ∙ record-same p w.branches v.branches alike.branches

    by : (o : Option Record) → record_at p v.branches ≡ o → IsOpenToo s w v p x.current
    by None e = absurd (let y : Some (timeless_record x.current) ≡ None = is ∙ ap (option_map timeless_record) e in cc)
    by (Some q) e =
        let m : ℕ = max v.last (until_in q) in
        let same : timeless_record x.current ≡ timeless_record q = same-record x.current q (is ∙ ap (option_map timeless_record) e) in
        record { current = q; same = same; ready = ready-too s w v alike p (max w.last (until_in x.current)) m x.current q x.ready e same (omega arith) (ap (is_late m) (sym alike.deadline ∙ limit)) }

open-refusal : (s : Setup) (w : World) (p : List ℕ) (r : Record) → IsReady s w p (max w.last (until_in r)) r → refusal_in s w p (due w p) ≡ None
open-refusal s w p r a =
    let e : due w p ≡ max w.last (until_in r) = ap (due_of w.last) a.there ∙ due-is w.last r in
    (step-is s w p (due w p) (max w.last (until_in r)) r (omega arith) a).0

pub record StaysAside (s : Setup) (w v : World) (p : List ℕ) : Type 0 where
  pub alike : DifferInMoments (step s w p (due w p)) (step s v p (due v p))
  pub limit : (step s w p (due w p)).deadline ≡ None

pub step-aside : (s : Setup) (w v : World) (p : List ℕ) → reads clock_keys s.machine ≡ false → w.deadline ≡ None → DifferInMoments w v → StaysAside s w v p
step-aside s w v p unread limit alike = by (refusal_in s w p (due w p)) (refusal_in s v p (due v p)) refl refl
  where
    by : (o u : Option Refusal) → refusal_in s w p (due w p) ≡ o → refusal_in s v p (due v p) ≡ u → StaysAside s w v p
    by None u e k =
        let x = open-if s w p limit e in
        let y = open-too s w v p limit alike x in
        let is = step-due s w p x.current x.ready.there x.ready in
        let too = step-due s v p y.current y.ready.there y.ready in
        record {
          alike = subst (λ (z : World). DifferInMoments z (step s v p (due v p))) (sym is)
              (subst (λ (z : World). DifferInMoments (next s w p (max w.last (until_in x.current)) x.current) z) (sym too)
              (next-alike s unread w v alike p (max w.last (until_in x.current)) (max v.last (until_in y.current)) x.current y.current y.same));
          limit = ap (λ (z : World). z.deadline) is ∙ limit;
        }
    by (Some a) None e k =
        let x = open-if s v p (sym alike.deadline ∙ limit) k in
        let y = open-too s v w p (sym alike.deadline ∙ limit) (flipped w v alike) x in
        absurd (let z : Some a ≡ None = sym e ∙ open-refusal s w p y.current y.ready in cc)
    by (Some a) (Some b) e k =
        let is = refused-stays s w p (due w p) a e in
        let too = refused-stays s v p (due v p) b k in
        record {
          alike = subst (λ (z : World). DifferInMoments z (step s v p (due v p))) (sym is) (subst (λ (z : World). DifferInMoments w z) (sym too) alike);
          limit = ap (λ (z : World). z.deadline) is ∙ limit;
        }

pub stay-aside : MomentsStayAside
stay-aside s w v [] unread limit alike = alike
stay-aside s w v (p ∷ ps) unread limit alike =
    let x = step-aside s w v p unread limit alike in
    stay-aside s (step s w p (due w p)) (step s v p (due v p)) ps unread x.limit x.alike

pub places-stay : OpenPlacesStay
places-stay s w v p limit alike e =
    let x = open-too s w v p limit alike (open-if s w p limit e) in
    open-refusal s v p x.current x.ready

pub bare-alike : (w v : World) → DifferInMoments w v → DifferInMoments (bare w) (bare v)
bare-alike w v h = record { branches = h.branches; counts = h.counts; many = refl; deadline = h.deadline; outcome = h.outcome }

pub bare-aside : BareWorldsStayAside
bare-aside s w v p unread limit alike = bare-alike (step s (bare w) p (due w p)) (step s (bare v) p (due v p)) (step-aside s (bare w) (bare v) p unread limit alike).alike
