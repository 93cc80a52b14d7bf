-- What is told at one place.
use Rattle.std.proofs.Common.{ℕ, ◌≡◌, ◌+◌, Bool, true, false, List, [], ◌∷◌, ◌++◌, refl, sym, ◌∙◌, ap, arith, cond, length, length-append}
use Rattle.std.proofs.lemmas.Bool.{eq-eqb}
use Rattle.asl_history.specs.declared.event.Event.{Event}
use Rattle.asl_history.specs.Places.{is_prefix}
use Rattle.asl_history.specs.Events.{is_along, previous_id, event_after, IsHistory}
use Rattle.asl_history.proofs.Links.{IsHistory-more, last_along, last_elsewhere}
use Rattle.asl_step.specs.declared.effect.Draft.{Draft}
use Rattle.asl_run_branches.proofs.Linking.{IsToldAt}
use Rattle.asl_run_state.specs.World.{events_after}
use Rattle.asl_run_state.specs.private.Telling.{placed, AllAt, told_after}

pub told-at : (p : List ℕ) (now : ℕ) (ds : List Draft) (es : List Event) → told_after now (placed p ds) es ≡ events_after p now ds es
told-at p now [] es = refl
told-at p now (d ∷ ds) es = told-at p now ds (es ++ event_after es now d.kind p d.name d.body ∷ [])

pub all-at : (p : List ℕ) (ds : List Draft) → AllAt p (placed p ds)
all-at p [] = tt
all-at p (d ∷ ds) = (refl, all-at p ds)

pub events-length : (p : List ℕ) (now : ℕ) (ds : List Draft) (es : List Event) → length (events_after p now ds es) ≡ length es + length ds
events-length p now [] es = omega arith
events-length p now (d ∷ ds) es = omega (arith, events-length p now ds (es ++ event_after es now d.kind p d.name d.body ∷ []), length-append {A = Event})

prefix-self : (p : List ℕ) → is_prefix p p ≡ true
prefix-self [] = refl
prefix-self (x ∷ xs) = rw (eq-eqb x x refl) (prefix-self xs)

pub one-more : (es : List Event) (e : Event) → length (es ++ e ∷ []) ≡ length es + 1
one-more es e = omega (arith, length-append {A = Event})

-- ---- one event

pub one-history : (es : List Event) (e : Event) → IsHistory es → e.id ≡ length es + 1 → e.previous ≡ previous_id e.place es → IsHistory (es ++ e ∷ [])
one-history es e h i l = IsHistory-more es e h (record { number = i; link = l })

-- it is the last one along its place
pub one-last : (p : List ℕ) (es : List Event) (e : Event) → IsHistory (es ++ e ∷ []) → e.place ≡ p → previous_id p (es ++ e ∷ []) ≡ e.id
one-last p es e h at = last_along p es e h (rw (at, prefix-self p) refl)

one-told-by : (a : Bool) (p q : List ℕ) (es : List Event) (e : Event) → IsHistory (es ++ e ∷ []) → is_along q e ≡ a → previous_id q (es ++ e ∷ []) ≡ cond a e.id (previous_id q es)
one-told-by true p q es e h a = last_along q es e h a
one-told-by false p q es e h a = last_elsewhere q es e a

-- ---- all of a step

event-history : (p : List ℕ) (now : ℕ) (d : Draft) (es : List Event) → IsHistory es → IsHistory (es ++ event_after es now d.kind p d.name d.body ∷ [])
event-history p now d es h = one-history es (event_after es now d.kind p d.name d.body) h refl refl

pub all-history : (p : List ℕ) (now : ℕ) (ds : List Draft) (es : List Event) → IsHistory es → IsHistory (events_after p now ds es)
all-history p now [] es h = h
all-history p now (d ∷ ds) es h = all-history p now ds (es ++ event_after es now d.kind p d.name d.body ∷ []) (event-history p now d es h)

again : (a : Bool) (x y z : ℕ) → cond a x (cond a y z) ≡ cond a x z
again true x y z = refl
again false x y z = refl

pub all-told : (p : List ℕ) (now : ℕ) (d : Draft) (ds : List Draft) (es : List Event) → IsHistory es → IsToldAt p (length (events_after p now (d ∷ ds) es)) es (events_after p now (d ∷ ds) es)
all-told p now d [] es h q =
    let e = event_after es now d.kind p d.name d.body in
    one-told-by (is_along q e) p q es e (event-history p now d es h) refl ∙ ap (λ n. cond (is_along q e) n (previous_id q es)) (sym (one-more es e))
all-told p now d (c ∷ ds) es h q =
    let e = event_after es now d.kind p d.name d.body in
    let rest = all-told p now c ds (es ++ e ∷ []) (event-history p now d es h) q in
    let one = one-told-by (is_along q e) p q es e (event-history p now d es h) refl in
    rest ∙ ap (cond (is_along q e) (length (events_after p now (d ∷ c ∷ ds) es))) one ∙ again (is_along q e) (length (events_after p now (d ∷ c ∷ ds) es)) e.id (previous_id q es)
