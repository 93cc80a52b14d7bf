-- Worlds that steps that are tried lead to.
use Rattle.std.proofs.Common.{ℕ, zero, suc, ◌≡◌, ◌<◌, ◌≤◌, ◌⊎◌, inl, inr, ◌++◌, Bool, true, false, List, [], ◌∷◌, refl, sym, ◌∙◌, ap, subst, arith, cond, length, get_or, max, Option, Some, None, IfSome}
use Rattle.std.specs.Prelude.{is_some}
use Rattle.std.specs.List.{All, Contains, filter}
use Rattle.std.proofs.lemmas.Bool.Decides.{nat_tests}
use Rattle.std.proofs.lemmas.List.{get_or-map, length-map}
use Rattle.std.proofs.lemmas.List.Elements.{All-push}
use Rattle.asl_json.specs.private.SameLaws.{bytes_refl}
use Rattle.asl_step.specs.declared.record.Record.{Record}
use Rattle.asl_step.specs.declared.record.Record.TheVariants.{Failed}
use Rattle.asl_run_branches.specs.Branches.{Branch, same_place, first_of, record_at}
use Rattle.asl_run_branches.specs.Earliest.{due_from}
use Rattle.asl_run_branches.specs.declared.earliest.Earliest.{Earliest}
use Rattle.asl_run_state.specs.Bare.{bare, earliest}
use Rattle.asl_run_state.specs.World.{World, is_over}
use Rattle.asl_run_state.specs.declared.outcome.Outcome.{Outcome}
use Rattle.asl_run_input.specs.declared.setup.Setup.{Setup}
use Rattle.asl_exec.specs.Exchanges.{IsOneEach}
use Rattle.asl_exec.specs.Steps.{refusal_in, opening, step}
use Rattle.asl_exec.proofs.Going.{IsReady, so-goes}
use Rattle.asl_exec_swap_laws.proofs.Joining.{AllAre, all-are}
use Rattle.asl_exec_swap_laws.proofs.OneEach.{one-each, one-stepped}
use Rattle.asl_explore.specs.declared.orders.Orders.{Orders}
use Rattle.asl_explore.specs.declared.orders.Orders.TheVariants.{Every, Prompt}
use Rattle.asl_explore.specs.Orders.{due_of, due, MayStep, IsTried, go, after_bare, AreTriedOn}
use Rattle.asl_explore.specs.Searches.{IsMet, IsExpanded, IsLater, IsQuietAt, AreAllReached, IsReached, is_beyond}
use Rattle.asl_explore.specs.Calls.{AllAreExpanded}
use Rattle.asl_explore.specs.private.Reaching.{IsLeast}
use Rattle.asl_explore.proofs.Growing.{later-at}
use Rattle.asl_explore.proofs.Filling.{bare-after, every-tried}
use Rattle.asl_explore.proofs.Orderly.{at-once, ready-prompt}
use Rattle.asl_explore.proofs.Whole.{met-step, met-alike}

-- ---- one step more

tried-behind : (o : Orders) (s : Setup) (v : World) (ps : List (List ℕ)) (p : List ℕ) → AreTriedOn o s v ps → IsTried o s (after_bare s v ps) p → AreTriedOn o s v (ps ++ p ∷ [])
tried-behind o s v [] p all t = (t, tt)
tried-behind o s v (q ∷ ps) p all t = (all.0, tried-behind o s (go s v q) ps p all.1 t)

after-behind : (s : Setup) (v : World) (ps : List (List ℕ)) (p : List ℕ) → after_bare s v (ps ++ p ∷ []) ≡ go s (after_bare s v ps) p
after-behind s v [] p = refl
after-behind s v (q ∷ ps) p = after-behind s (go s v q) ps p

pub reached-first : (o : Orders) (s : Setup) → IsReached o s (bare (opening s))
reached-first o s = record { places = []; tried = tt; leads = refl }

pub first-reached : (o : Orders) (s : Setup) (ws : List World) → ws ≡ bare (opening s) ∷ [] → All (IsReached o s) ws
first-reached o s ws e = subst (All (IsReached o s)) (sym e) (All-push (IsReached o s) [] (bare (opening s)) (λ k d l. absurd (omega (arith, l))) (reached-first o s))

pub reached-on : (o : Orders) (s : Setup) (w : World) (p : List ℕ) → IsReached o s w → IsTried o s w p → IsReached o s (go s w p)
reached-on o s w p h t = record {
  places = h.places ++ p ∷ [];
  tried = tried-behind o s (bare (opening s)) h.places p h.tried (subst (λ (z : World). IsTried o s z p) (sym h.leads) t);
  leads = after-behind s (bare (opening s)) h.places p ∙ ap (λ (z : World). go s z p) h.leads;
}

-- ---- one branch is at each place

each-after : (s : Setup) (w : World) (ps : List (List ℕ)) → IsOneEach w.branches → IsOneEach (after_bare s w ps).branches
each-after s w [] h = h
each-after s w (p ∷ ps) h = each-after s (go s w p) ps (one-stepped s w p (due w p) h)

each-reached : (o : Orders) (s : Setup) (w : World) → IsReached o s w → IsOneEach w.branches
each-reached o s w h = subst (λ (z : World). IsOneEach z.branches) h.leads (each-after s (bare (opening s)) h.places (one-each s []))

-- a branch that is there is read at its place
there-some : (bs : List Branch) (k : ℕ) (e : Branch) → k < length bs → is_some (record_at (get_or bs k e).place bs) ≡ true
there-some [] k e lt = absurd (omega arith)
there-some (b ∷ bs) zero e lt = rw (bytes_refl b.place) refl
there-some (b ∷ bs) (suc k) e lt = by (same_place (get_or bs k e).place b.place) (there-some bs k e (omega arith))
  where
    by : (c : Bool) → is_some (record_at (get_or bs k e).place bs) ≡ true → is_some (first_of (cond c (b ∷ filter (λ b. same_place (get_or bs k e).place b.place) bs) (filter (λ b. same_place (get_or bs k e).place b.place) bs))) ≡ true
    by true h = refl
    by false h = h

one-of : (q : List ℕ) (m : Record) (bs : List Branch) (k : ℕ) (e : Branch) → k < length bs → AllAre q m bs → same_place q (get_or bs k e).place ≡ true → (get_or bs k e).current ≡ m
one-of q m [] k e lt all h = absurd (omega arith)
one-of q m (b ∷ bs) zero e lt all h = all.0 h
one-of q m (b ∷ bs) (suc k) e lt all h = one-of q m bs k e (omega arith) all.1 h

read-there : (bs : List Branch) (k : ℕ) (e : Branch) → IsOneEach bs → k < length bs → record_at (get_or bs k e).place bs ≡ Some (get_or bs k e).current
read-there bs k e one lt = by (record_at (get_or bs k e).place bs) refl (there-some bs k e lt)
  where
    by : (o : Option Record) → record_at (get_or bs k e).place bs ≡ o → is_some o ≡ true → record_at (get_or bs k e).place bs ≡ Some (get_or bs k e).current
    by None is some = (cc)
    by (Some m) is some =
        let x : (get_or bs k e).current ≡ m = one-of (get_or bs k e).place m bs k e lt (all-are (get_or bs k e).place m bs one is) (bytes_refl (get_or bs k e).place) in
        is ∙ ap Some (sym x)

-- ---- a branch steps at its earliest moment

pub record IsTurn (w : World) (e : Earliest) : Type 0 where
  pub there : is_some (record_at e.place w.branches) ≡ true
  pub due_is : due w e.place ≡ e.moment

pub turn-is : (o : Orders) (s : Setup) (w : World) (turns : List Earliest) (k : ℕ) (d : Earliest) → IsReached o s (bare w) → turns ≡ earliest w.last w.branches → k < length turns → IsTurn w (get_or turns k d)
turn-is o s w turns k d h et lt =
    let bs = w.branches in
    let f : Branch → Earliest = λ b. record { place = b.place; moment = due_from w.last b.current } in
    let none : Branch = record { place = []; current = Failed (record { error = None; cause = None }) } in
    let long : length turns ≡ length bs = ap (length {A = Earliest}) et ∙ length-map bs f in
    let at : get_or turns k d ≡ f (get_or bs k none) = ap (λ (z : List Earliest). get_or z k d) et ∙ get_or-map f bs k none d (omega (arith, lt, long)) in
    let read = read-there bs k none (each-reached o s (bare w) h) (omega (arith, lt, long)) in
    subst (IsTurn w) (sym at) (record { there = ap is_some read; due_is = ap (due_of w.last) read })

-- it is one that is tried, if it is accepted and isn't beyond the bound
pub turn-reached : (o : Orders) (s : Setup) (w : World) (e : Earliest) (bound : Option ℕ) → IsReached o s (bare w) → IsTurn w e → (o ≡ Every) ⊎ (is_some bound ≡ true) → IfSome bound (IsLeast s (bare w)) → is_beyond bound e.moment ≡ false → refusal_in s (bare w) e.place e.moment ≡ None → IsReached o s (bare (step s (bare w) e.place e.moment))
turn-reached o s w e bound h turn known least inside taken = subst (λ (t : ℕ). IsReached o s (bare (step s (bare w) e.place t))) turn.due_is (reached-on o s (bare w) e.place h (by o known))
  where
    may : MayStep s (bare w) e.place
    may = (turn.there, subst (λ (t : ℕ). refusal_in s (bare w) e.place t ≡ None) (sym turn.due_is) taken)

    prompt : (b : Option ℕ) → is_some b ≡ true → IfSome b (IsLeast s (bare w)) → is_beyond b e.moment ≡ false → IsTried Prompt s (bare w) e.place
    prompt None k l i = (cc)
    prompt (Some m) k l i = (may, λ q other. let d = turn.due_is in let g = l q other in let le : e.moment ≤ m = grind (arith, nat_tests, i) in omega (arith, d, g, le))

    by : (o : Orders) → (o ≡ Every) ⊎ (is_some bound ≡ true) → IsTried o s (bare w) e.place
    by Every k = tt
    by Prompt (inl k) = absurd (cc)
    by Prompt (inr k) = prompt bound k least inside

-- so is a quiet one
pub quiet-reached : (s : Setup) (w : World) (p : List ℕ) → IsReached Prompt s (bare w) → IsQuietAt s (bare w) p → IsReached Prompt s (bare (step s (bare w) p w.last))
quiet-reached s w p h quiet =
    let same : max w.last w.last ≡ w.last = omega arith in
    let x = so-goes s (bare w) p w.last quiet.goes in
    let ready = subst (λ (t : ℕ). IsReady s (bare w) p t x.0) same x.1.is_ready in
    let due_is = at-once s (bare w) p x.0 ready in
    subst (λ (t : ℕ). IsReached Prompt s (bare (step s (bare w) p t))) due_is (reached-on Prompt s (bare w) p h (ready-prompt s (bare w) p x.0 ready refl))

-- by the parts of a search
pub quiet-put : (s z : Setup) (ws : List World) (number : ℕ) (w v u next : World) (p : List ℕ) → z ≡ s → v ≡ bare w → number < length ws → ((d : World) → get_or ws number d ≡ bare w) → IsQuietAt z v p → u ≡ step z v p v.last → next ≡ bare u → All (IsReached Prompt s) ws → IsReached Prompt s (bare next)
quiet-put s z ws number w v u next p ez ev lt at quiet eu en all =
    let here : IsReached Prompt s (bare w) = subst (IsReached Prompt s) (at w) (all number w lt) in
    let leads : bare next ≡ bare (step s (bare w) p w.last) = ap bare en ∙ ap bare eu ∙ (λ i. bare (step (ez i) (ev i) p (ev i).last)) in
    subst (IsReached Prompt s) (sym leads) (quiet-reached s w p here (subst (λ (x : Setup). IsQuietAt x (bare w) p) ez (subst (λ (x : World). IsQuietAt z x p) ev quiet)))

-- a step of one branch after another
pub loop-reached : (o : Orders) (s z : Setup) (ws vs xs : List World) (os us : List Outcome) (number : ℕ) (w v : World) (bound : Option ℕ) (turns : List Earliest) (i : ℕ) (turn : Earliest) → z ≡ s → IsLater ws os vs us → number < length ws → ((d : World) → get_or ws number d ≡ bare w) → i < length turns → turn ≡ get_or turns i turn → turns ≡ earliest w.last w.branches → bare v ≡ bare w → (o ≡ Every) ⊎ (is_some bound ≡ true) → IfSome bound (IsLeast s (bare v))
    → All (IsReached o s) ws → All (IsReached o s) vs → (All (IsReached o z) vs → (is_beyond bound turn.moment ≡ false → (d : World) → refusal_in z (get_or vs number d) turn.place turn.moment ≡ None → IsReached o z (bare (step z (get_or vs number d) turn.place turn.moment))) → All (IsReached o z) xs) → All (IsReached o s) xs
loop-reached o s z ws vs xs os us number w v bound turns i turn ez l lt at li et eq same known least before all f =
    let g = subst (λ (x : Setup). All (IsReached o x) vs → (is_beyond bound turn.moment ≡ false → (d : World) → refusal_in x (get_or vs number d) turn.place turn.moment ≡ None → IsReached o x (bare (step x (get_or vs number d) turn.place turn.moment))) → All (IsReached o x) xs) ez f in
    let here : IsReached o s (bare w) = subst (IsReached o s) (at w) (before number w lt) in
    let is : IsTurn w turn = subst (IsTurn w) (sym et) (turn-is o s w turns i turn here eq li) in
    let low : IfSome bound (IsLeast s (bare w)) = subst (λ (u : World). IfSome bound (IsLeast s u)) same least in
    g all (λ inside d taken.
    let there : get_or vs number d ≡ bare w = later-at ws vs os us number d l lt ∙ at d in
    subst (λ (u : World). IsReached o s (bare (step s u turn.place turn.moment))) (sym there)
    (turn-reached o s w turn bound here is known low inside (subst (λ (u : World). refusal_in s u turn.place turn.moment ≡ None) there taken)))

-- ---- one that is put behind the others

-- ---- all that run were met

pub met-reached : (o : Orders) (s : Setup) (ws : List World) (os : List Outcome) (ps : List (List ℕ)) (w : World) → All (IsExpanded o s ws os) ws → IsMet ws os w → AreTriedOn o s (bare w) ps → IsMet ws os (after_bare s (bare w) ps)
met-reached o s ws os [] w all m t = met-alike ws os w (bare w) refl m
met-reached o s ws os (p ∷ ps) w all m t = met-reached o s ws os ps (step s (bare w) p (due w p)) all (met-step o s ws os (bare w) p all t.0 (met-alike ws os w (bare w) refl m)) t.1

pub all-reached : (o : Orders) (s : Setup) (ws : List World) (os : List Outcome) → All (IsExpanded o s ws os) ws → IsMet ws os (opening s) → (w : World) → IsReached o s w → is_over w.outcome ≡ false → Contains ws w
all-reached o s ws os all m w h runs =
    let x : IsMet ws os w = subst (IsMet ws os) h.leads (met-reached o s ws os h.places (opening s) all m h.tried) in
    subst (Contains ws) (bare-is h) (x.runs runs)
  where
    bare-is : IsReached o s w → bare w ≡ w
    bare-is h = ap bare (sym h.leads) ∙ bare-after s (opening s) h.places ∙ h.leads

pub closed-reached : (o : Orders) (s : Setup) (ws : List World) (os : List Outcome) → AllAreExpanded o s ws os → AreAllReached o s ws
closed-reached o s ws os closed = all-reached o s ws os closed.expanded closed.begins

-- ---- a search of prompt orders

pub every-reached : (s : Setup) (w : World) → IsReached Prompt s w → IsReached Every s w
every-reached s w h = record { places = h.places; tried = every-tried s (bare (opening s)) h.places; leads = h.leads }

pub all-every-reached : (s : Setup) (ws : List World) → All (IsReached Prompt s) ws → All (IsReached Every s) ws
all-every-reached s ws all k d l = every-reached s (get_or ws k d) (all k d l)
