-- Worlds that a search puts into its lists.
use Rattle.std.proofs.Common.{ℕ, suc, zero, ◌≡◌, ◌<◌, ◌≤◌, ◌+◌, ◌∙◌, ap, sym, refl, subst, arith, Bool, true, false, List, [], ◌∷◌, length, get_or, Option, Some, None}
use Rattle.std.specs.Prelude.{is_some, is_none}
use Rattle.std.specs.List.{All, AllWithin, Contains, HoldsAt}
use Rattle.std.proofs.lemmas.List.{get_or_read, length-map}
use Rattle.std.proofs.lemmas.List.Elements.{AllWithin-more}
use Rattle.asl_explore.specs.declared.found.Found.{Found}
use Rattle.asl_step.specs.declared.record.Record.{Record}
use Rattle.asl_run_branches.specs.declared.earliest.Earliest.{Earliest}
use Rattle.asl_run_branches.specs.Branches.{record_at}
use Rattle.asl_run_state.specs.World.{World, is_over}
use Rattle.asl_run_state.specs.Bare.{bare, earliest}
use Rattle.asl_run_state.specs.declared.outcome.Outcome.{Outcome}
use Rattle.asl_run_state.specs.declared.refusal.Refusal.{Refusal}
use Rattle.asl_run_input.specs.declared.setup.Setup.{Setup}
use Rattle.asl_exec.specs.Steps.{step, opening, refusal_in}
use Rattle.asl_exec.proofs.Accepting.{step_refused}
use Rattle.asl_explore.specs.declared.met.Node.{Node}
use Rattle.asl_explore.specs.declared.orders.Orders.{Orders}
use Rattle.asl_explore.specs.Searches.{IsMet, IsExpanded, IsBound, IsLater, Shows, StandsAt, is_beyond, worlds_of}
use Rattle.asl_explore.proofs.Growing.{later-at, met-later}
use Rattle.asl_explore.proofs.Whole.{expanded}

pub node-at : (ns : List Node) (i : ℕ) (n : Node) (d : World) → i < length ns → n ≡ get_or ns i n → get_or (worlds_of ns) i d ≡ bare n.world
node-at [] i n d l h = absurd (omega arith)
node-at (x ∷ ns) zero n d l h = ap (λ (z : Node). bare z.world) (sym h)
node-at (x ∷ ns) (suc i) n d l h = node-at ns i n d (omega arith) h

-- a world that is alike is there
pub stands-alike : (ns : List Node) (i : ℕ) (n : Node) (w : World) → i < length ns → n ≡ get_or ns i n → bare n.world ≡ bare w → StandsAt (worlds_of ns) i (bare w)
stands-alike ns i n w l h e = (omega (arith, l, length-map ns (λ (m : Node). bare m.world)), λ d. node-at ns i n d l h ∙ e)

pub stands-there : (ws : List World) (i : ℕ) (w : World) → StandsAt ws i w → Contains ws w
stands-there ws i w h = (i, h.0, h.1 w)

pub met-running : (ws : List World) (os : List Outcome) (v next : World) → next ≡ bare v → is_over next.outcome ≡ false → Contains ws (bare next) → IsMet ws os v
met-running ws os v next e r c = record {
  ends = λ o. let x : true ≡ false = sym o ∙ ap (λ (z : World). is_over z.outcome) (sym e) ∙ r in absurd (cc);
  runs = λ z. subst (Contains ws) (ap bare e) c;
}

pub met-over : (ws : List World) (os : List Outcome) (v next : World) → next ≡ bare v → is_over next.outcome ≡ true → Contains os next.outcome → IsMet ws os v
met-over ws os v next e o c = record {
  ends = λ z. subst (Contains os) (ap (λ (z : World). z.outcome) e) c;
  runs = λ r. let x : true ≡ false = sym o ∙ ap (λ (z : World). is_over z.outcome) e ∙ r in absurd (cc);
}

-- the world that a step leads to is met, unless it is later than is tried
abbrev pub IsMetBy : Setup → List World → ℕ → List World → List Outcome → Option ℕ → Earliest → Type 0
IsMetBy s ws number vs us bound e = is_beyond bound e.moment ≡ false → (d : World) → IsMet vs us (step s (get_or ws number d) e.place e.moment)

abbrev pub AreMet : Setup → List World → ℕ → List World → List Outcome → Option ℕ → List Earliest → ℕ → Type 0
AreMet s ws number vs us bound turns i = AllWithin (IsMetBy s ws number vs us bound) turns 0 i

pub expanded-all : (o : Orders) (s : Setup) (ws vs : List World) (os us : List Outcome) (number : ℕ) (w : World) (bound : Option ℕ) (turns : List Earliest) (i : ℕ) → IsLater ws os vs us → number < length ws → number < length vs → ((d : World) → get_or ws number d ≡ bare w) → is_over w.outcome ≡ false → is_some (record_at [] w.branches) ≡ true → turns ≡ earliest w.last w.branches → length turns ≤ i → IsBound o s (bare w) bound
    → AreMet s ws number vs us bound turns i → HoldsAt (IsExpanded o s vs us) vs number
expanded-all o s ws vs os us number w bound turns i l lt lv same runs root et le b met d = subst (IsExpanded o s vs us) (sym at) (by (record_at [] w.branches) refl)
  where
    at : get_or vs number d ≡ bare w
    at = later-at ws vs os us number d l lt ∙ same d

    here : Contains vs (bare w)
    here = (number, lv, later-at ws vs os us number (bare w) l lt ∙ same (bare w))

    Tried : Earliest → Type 0
    Tried e = is_beyond bound e.moment ≡ false → IsMet vs us (step s (bare w) e.place e.moment)

    all : All Tried (earliest w.last w.branches)
    all = subst (All Tried) et
        (λ k z h inside. subst (λ (v : World). IsMet vs us (step s v (get_or turns k z).place (get_or turns k z).moment)) (same (bare w)) (met k z (omega arith) (omega arith) inside (bare w)))

    by : (r : Option Record) → record_at [] w.branches ≡ r → IsExpanded o s vs us (bare w)
    by (Some r) e = expanded o s vs us (bare w) bound r runs here e b all
    by None e = let x : false ≡ true = ap is_some (sym e) ∙ root in absurd (cc)

-- a search begins with the world before the first step
pub met-first : (s z : Setup) (ws : List World) (os : List Outcome) → z ≡ s → ws ≡ bare (opening z) ∷ [] → IsMet ws os (opening s)
met-first s z ws os e q = record {
  ends = λ o. absurd (cc);
  runs = λ r. subst (λ (xs : List World). Contains xs (bare (opening s))) (sym q) (0, omega arith, ap (λ (x : Setup). bare (opening x)) e);
}

-- a world that ran runs still
pub runs-still : (ws vs : List World) (os us : List Outcome) (number : ℕ) (d w : World) → IsLater ws os vs us → number < length ws → get_or ws number d ≡ bare w → is_over w.outcome ≡ false → is_over (get_or vs number d).outcome ≡ false
runs-still ws vs os us number d w l lt same runs = ap (λ (z : World). is_over z.outcome) (later-at ws vs os us number d l lt ∙ same) ∙ runs

-- the world that a refused step leaves
pub met-refused : (s : Setup) (ws : List World) (os : List Outcome) (number : ℕ) (w d : World) (p : List ℕ) (t : ℕ) → number < length ws → ((e : World) → get_or ws number e ≡ bare w) → is_over (get_or ws number d).outcome ≡ false → is_none (refusal_in s (bare w) p t) ≡ false → IsMet ws os (step s (get_or ws number d) p t)
met-refused s ws os number w d p t lt at runs refused = subst (IsMet ws os) (sym (ap (λ (z : World). step s z p t) (at d) ∙ step_refused s (bare w) p t refused)) record {
  ends = λ o. let x : true ≡ false = sym o ∙ ap (λ (z : World). is_over z.outcome) (sym (at d)) ∙ runs in absurd (cc);
  runs = λ r. (number, lt, at (bare w));
}

-- ---- by the parts of a visit

not-none : (r : Option Refusal) → is_some r ≡ true → is_none r ≡ false
not-none None h = absurd (cc)
not-none (Some r) h = refl

-- the step was refused
pub met-unmoved : (s z : Setup) (ws : List World) (os : List Outcome) (number : ℕ) (w v d : World) (p : List ℕ) (t : ℕ) (o : Option Refusal) (b : Bool) → z ≡ s → v ≡ bare w → o ≡ refusal_in z v p t → b ≡ is_some o → b ≡ true → number < length ws → ((e : World) → get_or ws number e ≡ bare w) → is_over (get_or ws number d).outcome ≡ false → IsMet ws os (step s (get_or ws number d) p t)
met-unmoved s z ws os number w v d p t o b ez ev eo eb tb lt at runs =
    let e : o ≡ refusal_in s (bare w) p t = eo ∙ (λ i. refusal_in (ez i) (ev i) p t) in
    met-refused s ws os number w d p t lt at runs (not-none (refusal_in s (bare w) p t) (ap is_some (sym e) ∙ sym eb ∙ tb))

none-so : (r : Option Refusal) → is_some r ≡ false → r ≡ None
none-so None h = refl
none-so (Some r) h = (cc)

-- the step was accepted
pub accepted-is : (s z : Setup) (ws : List World) (number : ℕ) (w v d : World) (p : List ℕ) (t : ℕ) (o : Option Refusal) (b : Bool) → z ≡ s → v ≡ bare w → o ≡ refusal_in z v p t → b ≡ is_some o → b ≡ false → get_or ws number d ≡ bare w → refusal_in s (get_or ws number d) p t ≡ None
accepted-is s z ws number w v d p t o b ez ev eo eb fb at =
    let e : o ≡ refusal_in s (get_or ws number d) p t = eo ∙ (λ i. refusal_in (ez i) (ev i) p t) ∙ ap (λ (x : World). refusal_in s x p t) (sym at) in
    sym e ∙ none-so o (sym eb ∙ fb)

-- the step was taken
pub next-is : (s z : Setup) (ws : List World) (number : ℕ) (w v u next d : World) (p : List ℕ) (t : ℕ) → z ≡ s → v ≡ bare w → u ≡ step z v p t → next ≡ bare u → get_or ws number d ≡ bare w → next ≡ bare (step s (get_or ws number d) p t)
next-is s z ws number w v u next d p t ez ev eu en at = en ∙ ap bare eu ∙ (λ i. bare (step (ez i) (ev i) p t)) ∙ ap (λ (x : World). bare (step s x p t)) (sym at)

-- ---- by the parts of a loop

pub shown-as : (o : Orders) (s z : Setup) (fs gs : List Found) → s ≡ z → (All (Shows o s) fs → All (Shows o s) gs) → All (Shows o z) fs → All (Shows o z) gs
shown-as o s z fs gs e f = subst (λ (x : Setup). All (Shows o x) fs → All (Shows o x) gs) e f

pub met-at : (s z : Setup) (ws vs xs : List World) (os us ys : List Outcome) (number : ℕ) (bound : Option ℕ) (turns : List Earliest) (i : ℕ) (turn : Earliest) → z ≡ s → IsLater ws os vs us → number < length ws → i < length turns → turn ≡ get_or turns i turn
    → (is_beyond bound turn.moment ≡ false → (d : World) → IsMet xs ys (step z (get_or vs number d) turn.place turn.moment)) → (d : Earliest) → IsMetBy s ws number xs ys bound (get_or turns i d)
met-at s z ws vs xs os us ys number bound turns i turn e l lt li et h d inside w =
    let r : turn ≡ get_or turns i d = get_or_read turns i turn li et d in
    let q = later-at ws vs os us number w l lt in
    let within : is_beyond bound turn.moment ≡ false = subst (λ (x : Earliest). is_beyond bound x.moment ≡ false) (sym r) inside in
    let path : step z (get_or vs number w) turn.place turn.moment ≡ step s (get_or ws number w) (get_or turns i d).place (get_or turns i d).moment = λ j. step (e j) (q j) (r j).place (r j).moment in
    subst (IsMet xs ys) path (h within w)

pub met-more : (s : Setup) (ws vs xs : List World) (us ys : List Outcome) (number : ℕ) (bound : Option ℕ) (turns : List Earliest) (i : ℕ) → IsLater vs us xs ys → AreMet s ws number vs us bound turns i → ((d : Earliest) → IsMetBy s ws number xs ys bound (get_or turns i d)) → AreMet s ws number xs ys bound turns (i + 1)
met-more s ws vs xs us ys number bound turns i l h new =
    AllWithin-more (IsMetBy s ws number xs ys bound) turns 0 i
    (λ k d z lt inside w. met-later vs xs us ys (step s (get_or ws number w) (get_or turns k d).place (get_or turns k d).moment) l (h k d z lt inside w)) new
