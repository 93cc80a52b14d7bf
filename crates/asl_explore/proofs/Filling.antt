-- Where an end is reached from each world that was met by a search that takes quiet steps alone, each order can be gone on with to one, or until no history has room for more.
use Rattle.std.proofs.Common.{ℕ, ◌≡◌, ◌⊎◌, inl, inr, ◌≤◌, ◌<◌, ◌+◌, ◌-◌, Bool, true, false, List, [], ◌∷◌, refl, sym, ◌∙◌, ap, subst, arith, cond, length, get_or, max, Option, Some, None}
use Rattle.std.specs.Prelude.{nat_le, sum}
use Rattle.std.specs.List.{All, Contains}
use Rattle.std.proofs.lemmas.Bool.Decides.{nat_tests}
use Rattle.std.proofs.lemmas.List.{get_or_read}
use Rattle.asl_step.specs.declared.effect.Effect.{Effect}
use Rattle.asl_step.specs.declared.record.Record.{Record}
use Rattle.asl_run_branches.specs.Branches.{record_at, is_stopped}
use Rattle.asl_run_state.specs.Bare.{bare}
use Rattle.asl_run_state.specs.World.{World, is_over, is_late, world_with, count_of}
use Rattle.asl_run_state.specs.declared.outcome.Outcome.{Outcome}
use Rattle.asl_run_input.specs.declared.setup.Setup.{Setup}
use Rattle.asl_exec.specs.Steps.{number_in, deadline_of, opening, step}
use Rattle.asl_exec.proofs.Going.{does, IsReady}
use Rattle.asl_exec_swap_laws.proofs.Pending.{IsPending, ahead}
use Rattle.asl_explore.specs.declared.orders.Orders.{Orders}
use Rattle.asl_explore.specs.declared.orders.Orders.TheVariants.{Every, Prompt}
use Rattle.asl_explore.specs.Endless.{CanEnd, CanFill, EachEndsOrFills}
use Rattle.asl_explore.specs.Orders.{due, after_order}
use Rattle.asl_explore.specs.Settled.{most_invocations}
use Rattle.asl_explore.specs.Searches.{IsMet, AreTakenOn, NoneWaits}
use Rattle.asl_explore.proofs.Steady.{AreLike, asked, held-less, like-less}
use Rattle.asl_explore.proofs.Asking.{asks_of, asks_at}
use Rattle.asl_explore.proofs.Carrying.{with_counts, go, after_bare, ArePrompt, AreTriedOn, asks}
use Rattle.asl_explore.proofs.Calm.{KeepsOn, IsHeldFor}
use Rattle.asl_explore.proofs.Orderly.{ready-prompt, go-is}
use Rattle.asl_explore.proofs.Ending.{expanded-ends, taken-expanded}
use Rattle.asl_explore.proofs.Reduced.{good-opening, Plain, plain, ends-so}
use Rattle.asl_explore.proofs.Stopped.{Back, recounted, taken-back}
use Rattle.asl_explore.proofs.Sums.{AreAll, all-opening, summed}
use Rattle.asl_explore.proofs.Waiting.{all-tried, never-waits}

-- ---- an order that invokes services so often

pub record AsksOn (s : Setup) (w : World) (b : ℕ) : Type 0 where
  pub places : List (List ℕ)
  pub prompt : ArePrompt s w places
  pub many : asks s w places ≡ b

-- an end is reached, or services are invoked so often
abbrev pub Goes : Setup → World → ℕ → Type 0
Goes s w b = CanEnd Prompt s w ⊎ AsksOn s w b

asked-once : (raises : Bool) → asked raises ≤ 1
asked-once true = omega arith
asked-once false = omega arith

asks-once : (s : Setup) (w : World) (p : List ℕ) → asks_at s w p ≤ 1
unfolding asks_at
asks-once s w p = by (is_late (max w.last (due w p)) w.deadline) (record_at p w.branches)
  where
    by : (c : Bool) (o : Option Record) → cond c 0 (asks_of s w p (max w.last (due w p)) o) ≤ 1
    by true o = omega arith
    by false None = omega arith
    by false (Some r) = asked-once (does s w p (max w.last (due w p)) r).raises

-- the front of an order that invokes them so often and no more
front : (s : Setup) (w : World) (ps : List (List ℕ)) (b : ℕ) → ArePrompt s w ps → b ≤ asks s w ps → AsksOn s w b
front s w [] b prompt le = record { places = []; prompt = tt; many = omega (arith, le) }
front s w (p ∷ ps) b prompt le = by (nat_le b 0) refl (front s (go s w p) ps (b - asks_at s w p) prompt.1)
  where
    by : (c : Bool) → nat_le b 0 ≡ c → (b - asks_at s w p ≤ asks s (go s w p) ps → AsksOn s (go s w p) (b - asks_at s w p)) → AsksOn s w b
    by true e more = let z : b ≤ 0 = grind (arith, nat_tests, e) in record { places = []; prompt = tt; many = omega (arith, z) }
    by false e more =
        let once = asks-once s w p in
        let some : 0 < b = grind (arith, nat_tests, e) in
        let x = more (omega (arith, le, once, some)) in
        let m = x.many in
        record { places = p ∷ x.places; prompt = (prompt.0, x.prompt); many = omega (arith, m, once, some) }

-- ---- what goes on from one world goes on from another

goes-back : (s : Setup) (u v : World) (b : ℕ) → ((ps : List (List ℕ)) → ArePrompt s v ps → asks s v ps ≤ b → Back s u v ps) → Goes s v b → Goes s u b
goes-back s u v b back g = by g
  where
    asking : AsksOn s v b → AsksOn s u b
    asking x =
        let m = x.many in
        let y = back x.places x.prompt (omega (arith, m)) in
        record { places = y.places; prompt = y.prompt; many = y.asking ∙ x.many }

    ending : (x : CanEnd Prompt s v) (c : Bool) → nat_le (asks s v x.places) b ≡ c → Goes s u b
    ending x true e =
        let y = back x.places x.tried (grind (arith, nat_tests, e)) in
        inl (record { places = y.places; tried = y.prompt; ends = ap is_over y.ends ∙ x.ends })
    ending x false e = let lt : b < asks s v x.places = grind (arith, nat_tests, e) in inr (asking (front s v x.places b x.tried (omega (arith, lt))))

    by : Goes s v b → Goes s u b
    by (inl x) = ending x (nat_le (asks s v x.places) b) refl
    by (inr x) = inr (asking x)

-- from one whose counts don't matter so long
counts-back : (s : Setup) (w : World) (ds : List ℕ) (b : ℕ) → AreLike s b w.counts ds → Goes s (with_counts ds w) b → Goes s w b
counts-back s w ds b like = goes-back s w (with_counts ds w) b (λ ps prompt few. recounted s w ds ps (like-less s (asks s (with_counts ds w) ps) b w.counts ds few like) prompt)

-- from where a quiet step was taken
module _ (s : Setup) (p : List ℕ) (r : Record) (e : Effect) (calm : KeepsOn e) (b : ℕ) (u : World) (w : IsPending s u p r e) (held : IsHeldFor s u r b) where
  free-back : is_stopped p u.branches ≡ false → Goes s (ahead s u p r e) b → Goes s u b
  free-back free = by
    where
      ready : IsReady s u p u.last r
      ready = record { running = w.running; early = w.early; there = w.there; free = free; ready = w.ready }

      is : go s u p ≡ ahead s u p r e
      is = go-is s u p r ready ∙ ap (λ (f : Effect). bare (world_with p (number_in s.machine r) u.last f u)) w.so

      all : (ps : List (List ℕ)) → ArePrompt s (ahead s u p r e) ps → ArePrompt s u (p ∷ ps)
      all ps prompt = (ready-prompt s u p r ready w.untold, subst (λ (z : World). ArePrompt s z ps) (sym is) prompt)

      by : Goes s (ahead s u p r e) b → Goes s u b
      by (inl x) = inl (record { places = p ∷ x.places; tried = all x.places x.tried; ends = subst (λ (z : World). is_over (after_bare s z x.places).outcome ≡ true) (sym is) x.ends })
      by (inr x) =
          let same : asks s (go s u p) x.places ≡ asks s (ahead s u p r e) x.places = ap (λ z. asks s z x.places) is in
          let m = x.many in
          inr (front s u (p ∷ x.places) b (all x.places x.prompt) (omega (arith, same, m)))

  stopped-back : is_stopped p u.branches ≡ true → Goes s (ahead s u p r e) b → Goes s u b
  stopped-back stopped =
      let c = count_of u.counts (number_in s.machine r) in
      goes-back s u (ahead s u p r e) b (λ ps prompt few. taken-back s p r e calm ps u w stopped (held-less s r c (c + (b + 1)) c (c + (asks s (ahead s u p r e) ps + 1)) (omega arith) (omega (arith, few)) held) prompt)

  ahead-back : Goes s (ahead s u p r e) b → Goes s u b
  ahead-back = by (is_stopped p u.branches) refl
    where
      by : (c : Bool) → is_stopped p u.branches ≡ c → Goes s (ahead s u p r e) b → Goes s u b
      by true e = stopped-back e
      by false e = free-back e

-- ---- each order

goes-on : (s : Setup) (ws : List World) (os : List Outcome) → IsMet ws os (opening s) → AreTakenOn Prompt s ws os (length ws) → All (CanEnd Prompt s) ws → (ps : List (List ℕ)) → ArePrompt s (bare (opening s)) ps → asks s (bare (opening s)) ps ≤ most_invocations
    → Goes s (after_bare s (bare (opening s)) ps) (most_invocations - asks s (bare (opening s)) ps)
goes-on s ws os m all ends ps prompt few =
    let b = most_invocations - asks s (bare (opening s)) ps in
    let v = after_bare s (bare (opening s)) ps in
    let E : World → Type 0 = λ w. Goes s w b → Goes s v b in
    let c : Contains ws (bare (opening s)) = m.runs refl in
    ends-so s ws os E (Goes s v b) b
    (λ w ds like f g. f (counts-back s w ds b like g))
    (λ w over k f. f (inl (record { places = []; tried = tt; ends = over })))
    (λ i lt w at running f. f (inl (subst (CanEnd Prompt s) (at w) (ends i w lt))))
    (λ p r e calm u pending held f g. f (ahead-back s p r e calm b u pending held g))
    all c.0 c.1 (bare (opening s)) (λ d. sym (get_or_read ws c.0 (bare (opening s)) c.1 (sym c.2) d)) (good-opening s) refl ps prompt (omega (arith, few)) (λ g. g)

pub bare-after : (s : Setup) (w : World) (ps : List (List ℕ)) → bare (after_bare s (bare w) ps) ≡ after_bare s (bare w) ps
bare-after s w [] = refl
bare-after s w (p ∷ ps) = bare-after s (step s (bare w) p (due w p)) ps

fills : (s : Setup) (ps : List (List ℕ)) → ArePrompt s (bare (opening s)) ps → asks s (bare (opening s)) ps ≤ most_invocations → AsksOn s (after_bare s (bare (opening s)) ps) (most_invocations - asks s (bare (opening s)) ps) → CanFill Prompt s (after_bare s (bare (opening s)) ps)
fills s ps prompt few x = record { places = x.places; tried = x.prompt; full = full }
  where
    v : World
    v = after_bare s (bare (opening s)) ps

    before : AreAll s v.counts × (sum v.counts ≡ sum (opening s).counts + asks s (bare (opening s)) ps)
    before = summed s (opening s) ps (all-opening s) prompt

    behind : sum (after_bare s v x.places).counts ≡ sum v.counts + asks s v x.places
    behind = subst (λ (z : World). sum (after_bare s z x.places).counts ≡ sum v.counts + asks s z x.places) (bare-after s (opening s) ps) (summed s v x.places before.0 (subst (λ (z : World). ArePrompt s z x.places) (sym (bare-after s (opening s) ps)) x.prompt)).1

    full : most_invocations ≤ sum (after_bare s v x.places).counts
    full = let m = x.many in let a = before.1 in let b = behind in omega (arith, few, m, a, b)

prompt-fills : (s : Setup) (ws : List World) (os : List Outcome) → IsMet ws os (opening s) → AreTakenOn Prompt s ws os (length ws) → All (CanEnd Prompt s) ws → EachEndsOrFills Prompt s
prompt-fills s ws os m all ends ps tried = subst (λ (w : World). CanEnd Prompt s w ⊎ CanFill Prompt s w) (sym x.ends) (by (goes-on s ws os m all ends x.places x.prompt x.few))
  where
    x : Plain s (opening s) ps most_invocations
    x = plain s (opening s) ps most_invocations (omega arith) tried

    v : World
    v = after_bare s (bare (opening s)) x.places

    by : Goes s v (most_invocations - asks s (bare (opening s)) x.places) → CanEnd Prompt s v ⊎ CanFill Prompt s v
    by (inl y) = inl y
    by (inr y) = inr (fills s x.places x.prompt x.few y)

-- whichever orders were tried
pub searched-fills : (o : Orders) (s : Setup) (ws : List World) (os : List Outcome) → IsMet ws os (opening s) → AreTakenOn o s ws os (length ws) → All (CanEnd o s) ws → EachEndsOrFills o s
searched-fills Prompt s ws os m all ends = prompt-fills s ws os m all ends
searched-fills Every s ws os m all ends = λ ps tried. inl (expanded-ends Every s ws os m (λ k d l. taken-expanded Every s ws os k (get_or ws k d) refl (all k l d)) ends ps tried)

-- ---- where no branch ever waits

pub every-tried : (s : Setup) (w : World) (ps : List (List ℕ)) → AreTriedOn Every s w ps
every-tried s w [] = tt
every-tried s w (p ∷ ps) = (tt, every-tried s (go s w p) ps)

-- a search of orders in which no branch is late tried these
pub prompt-tried : (o : Orders) → (o ≡ Prompt) ⊎ (Prompt ≡ Every) → o ≡ Prompt
prompt-tried o (inl e) = e
prompt-tried o (inr e) = absurd (cc)

pub waitless-fills : (o : Orders) (s : Setup) (ws : List World) (os : List Outcome) → o ≡ Every → IsMet ws os (opening s) → AreTakenOn Prompt s ws os (length ws) → NoneWaits ws → deadline_of s ≡ None → All (CanEnd Prompt s) ws → EachEndsOrFills o s
waitless-fills o s ws os every m all none limit ends = subst (λ (z : Orders). EachEndsOrFills z s) (sym every) of
  where
    later : (w : World) → CanEnd Prompt s w ⊎ CanFill Prompt s w → CanEnd Every s w ⊎ CanFill Every s w
    later w (inl x) = inl (record { places = x.places; tried = every-tried s w x.places; ends = x.ends })
    later w (inr x) = inr (record { places = x.places; tried = every-tried s w x.places; full = x.full })

    of : EachEndsOrFills Every s
    of ps tried =
        let x = all-tried s ps (opening s) most_invocations (omega arith) limit (never-waits s ws os m all none) in
        later (bare (after_order s (opening s) ps)) (subst (λ (w : World). CanEnd Prompt s (bare w) ⊎ CanFill Prompt s (bare w)) x.ends (prompt-fills s ws os m all ends x.places x.tried))
