-- In an order in which no branch is late a quiet step may be taken first.
use Rattle.std.proofs.Common.{ℕ, ◌≡◌, ◌⊎◌, inl, inr, ◌≤◌, Bool, true, false, List, [], ◌∷◌, refl, sym, ◌∙◌, ap, subst, arith, length, max, ◌+◌, Some, None, Option}
use Rattle.std.specs.Prelude.{is_some}
use Rattle.asl_history.specs.Places.{is_prefix}
use Rattle.asl_step.specs.declared.effect.Effect.{Effect}
use Rattle.asl_step.specs.declared.record.Record.{Record}
use Rattle.asl_step.specs.declared.record.Record.TheVariants.{New, Ready, Pausing, Again, Forked, Done, Failed}
use Rattle.asl_run_branches.specs.Branches.{record_at}
use Rattle.asl_run_state.specs.Bare.{bare}
use Rattle.asl_run_state.specs.World.{World, is_late, world_with, counts_after, count_of}
use Rattle.asl_run_input.specs.declared.setup.Setup.{Setup}
use Rattle.asl_exec.specs.Steps.{number_in, refusal_in, step}
use Rattle.asl_exec.proofs.Going.{does, IsReady, next, step-is, ready-if}
use Rattle.asl_exec_swap_laws.proofs.Apart.{IsApart}
use Rattle.asl_exec_swap_laws.proofs.Rooting.{one-place}
use Rattle.asl_exec_swap_laws.proofs.Pending.{IsPending, ahead, after}
use Rattle.asl_exec_swap_laws.proofs.Inline.{Someone, someone, ready-due, ready-going, none-under}
use Rattle.asl_explore.specs.Orders.{due_of, due, MayStep, IsPrompt}
use Rattle.asl_explore.proofs.Steady.{AreLike, asked, held-less}
use Rattle.asl_explore.proofs.Asking.{asks_at, asks-taken}
use Rattle.asl_explore.proofs.Carrying.{with_counts, go, after_bare, ArePrompt, asks, carried}
use Rattle.asl_explore.proofs.Calm.{KeepsOn, IsHeldFor, ready-ahead, same-ahead, commutes, still-pending, above-ready, above-asked, above-same, like-next, held-next}

-- ---- a branch that may step at once

untold-is : (u : World) → u.events ≡ [] → bare u ≡ u
untold-is u h = λ i. record { branches = u.branches; counts = u.counts; events = sym h i; last = u.last; deadline = u.deadline; outcome = u.outcome }

pub due-least : (last : ℕ) (o : Option Record) → last ≤ due_of last o
due-least last None = omega arith
due-least last (Some (New n x)) = omega arith
due-least last (Some (Ready n x)) = omega arith
due-least last (Some (Pausing n x since until)) = omega arith
due-least last (Some (Again n x since uses until)) = omega arith
due-least last (Some (Forked n x since uses items)) = omega arith
due-least last (Some (Done x)) = omega arith
due-least last (Some (Failed e)) = omega arith

module _ (s : Setup) (u : World) (q : List ℕ) (m : Record) (h : IsReady s u q u.last m) where
  pub at-once : due u q ≡ u.last
  at-once = ap (due_of u.last) h.there ∙ ready-due u q _ m h.ready

  taken : (refusal_in s u q (due u q) ≡ None) × (step s u q (due u q) ≡ next s u q u.last m)
  taken = let e = at-once in step-is s u q (due u q) u.last m (omega (arith, e)) h

  may-step : u.events ≡ [] → MayStep s (bare u) q
  may-step untold = (ap is_some h.there, subst (λ (w : World). refusal_in s w q (due u q) ≡ None) (sym (untold-is u untold)) taken.0)

  pub go-is : go s u q ≡ after s u q m
  go-is = ap bare taken.1

  -- so often it invokes a service
  pub asks-is : asks_at s u q ≡ asked (does s u q u.last m).raises
  asks-is =
      let e = at-once in
      let now : max u.last (due u q) ≡ u.last = omega (arith, e) in
      asks-taken s u q (Some m) (rw now h.early) h.there ∙ ap (λ t. asked (does s u q t m).raises) now

  pub ready-prompt : u.events ≡ [] → IsPrompt s u q
  ready-prompt untold = (may-step untold, λ z may. let e = at-once in let l = due-least u.last (record_at z u.branches) in omega (arith, e, l))

-- where some branch may step at once, the others that are prompt may too
pub prompt-ready : (s : Setup) (u : World) (q : List ℕ) → Someone s u → is_late u.last u.deadline ≡ false → u.events ≡ [] → IsPrompt s u q → (m : Record) × IsReady s u q u.last m
prompt-ready s u q z early untold prompt =
    let d = at-once s u z.place z.current z.ready in
    let le = prompt.1 z.place (may-step s u z.place z.current z.ready untold) in
    let l = due-least u.last (record_at q u.branches) in
    let e : due u q ≡ u.last = omega (arith, d, le, l) in
    let now : max u.last (due u q) ≡ u.last = omega (arith, e) in
    let accepted : refusal_in s u q (due u q) ≡ None = subst (λ (w : World). refusal_in s w q (due u q) ≡ None) (untold-is u untold) prompt.0.1 in
    let x = ready-if s u q (due u q) accepted (rw now early) in
    (x.0, subst (λ (t : ℕ). IsReady s u q t x.0) now x.1)

-- ---- a quiet step is taken first

-- an order from a world that isn't longer, invokes services no more often, and ends as wanted
pub record Order (s : Setup) (E : World → Type 0) (n k : ℕ) (v : World) : Type 0 where
  pub places : List (List ℕ)
  pub prompt : ArePrompt s v places
  pub ends : E (after_bare s v places)
  pub short : length places ≤ n
  pub few : asks s v places ≤ k

longer : (s : Setup) (E : World → Type 0) (n m k l : ℕ) (v : World) → n ≤ m → k ≤ l → Order s E n k v → Order s E m l v
longer s E n m k l v le less o =
    let short = o.short in
    let few = o.few in
    record { places = o.places; prompt = o.prompt; ends = o.ends; short = omega (arith, le, short); few = omega (arith, less, few) }

module _ (s : Setup) (p : List ℕ) (r : Record) (e : Effect) (calm : KeepsOn e) (E : World → Type 0) (spare : ℕ) (blind : (u : World) (ds : List ℕ) → AreLike s spare u.counts ds → E u → E (with_counts ds u)) (closed : (u : World) → IsPending s u p r e → IsHeldFor s u r spare → E u → E (ahead s u p r e)) where
  -- of any order from where the branch may do it
  abbrev Before : List (List ℕ) → Type 0
  Before ps = (u : World) → IsPending s u p r e → IsHeldFor s u r (asks s u ps + spare) → ArePrompt s u ps → E (after_bare s u ps) → Order s E (length ps) (asks s u ps) (ahead s u p r e)

  module _ (q : List ℕ) (ps : List (List ℕ)) (more : Before ps) (u : World) (w : IsPending s u p r e) (m : Record) (h : IsReady s u q u.last m) (prompt : ArePrompt s (after s u q m) ps) (ends : E (after_bare s (after s u q m) ps)) where
    -- so often the others invoke a service, and all
    abbrev rest : ℕ
    rest = asks s (after s u q m) ps

    abbrev all : ℕ
    all = asked (does s u q u.last m).raises + asks s (after s u q m) ps

    -- and all for which the branch is held
    abbrev whole : ℕ
    whole = asked (does s u q u.last m).raises + asks s (after s u q m) ps + spare

    module _ (held : IsHeldFor s u r (asked (does s u q u.last m).raises + asks s (after s u q m) ps + spare)) where
      -- the order goes on from the same world
      resumed : after s u q m ≡ ahead s u p r e → Order s E (length (q ∷ ps)) all (ahead s u p r e)
      resumed is =
          let same : asks s (ahead s u p r e) ps ≡ rest = ap (λ z. asks s z ps) (sym is) in
          record {
            places = ps;
            prompt = subst (λ (z : World). ArePrompt s z ps) is prompt;
            ends = subst (λ (z : World). E (after_bare s z ps)) is ends;
            short = omega arith;
            few = omega (arith, same);
          }

      -- the step at q is taken behind it, and leads to a world from which this order goes on
      behind : IsReady s (ahead s u p r e) q u.last m → asked (does s (ahead s u p r e) q u.last m).raises ≡ asked (does s u q u.last m).raises → (v : World) → after s (ahead s u p r e) q m ≡ v → Order s E (length ps) rest v → Order s E (length (q ∷ ps)) all (ahead s u p r e)
      behind ready same v is o =
          let a = ahead s u p r e in
          let gone : go s a q ≡ v = go-is s a q m ready ∙ is in
          let short = o.short in
          let few = o.few in
          let first : asks_at s a q ≡ asked (does s u q u.last m).raises = asks-is s a q m ready ∙ same in
          let others : asks s (go s a q) o.places ≡ asks s v o.places = ap (λ z. asks s z o.places) gone in
          record {
            places = q ∷ o.places;
            prompt = (ready-prompt s a q m ready refl, subst (λ (z : World). ArePrompt s z o.places) (sym gone) o.prompt);
            ends = subst (λ (z : World). E (after_bare s z o.places)) (sym gone) o.ends;
            short = omega (arith, short);
            few = omega (arith, few, first, others);
          }

      itself : p ≡ q → after s u q m ≡ ahead s u p r e
      itself is =
          let there : record_at p u.branches ≡ Some m = subst (λ (z : List ℕ). record_at z u.branches ≡ Some m) (sym is) h.there in
          let some : Some m ≡ Some r = sym there ∙ w.there in
          let same : m ≡ r = cc in
          (λ i. after s u (sym is i) (same i)) ∙ ap (λ (f : Effect). bare (world_with p (number_in s.machine r) u.last f u)) w.so

      -- the same order from the same world but for counts
      carried-on : (ds : List ℕ) → AreLike s (asks s (after s u q m) ps + spare) (after s u q m).counts ds → Order s E (length ps) rest (with_counts ds (after s u q m))
      carried-on ds like =
          let y = carried s (after s u q m) ds ps spare like prompt in
          let same = y.asking in
          record {
            places = ps;
            prompt = y.prompt;
            ends = subst E (sym y.ends) (blind (after_bare s (after s u q m) ps) y.counts y.like ends);
            short = omega arith;
            few = omega (arith, same);
          }

      above : is_prefix q p ≡ true → is_prefix p q ≡ false → Order s E (length (q ∷ ps)) all (ahead s u p r e)
      above a b = by (above-same s u p q r m e calm w h whole held a b)
        where
          ds : List ℕ
          ds = counts_after (number_in s.machine m) (does s u q u.last m).raises (counts_after (number_in s.machine r) e.raises u.counts)

          by : (after s (ahead s u p r e) q m ≡ with_counts ds (after s u q m)) ⊎ ((after s u q m ≡ u) × (after s (ahead s u p r e) q m ≡ ahead s u p r e)) → Order s E (length (q ∷ ps)) all (ahead s u p r e)
          by (inl is) =
              behind (above-ready s u p q r m e calm w h whole held a b) (above-asked s u p q r m e calm w h whole held a b) (with_counts ds (after s u q m)) is
              (carried-on ds (like-next s u p q r m e whole (rest + spare) w.so held (omega arith)))
          by (inr (is, stays)) =
              let same : asks s u ps ≡ rest = ap (λ z. asks s z ps) (sym is) in
              let c = count_of u.counts (number_in s.machine r) in
              longer s E (length ps) (length (q ∷ ps)) (asks s u ps) all (ahead s u p r e) (omega arith) (omega (arith, same))
              (more u w (held-less s r c (c + (whole + 1)) c (c + (asks s u ps + spare + 1)) (omega arith) (omega (arith, same)) held) (subst (λ (z : World). ArePrompt s z ps) is prompt) (subst (λ (z : World). E (after_bare s z ps)) is ends))

      beside : IsApart p q → Order s E (length (q ∷ ps)) all (ahead s u p r e)
      beside a =
          behind (ready-ahead s u p q r m e calm w h whole held a) (ap (λ (z : Effect). asked z.raises) (same-ahead s u p q r m e calm w h whole held a)) (ahead s (after s u q m) p r e) (commutes s u p q r m e calm w h whole held a)
          (more (after s u q m) (still-pending s u p q r m e calm w h whole held a) (held-next s u q r m whole (rest + spare) (omega arith) held) prompt ends)

      one-first : Order s E (length (q ∷ ps)) all (ahead s u p r e)
      one-first = by (is_prefix p q) (is_prefix q p) refl refl
        where
          by : (b c : Bool) → is_prefix p q ≡ b → is_prefix q p ≡ c → Order s E (length (q ∷ ps)) all (ahead s u p r e)
          by true true x y = resumed (itself (one-place p q x y))
          by true false x y = absurd (none-under s u p q r m e w h.free (ready-going s u q u.last m h) x y)
          by false true x y = above y x
          by false false x y = beside (record { left = x; right = y })

  pub quiet-first : (ps : List (List ℕ)) → Before ps
  quiet-first [] u w held prompt ends = let c = count_of u.counts (number_in s.machine r) in record { places = []; prompt = tt; ends = closed u w (held-less s r c (c + (0 + spare + 1)) c (c + (spare + 1)) (omega arith) (omega arith) held) ends; short = omega arith; few = omega arith }
  quiet-first (q ∷ ps) u w held prompt ends =
      let x = prompt-ready s u q (someone s u p r e w) w.early w.untold prompt.0 in
      let is = go-is s u q x.0 x.1 in
      let all : asks s u (q ∷ ps) ≡ asked (does s u q u.last x.0).raises + asks s (after s u q x.0) ps = λ i. asks-is s u q x.0 x.1 i + asks s (is i) ps in
      subst (λ n. Order s E (length (q ∷ ps)) n (ahead s u p r e)) (sym all)
      (one-first q ps (quiet-first ps) u w x.0 x.1 (subst (λ (z : World). ArePrompt s z ps) is prompt.1) (subst (λ (z : World). E (after_bare s z ps)) is ends)
      (subst (λ n. IsHeldFor s u r (n + spare)) all held))
