-- A search of all orders left out nothing that comes at other moments, where the definition reads no clock.
use Rattle.std.proofs.Common.{ℕ, ◌≡◌, ◌⊎◌, inl, inr, ◌∙◌, ap, subst, sym, refl, Bool, true, false, List, [], ◌∷◌, None}
use Rattle.std.specs.Prelude.{IsSome}
use Rattle.std.specs.List.{Contains}
use Rattle.asl_step_reads.specs.Reading.{reads}
use Rattle.asl_step_reads.specs.Steps.{clock_keys}
use Rattle.asl_run_state.specs.World.{World, is_over}
use Rattle.asl_run_state.specs.declared.outcome.Outcome.{Outcome}
use Rattle.asl_run_state.specs.declared.outcome.Outcome.TheVariants.{TimedOut}
use Rattle.asl_run_input.specs.declared.setup.Setup.{Setup}
use Rattle.asl_exec.specs.Steps.{deadline_of, step, opening, world_after}
use Rattle.asl_run_state.specs.Bare.{bare}
use Rattle.asl_exec_moment_laws.specs.Moments.{DifferInMoments}
use Rattle.asl_exec_moment_laws.proofs.Runs.{any-moments, step-aside, bare-aside}
use Rattle.asl_explore.specs.declared.orders.Orders.TheVariants.{Every}
use Rattle.asl_explore.specs.Orders.{due, after_order, AreTried, IsWhole, IsWholeAtAnyMoment}
use Rattle.asl_explore.specs.Searches.{IsMetAside, IsExpandedAside}
use Rattle.asl_explore.specs.Laws.{TimelessIsWhole}
use Rattle.asl_explore.proofs.Bare.{step-bare}
use Rattle.asl_explore.proofs.Ends.{after-over}

pub all-tried : (s : Setup) (w : World) (ps : List (List ℕ)) → AreTried Every s w ps
all-tried s w [] = tt
all-tried s w (p ∷ ps) = (tt, all-tried s (step s w p (due w p)) ps)

-- where a time limit ends the execution, this is one of the outcomes
pub any-moment : (s : Setup) (os : List Outcome) → reads clock_keys s.machine ≡ false → IsWhole Every s os → (IsSome (deadline_of s) → Contains os TimedOut) → IsWholeAtAnyMoment s os
any-moment s os unread whole limited l over = by (any-moments s l unread)
  where
    w : World
    w = world_after s (opening s) l

    by : ((w.outcome ≡ TimedOut) × IsSome (deadline_of s)) ⊎ ((ps : List (List ℕ)) × DifferInMoments w (after_order s (opening s) ps)) → Contains os w.outcome
    by (inl e) = subst (Contains os) (sym e.0) (limited e.1)
    by (inr e) = subst (Contains os) (sym e.1.outcome) (whole e.0 (all-tried s (opening s) e.0) (subst (λ (x : Outcome). is_over x ≡ true) e.1.outcome over))

-- ---- where one world stands for all that differ from it in moments alone

linked : (u v w : World) → DifferInMoments u v → DifferInMoments v w → DifferInMoments u w
linked u v w h k = record { branches = h.branches ∙ k.branches; counts = h.counts ∙ k.counts; many = h.many ∙ k.many; deadline = h.deadline ∙ k.deadline; outcome = h.outcome ∙ k.outcome }

-- a world, without its history, that differs from one in moments alone that is met
carried : (ws : List World) (os : List Outcome) (w v : World) → DifferInMoments (bare w) (bare v) → IsMetAside ws os v → IsMetAside ws os w
carried ws os w v h m = record {
  ends = λ o. subst (Contains os) (sym h.outcome) (m.ends (subst (λ (x : Outcome). is_over x ≡ true) h.outcome o));
  runs = λ r. let x = m.runs (subst (λ (x : Outcome). is_over x ≡ false) h.outcome r) in (x.0, (x.1.0, linked (bare w) (bare v) (bare x.0) h x.1.1));
}

module _ (s : Setup) (ws : List World) (os : List Outcome) (unread : reads clock_keys s.machine ≡ false) (expanded : (w : World) → Contains ws w → IsExpandedAside s ws os w) where
  -- a step leads to such a world, and leaves the deadline
  record IsStepped (w : World) (p : List ℕ) : Type 0 where
    met : IsMetAside ws os (step s w p (due w p))
    limit : (step s w p (due w p)).deadline ≡ None

  stepped-aside : (w : World) (p : List ℕ) → w.deadline ≡ None → IsMetAside ws os w → is_over w.outcome ≡ false → IsStepped w p
  stepped-aside w p limit m r = by (step-bare s w p (due w p))
    where
      x : (v : World) × (Contains ws v × DifferInMoments (bare w) (bare v))
      x = m.runs r

      by : ((step s w p (due w p)) ≡ w) ⊎ (bare (step s w p (due w p)) ≡ bare (step s (bare w) p (due w p))) → IsStepped w p
      by (inl e) = record { met = subst (IsMetAside ws os) (sym e) m; limit = ap (λ (z : World). z.deadline) e ∙ limit }
      by (inr e) =
          let y : World = step s (bare x.0) p (due x.0 p) in
          let aside : DifferInMoments (bare (step s (bare w) p (due w p))) (bare y) = bare-aside s w x.0 p unread limit x.1.1 in
          record {
            met = carried ws os (step s w p (due w p)) y (subst (λ (z : World). DifferInMoments z (bare y)) (sym e) aside) (expanded x.0 x.1.0 p);
            limit = ap (λ (z : World). z.deadline) e ∙ (step-aside s (bare w) (bare x.0) p unread limit x.1.1).limit;
          }

  ends-met : (w : World) (ps : List (List ℕ)) → w.deadline ≡ None → IsMetAside ws os w → is_over (after_order s w ps).outcome ≡ true → Contains os (after_order s w ps).outcome
  ends-met w [] limit m over = m.ends over
  ends-met w (p ∷ ps) limit m over = by (is_over w.outcome) refl (λ x. ends-met (step s w p (due w p)) ps x.limit x.met over)
    where
      by : (o : Bool) → is_over w.outcome ≡ o → (IsStepped w p → Contains os (after_order s w (p ∷ ps)).outcome) → Contains os (after_order s w (p ∷ ps)).outcome
      by true o later = subst (λ (z : World). Contains os z.outcome) (sym (after-over s w (p ∷ ps) o)) (m.ends o)
      by false o later = later (stepped-aside w p limit m o)

pub timeless-whole : TimelessIsWhole
timeless-whole s ws os unread limit begins expanded ps tried over = ends-met s ws os unread expanded (opening s) ps limit begins over
