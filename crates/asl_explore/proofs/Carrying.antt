-- Worlds that are alike but for counts that don't matter: the same orders end in worlds that are alike so.
use Rattle.std.proofs.Common.{ℕ, ◌≡◌, ◌+◌, Bool, true, false, List, [], ◌∷◌, refl, sym, ◌∙◌, ap, subst, arith, cond, max, Some, None, Option}
use Rattle.std.specs.Prelude.{is_none}
use Rattle.asl_step.specs.declared.effect.Effect.{Effect}
use Rattle.asl_step.specs.declared.record.Record.{Record}
use Rattle.asl_step.specs.declared.record.Record.TheVariants.{New, Ready, Pausing, Again, Forked, Done, Failed}
use Rattle.asl_run_branches.specs.Branches.{record_at}
use Rattle.asl_run_state.specs.Bare.{bare}
use Rattle.asl_run_state.specs.World.{World, is_late, timed_out, world_with, counts_after}
use Rattle.asl_run_state.specs.Refusals.{refusal_by, refusal_at, refusal_of}
use Rattle.asl_run_state.specs.declared.refusal.Refusal.{Refusal}
use Rattle.asl_run_input.specs.declared.setup.Setup.{Setup}
use Rattle.asl_exec.specs.Steps.{number_in, refusal_in, moved_on, step}
use Rattle.asl_exec.proofs.Accepting.{step_refused, step_taken, step_late}
use Rattle.asl_exec.proofs.Going.{does}
use Rattle.asl_explore.specs.declared.orders.Orders.TheVariants.{Prompt}
use Rattle.asl_explore.specs.Orders.{due, MayStep, IsPrompt}
pub use Rattle.asl_explore.specs.Orders.{go, after_bare, AreTriedOn}
use Rattle.asl_explore.proofs.Steady.{AreLike, asked, like-less, like-does, like-after}
use Rattle.asl_explore.proofs.Asking.{asks_of, asks_at, asks-taken}

-- the same world, whose states were invoked so often
abbrev pub with_counts : List ℕ → World → World
with_counts ds w = record { branches = w.branches; counts = ds; events = w.events; last = w.last; deadline = w.deadline; outcome = w.outcome }

-- ---- such orders

abbrev pub ArePrompt : Setup → World → List (List ℕ) → Type 0
ArePrompt s w ps = AreTriedOn Prompt s w ps

-- so often they invoke a service
abbrev pub asks : Setup → World → List (List ℕ) → ℕ
asks s w [] = 0
asks s w (p ∷ ps) = asks_at s w p + asks s (go s w p) ps

module _ (s : Setup) (u : World) (ds : List ℕ) where
  -- ---- it refuses the same steps

  by-same : (p : List ℕ) (now slots : ℕ) (r : Record) → refusal_by (with_counts ds u) p now slots r ≡ refusal_by u p now slots r
  by-same p now slots (New n x) = refl
  by-same p now slots (Ready n x) = refl
  by-same p now slots (Pausing n x since until) = refl
  by-same p now slots (Again n x since uses until) = refl
  by-same p now slots (Forked n x since uses items) = refl
  by-same p now slots (Done x) = refl
  by-same p now slots (Failed e) = refl

  at-same : (p : List ℕ) (now slots : ℕ) (o : Option Record) → refusal_at (with_counts ds u) p now slots o ≡ refusal_at u p now slots o
  at-same p now slots None = refl
  at-same p now slots (Some r) = rw (by-same p now slots r) refl

  refused-same : (p : List ℕ) (t : ℕ) → refusal_in s (with_counts ds u) p t ≡ refusal_in s u p t
  unfolding refusal_of
  refused-same p t = rw (at-same p (max u.last t) _ (record_at p u.branches)) refl

  -- ---- a step leaves worlds that are alike so

  -- x with other counts is y
  record Beside (b : ℕ) (x y : World) : Type 0 where
    counts : List ℕ
    same : y ≡ with_counts counts x
    like : AreLike s b x.counts counts

  beside-at : (b : ℕ) (x y v w : World) → x ≡ v → y ≡ w → Beside b v w → Beside b x y
  beside-at b x y v w e f h = rw (e, f) h

  module _ (p : List ℕ) (b : ℕ) (like : AreLike s (asks_at s u p + b) u.counts ds) where
    less : AreLike s b u.counts ds
    less = like-less s b (asks_at s u p + b) u.counts ds (omega arith) like

    moved : (o : Option Record) → is_late (max u.last (due u p)) u.deadline ≡ false → record_at p u.branches ≡ o → Beside b (moved_on s u p (max u.last (due u p)) o) (moved_on s (with_counts ds u) p (max u.last (due u p)) o)
    moved None l e = record { counts = ds; same = refl; like = less }
    moved (Some r) l e =
        let now = max u.last (due u p) in
        let n = number_in s.machine r in
        let f = does s u p now r in
        let does-same : does s (with_counts ds u) p now r ≡ f = like-does s u p now r b u.counts ds less in
        let asking : AreLike s (asked f.raises + b) u.counts ds = subst (λ k. AreLike s (k + b) u.counts ds) (asks-taken s u p (Some r) l e) like in
        record {
          counts = counts_after n f.raises ds;
          same = ap (λ z. world_with p n now z (with_counts ds u)) does-same;
          like = like-after s b n f.raises u.counts ds asking;
        }

    stepped : Beside b (step s u p (due u p)) (step s (with_counts ds u) p (due u p))
    stepped = by (refusal_in s u p (due u p)) (is_late (max u.last (due u p)) u.deadline) refl refl
      where
        x : World
        x = step s u p (due u p)

        y : World
        y = step s (with_counts ds u) p (due u p)

        by : (o : Option Refusal) (c : Bool) → refusal_in s u p (due u p) ≡ o → is_late (max u.last (due u p)) u.deadline ≡ c → Beside b x y
        by (Some f) c e l =
            beside-at b x y u (with_counts ds u) (step_refused s u p (due u p) (ap is_none e)) (step_refused s (with_counts ds u) p (due u p) (ap is_none (refused-same p (due u p) ∙ e)))
            (record { counts = ds; same = refl; like = less })
        by None true e l =
            beside-at b x y (timed_out (max u.last (due u p)) u) (timed_out (max u.last (due u p)) (with_counts ds u)) (step_late s u p (due u p) e l) (step_late s (with_counts ds u) p (due u p) (refused-same p (due u p) ∙ e) l)
            (record { counts = ds; same = refl; like = less })
        by None false e l =
            beside-at b x y (moved_on s u p (max u.last (due u p)) (record_at p u.branches)) (moved_on s (with_counts ds u) p (max u.last (due u p)) (record_at p u.branches)) (step_taken s u p (due u p) e l) (step_taken s (with_counts ds u) p (due u p) (refused-same p (due u p) ∙ e) l)
            (moved (record_at p u.branches) l refl)

    -- it invokes a service as often
    of-same : (now : ℕ) (o : Option Record) → asks_of s (with_counts ds u) p now o ≡ asks_of s u p now o
    of-same now None = refl
    of-same now (Some r) = ap (λ (z : Effect). asked z.raises) (like-does s u p now r b u.counts ds less)

    asks-same : asks_at s (with_counts ds u) p ≡ asks_at s u p
    unfolding asks_at
    asks-same = ap (cond (is_late (max u.last (due u p)) u.deadline) 0) (of-same (max u.last (due u p)) (record_at p u.branches))

-- ---- the same steps may be taken

may-same : (s : Setup) (u : World) (ds : List ℕ) (q : List ℕ) → MayStep s u q → MayStep s (with_counts ds u) q
may-same s u ds q h = (h.0, refused-same s u ds q (due u q) ∙ h.1)

may-back : (s : Setup) (u : World) (ds : List ℕ) (q : List ℕ) → MayStep s (with_counts ds u) q → MayStep s u q
may-back s u ds q h = (h.0, sym (refused-same s u ds q (due u q)) ∙ h.1)

prompt-same : (s : Setup) (u : World) (ds : List ℕ) (p : List ℕ) → IsPrompt s u p → IsPrompt s (with_counts ds u) p
prompt-same s u ds p h = (may-same s (bare u) ds p h.0, λ q may. h.1 q (may-back s (bare u) ds q may))

-- ---- the same orders

-- with counts that don't matter in so many further invocations either
pub record Carried (s : Setup) (u : World) (ds : List ℕ) (ps : List (List ℕ)) (spare : ℕ) : Type 0 where
  pub prompt : ArePrompt s (with_counts ds u) ps
  pub asking : asks s (with_counts ds u) ps ≡ asks s u ps
  pub counts : List ℕ
  pub ends : after_bare s (with_counts ds u) ps ≡ with_counts counts (after_bare s u ps)
  pub like : AreLike s spare (after_bare s u ps).counts counts

pub carried : (s : Setup) (u : World) (ds : List ℕ) (ps : List (List ℕ)) (spare : ℕ) → AreLike s (asks s u ps + spare) u.counts ds → ArePrompt s u ps → Carried s u ds ps spare
carried s u ds [] spare like prompt = record { prompt = tt; asking = refl; counts = ds; ends = refl; like = like-less s spare (0 + spare) u.counts ds (omega arith) like }
carried s u ds (p ∷ ps) spare like prompt =
    let b = asks s (go s u p) ps + spare in
    let all : AreLike s (asks_at s u p + b) u.counts ds = like-less s (asks_at s u p + b) (asks_at s u p + asks s (go s u p) ps + spare) u.counts ds (omega arith) like in
    let x = stepped s u ds p b all in
    let is : go s (with_counts ds u) p ≡ with_counts x.counts (go s u p) = ap bare x.same in
    let y = carried s (go s u p) x.counts ps spare x.like prompt.1 in
    record {
      prompt = (prompt-same s u ds p prompt.0, subst (λ z. ArePrompt s z ps) (sym is) y.prompt);
      asking = (λ i. asks-same s u ds p b all i + asks s (is i) ps) ∙ ap (λ n. asks_at s u p + n) y.asking;
      counts = y.counts;
      ends = ap (λ z. after_bare s z ps) is ∙ y.ends;
      like = y.like;
    }
