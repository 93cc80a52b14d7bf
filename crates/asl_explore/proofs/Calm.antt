-- A step that invokes nothing, or a Task that is settled, and doesn't fail may be taken before all others.
use Rattle.std.proofs.Common.{ℕ, ◌≡◌, ◌⊎◌, inl, inr, ◌≤◌, ◌+◌, ◌==◌, Bool, true, false, not, List, [], refl, sym, ◌∙◌, ap, subst, arith, Some, None, Option}
use Rattle.std.specs.Prelude.{is_some}
use Rattle.std.proofs.lemmas.Bool.{both_ways, eqb-true, eqb-false}
use Rattle.asl_json_data.specs.Data.{Data}
use Rattle.asl_json.specs.declared.value.Json.{Json}
use Rattle.asl_history.specs.Places.{is_prefix}
use Rattle.asl_step.specs.Bounds.{are_kept}
use Rattle.asl_step.specs.Records.{is_failed}
use Rattle.asl_step.specs.Rows.{idle}
use Rattle.asl_step.specs.declared.effect.Children.TheVariants.{Removed}
use Rattle.asl_step.specs.declared.effect.Effect.{Effect}
use Rattle.asl_step.specs.declared.effect.Ended.{Ended}
use Rattle.asl_step.specs.declared.record.Record.{Record}
use Rattle.asl_step.specs.declared.record.Record.TheVariants.{New, Ready, Pausing, Again, Forked, Done, Failed}
use Rattle.asl_kinds.specs.Forks.{first_error}
use Rattle.asl_run_branches.specs.Branches.{record_at, children_at, branches_after}
use Rattle.asl_run_state.specs.World.{World, outcome_after, counts_after, count_of}
use Rattle.asl_run_state.specs.declared.outcome.Outcome.{Outcome}
use Rattle.asl_run_input.specs.declared.setup.Setup.{Setup}
use Rattle.asl_exec.specs.Exchanges.{IsOneEach}
use Rattle.asl_exec.specs.Steps.{facts_of, number_in, object_in, invokes_by, seen_at, effect_in, effect_by}
use Rattle.asl_exec.proofs.Going.{does, slots_at, IsReady}
use Rattle.asl_exec.proofs.Accepting.{effect-bounded, seen-is}
use Rattle.asl_exec_swap_laws.proofs.Apart.{IsApart, apart-sym}
use Rattle.asl_exec_swap_laws.proofs.Leaving.{record-stays, children-stay, forker-stays, iteration-stays, branches-commute}
use Rattle.asl_exec_swap_laws.proofs.Fewer.{all-at, not-stopped, not-crowded, is_undone}
use Rattle.asl_exec_swap_laws.proofs.Changing.{ready-later, undone-by}
use Rattle.asl_exec_swap_laws.proofs.Telling.{counts-commute}
use Rattle.asl_exec_swap_laws.proofs.Effects.{effect-takes, effect-same, waiting}
use Rattle.asl_exec_swap_laws.proofs.Rooted.{is_joining}
use Rattle.asl_exec_swap_laws.proofs.Joining.{error-stays, absorbs, nothing-changes, all-are}
use Rattle.asl_exec_swap_laws.proofs.OneEach.{one-after}
use Rattle.asl_exec_swap_laws.proofs.Inline.{joining-ready, not-busy}
use Rattle.asl_exec_swap_laws.proofs.Pending.{IsPending, ahead, after, none-over, unfinished-by, rooted-next, each-next}
use Rattle.asl_explore.proofs.Failing.{error-any, HasFailed, failed-under}
use Rattle.asl_explore.proofs.Steady.{counted, IsHeld, held-does, held-less, AreLike, like-less, like-does, like-after, like-ahead, asked, count-after}
use Rattle.asl_explore.proofs.Carrying.{with_counts}

-- what a branch does neither ends the execution nor fails the branch
pub record KeepsOn (e : Effect) : Type 0 where
  pub silent : e.outcome ≡ None
  pub whole : is_failed e.after ≡ false

-- a step of this branch does the same after b other invocations at most, and once more
abbrev pub IsHeldFor : Setup → World → Record → ℕ → Type 0
IsHeldFor s u r b = IsHeld s r (count_of u.counts (number_in s.machine r)) (count_of u.counts (number_in s.machine r) + (b + 1))

-- ---- counts

-- two are raised in either order
pub counts-swap : (n m : Option ℕ) (e f : Bool) (cs : List ℕ) → counts_after m f (counts_after n e cs) ≡ counts_after n e (counts_after m f cs)
counts-swap n m true false cs = refl
counts-swap n m false f cs = refl
counts-swap None m true true cs = refl
counts-swap (Some n) None true true cs = refl
counts-swap (Some n) (Some m) true true cs = by (n == m) refl
  where
    by : (c : Bool) → (n == m) ≡ c → counts_after (Some m) true (counts_after (Some n) true cs) ≡ counts_after (Some n) true (counts_after (Some m) true cs)
    by true e = let same : n ≡ m = eqb-true n m e in subst (λ z. counts_after (Some z) true (counts_after (Some n) true cs) ≡ counts_after (Some n) true (counts_after (Some z) true cs)) same refl
    by false e = counts-commute (Some n) (Some m) true true cs (λ x y k a b. eqb-false n m e (one k a b))
      where
        one : (k : ℕ) → Some n ≡ Some k → Some m ≡ Some k → n ≡ m
        one k a b = let nk : n ≡ k = cc in let mk : m ≡ k = cc in nk ∙ sym mk

-- ---- the step, and what it is after another one

pub invokes-so : (s : Setup) (u : World) (p : List ℕ) (r : Record) (e : Effect) → does s u p u.last r ≡ e → e.raises ≡ true → invokes_by (object_in s.machine r) ≡ true
invokes-so s u p r e so h = (effect-bounded s.machine (facts_of s) (seen_at s.machine s.case u p u.last r)).raises (ap (λ (z : Effect). z.raises) so ∙ h)

-- a step at a place that isn't the root doesn't end the execution
goes-on : (s : Setup) (u : World) (p q : List ℕ) (now : ℕ) (m : Record) → is_prefix q p ≡ false → (does s u q now m).outcome ≡ None
goes-on s u p q now m a = by (does s u q now m).outcome refl
  where
    root : q ≡ [] → ⊥
    root e = let x : true ≡ false = rw e at a in (cc)

    by : (o : Option Ended) → (does s u q now m).outcome ≡ o → (does s u q now m).outcome ≡ None
    by None e = e
    by (Some x) e = absurd (root ((effect-bounded s.machine (facts_of s) (seen_at s.machine s.case u q now m)).at_root (ap is_some e)))

-- where a step does nothing, the world stays
still-idle : (s : Setup) (u : World) (q : List ℕ) (m : Record) → u.events ≡ [] → IsOneEach u.branches → record_at q u.branches ≡ Some m → does s u q u.last m ≡ idle m → after s u q m ≡ u
still-idle s u q m untold each there idles =
    let f = does s u q u.last m in
    let branches : branches_after q f.after f.children u.branches ≡ u.branches =
    ap (λ (z : Effect). branches_after q z.after z.children u.branches) idles
    ∙ nothing-changes q m u.branches (all-are q m u.branches each there) in
    let counts : counts_after (number_in s.machine m) f.raises u.counts ≡ u.counts = ap (λ (z : Effect). counts_after (number_in s.machine m) z.raises u.counts) idles in
    let outcome : outcome_after f.outcome u.outcome ≡ u.outcome = ap (λ (z : Effect). outcome_after z.outcome u.outcome) idles in
    λ i. record { branches = branches i; counts = counts i; events = sym untold i; last = u.last; deadline = u.deadline; outcome = outcome i }

module _ (s : Setup) (u : World) (p q : List ℕ) (r m : Record) (e : Effect) (calm : KeepsOn e) (w : IsPending s u p r e) (h : IsReady s u q u.last m) (b : ℕ) (held : IsHeldFor s u r b) where
  -- the counts where it was taken
  abbrev ds : List ℕ
  ds = counts_after (number_in s.machine r) e.raises u.counts

  like : AreLike s b u.counts ds
  like = like-ahead s r e.raises b u.counts (invokes-so s u p r e w.so) held

  -- ---- a step at a place apart

  module _ (a : IsApart p q) where
    -- it is accepted afterwards
    pub ready-ahead : IsReady s (ahead s u p r e) q u.last m
    ready-ahead =
        let v = ahead s u p r e in
        let forker = forker-stays p e.after e.children q u.branches a.left in
        let undone = all-at p is_undone r u.branches w.each w.there (undone-by u p u.last (slots_at s u p) r w.ready) in
        record {
          running = rw (none-over e.outcome calm.silent u.outcome) h.running;
          early = h.early;
          there = record-stays p e.after e.children q u.branches a.left ∙ h.there;
          free = not-stopped p q e.after e.children u.branches a.left calm.whole h.free;
          ready = rw forker (ready-later u v q u.last (slots_at s u q) m
              (children-stay p e.after e.children q u.branches a)
              (not-crowded p q e.after e.children (slots_at s u q) u.branches a.left undone)
              (omega arith)
              h.ready);
        }

    -- and does the same
    pub same-ahead : does s (ahead s u p r e) q u.last m ≡ does s u q u.last m
    same-ahead =
        ap (λ v. effect_in s.machine (facts_of s) v)
        (seen-is s.machine s.case (with_counts ds u) q u.last m (seen_at s.machine s.case (ahead s u p r e) q u.last m) refl refl
        (children-stay p e.after e.children q u.branches a)
        (forker-stays p e.after e.children q u.branches a.left)
        (iteration-stays p e.after e.children q u.branches a.left)
        refl refl refl refl)
        ∙ like-does s u q u.last m b u.counts ds like

    -- the branch at p does the same after it
    pub same-after : does s (after s u q m) p u.last r ≡ e
    same-after =
        let f = does s u q u.last m in
        let cs = counts_after (number_in s.machine m) f.raises u.counts in
        ap (λ v. effect_in s.machine (facts_of s) v)
        (seen-is s.machine s.case (with_counts cs u) p u.last r (seen_at s.machine s.case (after s u q m) p u.last r) refl refl
        (children-stay q f.after f.children p u.branches (apart-sym p q a))
        (forker-stays q f.after f.children p u.branches a.right)
        (iteration-stays q f.after f.children p u.branches a.right)
        refl refl refl refl)
        ∙ by (count_of cs (number_in s.machine r)) (count-after (number_in s.machine m) (number_in s.machine r) f.raises u.counts)
        ∙ w.so
      where
        by : (k : ℕ) → (k ≡ count_of u.counts (number_in s.machine r)) ⊎ (((does s u q u.last m).raises ≡ true) × (k ≡ count_of u.counts (number_in s.machine r) + 1)) → counted s u p u.last r k ≡ counted s u p u.last r (count_of u.counts (number_in s.machine r))
        by k (inl is) = ap (counted s u p u.last r) is
        by k (inr x) =
            let c = count_of u.counts (number_in s.machine r) in
            let is : k ≡ c + 1 = x.1 in
            held-does s u p u.last r c (c + (b + 1)) k c held (omega (arith, is)) (omega (arith, is)) (omega arith) (omega arith)

    pub commutes : after s (ahead s u p r e) q m ≡ ahead s (after s u q m) p r e
    commutes =
        let f = does s u q u.last m in
        let same = same-ahead in
        let branches : branches_after q (does s (ahead s u p r e) q u.last m).after (does s (ahead s u p r e) q u.last m).children (branches_after p e.after e.children u.branches) ≡ branches_after p e.after e.children (branches_after q f.after f.children u.branches) =
        ap (λ (z : Effect). branches_after q z.after z.children (branches_after p e.after e.children u.branches)) same
        ∙ branches-commute p q e.after f.after e.children f.children u.branches a in
        let counts : counts_after (number_in s.machine m) (does s (ahead s u p r e) q u.last m).raises (counts_after (number_in s.machine r) e.raises u.counts) ≡ counts_after (number_in s.machine r) e.raises (counts_after (number_in s.machine m) f.raises u.counts) =
        ap (λ (z : Effect). counts_after (number_in s.machine m) z.raises (counts_after (number_in s.machine r) e.raises u.counts)) same
        ∙ counts-swap (number_in s.machine r) (number_in s.machine m) e.raises f.raises u.counts in
        let outcome : outcome_after (does s (ahead s u p r e) q u.last m).outcome (outcome_after e.outcome u.outcome) ≡ outcome_after e.outcome (outcome_after f.outcome u.outcome) =
        ap (λ (z : Effect). outcome_after z.outcome (outcome_after e.outcome u.outcome)) same
        ∙ ap (λ (z : Outcome). outcome_after f.outcome z) (none-over e.outcome calm.silent u.outcome)
        ∙ sym (none-over e.outcome calm.silent (outcome_after f.outcome u.outcome)) in
        λ i. record { branches = branches i; counts = counts i; events = []; last = u.last; deadline = u.deadline; outcome = outcome i }

    -- and still waits to be taken
    pub still-pending : IsPending s (after s u q m) p r e
    still-pending =
        let f = does s u q u.last m in
        let v = after s u q m in
        let undone = all-at q is_undone m u.branches w.each h.there (undone-by u q u.last (slots_at s u q) m h.ready) in
        let forker = forker-stays q f.after f.children p u.branches a.right in
        record {
          running = rw (none-over f.outcome (goes-on s u p q u.last m a.right) u.outcome) w.running;
          early = w.early;
          untold = refl;
          there = record-stays q f.after f.children p u.branches a.right ∙ w.there;
          ready = rw forker (ready-later u v p u.last (slots_at s u p) r
              (children-stay q f.after f.children p u.branches (apart-sym p q a))
              (not-crowded q p f.after f.children (slots_at s u p) u.branches a.right undone)
              (omega arith)
              w.ready);
          so = same-after;
          rooted = rooted-next s u q u.last m h.there w.rooted;
          each = each-next s u q u.last m w.each;
        }

  -- ---- a step above it

  module _ (a : is_prefix q p ≡ true) (d : is_prefix p q ≡ false) where
    whole : is_failed r ≡ false
    whole = unfinished-by u p u.last (slots_at s u p) r w.ready

    -- a branch directly under it has failed, and it waits for them
    fails : HasFailed u q m
    fails = failed-under s u p q r m e w h a d

    behind : first_error (children_at q (ahead s u p r e).branches) ≡ Some fails.error
    behind = error-stays p q e.after e.children d calm.whole u.branches (all-at p (λ n. not (is_failed n)) r u.branches w.each w.there (rw whole refl)) ∙ fails.first

    -- it is accepted afterwards
    pub above-ready : IsReady s (ahead s u p r e) q u.last m
    above-ready =
        let v = ahead s u p r e in
        let f = fails in
        record {
          running = rw (none-over e.outcome calm.silent u.outcome) h.running;
          early = h.early;
          there = record-stays p e.after e.children q u.branches d ∙ h.there;
          free = not-stopped p q e.after e.children u.branches d calm.whole h.free;
          ready = joining-ready v q u.last (slots_at s v q) m f.joins (not-busy (children_at q v.branches) (error-any (children_at q v.branches) f.error behind)) (omega arith);
        }

    -- and does the same: it takes away what is under it, or nothing happens
    record Same : Type 0 where
      same : does s (ahead s u p r e) q u.last m ≡ does s u q u.last m
      takes : ((does s u q u.last m).children ≡ Removed) ⊎ (does s u q u.last m ≡ idle m)

    same-above : Same
    same-above = by m refl
      where
        of : (n : List ℕ) (x : Json) (since : ℕ) (uses : List ℕ) (items : List Data) → m ≡ Forked n x since uses items → Same
        of n x since uses items is =
            let k = Forked n x since uses items in
            let v = ahead s u p r e in
            let o = object_in s.machine k in
            let f = facts_of s in
            let seen = seen_at s.machine s.case (with_counts ds u) q u.last k in
            let forker = forker-stays p e.after e.children q u.branches d in
            let iteration = iteration-stays p e.after e.children q u.branches d in
            let read : seen_at s.machine s.case v q u.last k ≡ waiting seen n x since uses items (children_at q v.branches) = λ i. record {
              place = q;
              current = k;
              children = children_at q v.branches;
              forker = forker i;
              iteration = iteration i;
              invokes = invokes_by o;
              count = count_of ds (number_in s.machine k);
              case = s.case;
              moment = u.last;
            } in
            let fs = fails in
            let same : does s v q u.last k ≡ does s u q u.last k =
            ap (effect_by o f) read
            ∙ effect-same f seen n x since uses items o (children_at q v.branches) (children_at q u.branches) fs.error behind fs.first
            ∙ like-does s u q u.last k b u.counts ds like in
            let takes = effect-takes f (seen_at s.machine s.case u q u.last k) n x since uses items o (children_at q u.branches) in
            record {
              same = subst (λ (z : Record). does s v q u.last z ≡ does s u q u.last z) (sym is) same;
              takes = subst (λ (z : Record). ((does s u q u.last z).children ≡ Removed) ⊎ (does s u q u.last z ≡ idle z)) (sym is) takes;
            }

        by : (k : Record) → m ≡ k → Same
        by (New n x) is = absurd (both_ways (is_joining m) (ap is_joining is) fails.joins)
        by (Ready n x) is = absurd (both_ways (is_joining m) (ap is_joining is) fails.joins)
        by (Pausing n x since until) is = absurd (both_ways (is_joining m) (ap is_joining is) fails.joins)
        by (Again n x since uses until) is = absurd (both_ways (is_joining m) (ap is_joining is) fails.joins)
        by (Forked n x since uses items) is = of n x since uses items is
        by (Done x) is = absurd (both_ways (is_joining m) (ap is_joining is) fails.joins)
        by (Failed f) is = absurd (both_ways (is_joining m) (ap is_joining is) fails.joins)

    pub above-asked : asked (does s (ahead s u p r e) q u.last m).raises ≡ asked (does s u q u.last m).raises
    above-asked = ap (λ (z : Effect). asked z.raises) same-above.same

    -- so it leaves the same but for counts, or nothing happens
    pub above-same : (after s (ahead s u p r e) q m ≡ with_counts (counts_after (number_in s.machine m) (does s u q u.last m).raises ds) (after s u q m)) ⊎ ((after s u q m ≡ u) × (after s (ahead s u p r e) q m ≡ ahead s u p r e))
    above-same = by same-above.takes
      where
        f : Effect
        f = does s u q u.last m

        by : (f.children ≡ Removed) ⊎ (f ≡ idle m) → (after s (ahead s u p r e) q m ≡ with_counts (counts_after (number_in s.machine m) f.raises ds) (after s u q m)) ⊎ ((after s u q m ≡ u) × (after s (ahead s u p r e) q m ≡ ahead s u p r e))
        by (inl taken) =
            let same = same-above.same in
            let gone : are_kept f.children ≡ false = rw taken refl in
            let branches : branches_after q (does s (ahead s u p r e) q u.last m).after (does s (ahead s u p r e) q u.last m).children (branches_after p e.after e.children u.branches) ≡ branches_after q f.after f.children u.branches =
            ap (λ (z : Effect). branches_after q z.after z.children (branches_after p e.after e.children u.branches)) same
            ∙ absorbs q p f.after e.after f.children e.children u.branches a d gone in
            let counts : counts_after (number_in s.machine m) (does s (ahead s u p r e) q u.last m).raises ds ≡ counts_after (number_in s.machine m) f.raises ds =
            ap (λ (z : Effect). counts_after (number_in s.machine m) z.raises ds) same in
            let outcome : outcome_after (does s (ahead s u p r e) q u.last m).outcome (outcome_after e.outcome u.outcome) ≡ outcome_after f.outcome u.outcome =
            ap (λ (z : Effect). outcome_after z.outcome (outcome_after e.outcome u.outcome)) same
            ∙ ap (λ (z : Outcome). outcome_after f.outcome z) (none-over e.outcome calm.silent u.outcome) in
            inl (λ i. record { branches = branches i; counts = counts i; events = []; last = u.last; deadline = u.deadline; outcome = outcome i })
        by (inr idles) =
            inr (
              still-idle s u q m w.untold w.each h.there idles,
              still-idle s (ahead s u p r e) q m refl (one-after p e.after e.children u.branches w.each) (record-stays p e.after e.children q u.branches d ∙ h.there) (same-above.same ∙ idles),
            )

-- ---- what is left of it after another step

-- the counts after another step are alike but for one more
pub like-next : (s : Setup) (u : World) (p q : List ℕ) (r m : Record) (e : Effect) (b k : ℕ) → does s u p u.last r ≡ e → IsHeldFor s u r b → asked (does s u q u.last m).raises + k ≤ b → AreLike s k (after s u q m).counts (counts_after (number_in s.machine m) (does s u q u.last m).raises (counts_after (number_in s.machine r) e.raises u.counts))
like-next s u p q r m e b k so held le =
    let f = does s u q u.last m in
    let cs = u.counts in
    let es = counts_after (number_in s.machine r) e.raises cs in
    like-after s k (number_in s.machine m) f.raises cs es (like-less s (asked f.raises + k) b cs es le (like-ahead s r e.raises b cs (invokes-so s u p r e so) held))

-- the branch is held for the others
pub held-next : (s : Setup) (u : World) (q : List ℕ) (r m : Record) (b k : ℕ) → asked (does s u q u.last m).raises + k ≤ b → IsHeldFor s u r b → IsHeldFor s (after s u q m) r k
held-next s u q r m b k le held = by (count_of (after s u q m).counts (number_in s.machine r)) f.raises refl (count-after (number_in s.machine m) (number_in s.machine r) f.raises u.counts)
  where
    f : Effect
    f = does s u q u.last m

    c : ℕ
    c = count_of u.counts (number_in s.machine r)

    by : (n : ℕ) (x : Bool) → f.raises ≡ x → (n ≡ c) ⊎ ((f.raises ≡ true) × (n ≡ c + 1)) → IsHeld s r n (n + (k + 1))
    by n x e (inl is) = held-less s r c (c + (b + 1)) n (n + (k + 1)) (omega (arith, is)) (omega (arith, is, le)) held
    by n x e (inr y) =
        let is : n ≡ c + 1 = y.1 in
        let once : asked f.raises ≡ 1 = ap asked y.0 in
        held-less s r c (c + (b + 1)) n (n + (k + 1)) (omega (arith, is)) (omega (arith, is, once, le)) held
