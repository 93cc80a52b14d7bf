-- What is known of the children at rest stays so.
use Rattle.std.proofs.Common.{ℕ, suc, zero, ◌≡◌, ◌+◌, ◌-◌, ◌≤◌, ◌<◌, ◌&&◌, Bool, true, false, not, List, [], ◌∷◌, refl, sym, ◌∙◌, ap, subst, arith, cond, length, set, take, drop, min, Some}
use Rattle.std.specs.Prelude.{slice_get, nat_le, nat_eq}
use Rattle.std.specs.List.{AllByRecursion}
use Rattle.std.proofs.lemmas.Bool.Decides.{nat_tests}
use Rattle.std.proofs.lemmas.Grind.{common_steps}
use Rattle.std.proofs.lemmas.List.{take-set-le, length-take, take_min}
use Rattle.std.proofs.Math.ListN.{length-set}
use Rattle.asl_step.specs.declared.record.Record.{Record}
use Rattle.asl_step.specs.declared.record.Record.TheVariants.{New, Ready, Pausing, Again, Forked, Done, Failed}
use Rattle.asl_step.specs.Records.{is_done}
use Rattle.asl_run_branches.specs.Trees.{Family, below_of, count_undone, one_if}
use Rattle.asl_run_branches.specs.private.Resting.{waits, IsOver, IsIdle, IsResting}
use Rattle.asl_run_branches.specs.declared.resting.Resting.{Resting}
use Rattle.asl_run_branches.proofs.Counts.{undone-more, undone-few, undone-from}

pub all-weaker : (P Q : Family → Type 0) (ks : List Family) → ((k : Family) → P k → Q k) → AllByRecursion P ks → AllByRecursion Q ks
all-weaker P Q [] f a = tt
all-weaker P Q (k ∷ ks) f a = (f k a.0, all-weaker P Q ks f a.1)

all-next : (P : Family → Type 0) (ks : List Family) (n : ℕ) (k : Family) → slice_get ks n ≡ Some k → P k → AllByRecursion P (take n ks) → AllByRecursion P (take (suc n) ks)
all-next P [] n k g h a = (cc)
all-next P (c ∷ cs) zero k g h a = let s : k ≡ c = cc in (subst P s h, tt)
all-next P (c ∷ cs) (suc n) k g h a = (a.0, all-next P cs n k g h a.1)

all-more : (P : Family → Type 0) (ks : List Family) (n m : ℕ) (k : Family) → slice_get ks n ≡ Some k → m ≡ n + 1 → P k → AllByRecursion P (take n ks) → AllByRecursion P (take m ks)
all-more P ks n m k g e h a = let s : m ≡ suc n = omega arith in rw s (all-next P ks n k g h a)

-- one that is over rests until whatever moment
over-idle : (until : ℕ) (k : Family) → IsOver k → IsIdle until k
over-idle until k o = record { waiting = done-waits until k.head.current o.done; bare = o.bare }
  where
    done-waits : (until : ℕ) (r : Record) → is_done r ≡ true → waits until r ≡ true
    done-waits until (New n x) e = (cc)
    done-waits until (Ready n x) e = (cc)
    done-waits until (Pausing n x since end) e = (cc)
    done-waits until (Again n x since uses end) e = (cc)
    done-waits until (Forked n x since uses items) e = (cc)
    done-waits until (Done x) e = refl
    done-waits until (Failed f) e = (cc)

through : (early late end : ℕ) → early ≤ late → nat_le late end ≡ true → nat_le early end ≡ true
through early late end l e = grind (arith, nat_tests, l, e)

-- one that rests until a moment rests until an earlier one
sooner-idle : (early late : ℕ) (k : Family) → early ≤ late → IsIdle late k → IsIdle early k
sooner-idle early late k l i = record { waiting = sooner-waits early late k.head.current l i.waiting; bare = i.bare }
  where
    sooner-waits : (early late : ℕ) (r : Record) → early ≤ late → waits late r ≡ true → waits early r ≡ true
    sooner-waits early late (New n x) l e = (cc)
    sooner-waits early late (Ready n x) l e = (cc)
    sooner-waits early late (Pausing n x since end) l e = through early late end l e
    sooner-waits early late (Again n x since uses end) l e = through early late end l e
    sooner-waits early late (Forked n x since uses items) l e = (cc)
    sooner-waits early late (Done x) l e = refl
    sooner-waits early late (Failed f) l e = refl

-- none of those that are over is counted
pub undone-over : (ks : List Family) → AllByRecursion IsOver ks → count_undone ks ≡ 0
undone-over [] a = refl
undone-over (k ∷ ks) a = let r = undone-over ks a.1 in rw (a.0.done, r) refl

pub no-branch : (k : Family) (ks : List Family) → k.below ≡ below_of 0 ks → (length ks) ≡ 0 → k.below ≡ []
no-branch k [] e l = e
no-branch k (x ∷ xs) e l = absurd (omega arith)

-- ---- what is known

pub known-none : (until : ℕ) (ks : List Family) → IsResting (record { over = 0; idle = 0; undone = 0; until = until }) ks
known-none until ks = record { ordered = omega arith; within = omega arith; overs = tt; idles = tt; counted = refl }

pub known-over : (r : Resting) (until : ℕ) (ks : List Family) → IsResting r ks → IsResting (record { over = r.over; idle = r.over; undone = 0; until = until }) ks
known-over r until ks q = record {
  ordered = omega arith;
  within = omega (arith, q.within, q.ordered);
  overs = q.overs;
  idles = all-weaker IsOver (IsIdle until) (take r.over ks) (over-idle until) q.overs;
  counted = sym (undone-over (take r.over ks) q.overs);
}

-- a child behind them changes
pub known-set : (r : Resting) (ks : List Family) (j : ℕ) (new : Family) → r.idle ≤ j → IsResting r ks → IsResting r (set ks j new)
known-set r ks j new l q =
    let m : r.over ≤ j = omega (arith, q.ordered) in
    let e = take-set-le r.idle ks j new l in
    let f = take-set-le r.over ks j new m in
    record {
      ordered = q.ordered;
      within = omega (arith, q.within, length-set {A = Family});
      overs = subst (AllByRecursion IsOver) (sym f) q.overs;
      idles = subst (AllByRecursion (IsIdle r.until)) (sym e) q.idles;
      counted = q.counted ∙ ap count_undone (sym e);
    }

pub undone-most : (r : Resting) (ks : List Family) → IsResting r ks → r.undone ≤ r.idle
undone-most r ks q = omega (arith, q.counted, undone-few (take r.idle ks), length-take r.idle ks)

both-true : (a b : Bool) → (a && b) ≡ true → (a ≡ true) × (b ≡ true)
both-true true b e = (refl, e)
both-true false b e = (cc)

-- as many as are over, with one more or not
overs-more : (over idle next : ℕ) (done b : Bool) (ks : List Family) (k : Family) → over ≤ idle → (done && nat_eq over idle) ≡ b → next ≡ cond b (idle + 1) over → slice_get ks idle ≡ Some k → (done ≡ true → IsOver k)
    → AllByRecursion IsOver (take over ks) → (next ≤ idle + 1) × AllByRecursion IsOver (take next ks)
overs-more over idle next done true ks k l b e g o a =
    let t = both-true done (nat_eq over idle) b in
    let s : over ≡ idle = grind (arith, nat_tests, common_steps, t.1) in
    (omega (arith, e), all-more IsOver ks idle next k g e (o t.0) (subst (λ z. AllByRecursion IsOver (take z ks)) s a))
overs-more over idle next done false ks k l b e g o a = (omega (arith, e), subst (λ z. AllByRecursion IsOver (take z ks)) (sym e) a)

-- one child more
pub known-more : (r next : Resting) (ks : List Family) (k : Family) (until : ℕ) (done : Bool) → IsResting r ks → slice_get ks r.idle ≡ Some k → IsIdle until k → r.idle < length ks
    → done ≡ is_done k.head.current
    → next.over ≡ cond (done && nat_eq r.over r.idle) (r.idle + 1) r.over
    → next.idle ≡ r.idle + 1
    → next.undone ≡ r.undone + one_if (not done)
    → next.until ≡ min r.until until
    → IsResting next ks
known-more r next ks k until done q g i l ed eo ei eu et =
    let o = overs-more r.over r.idle next.over done (done && nat_eq r.over r.idle) ks k q.ordered refl eo g (λ d. record { done = sym ed ∙ d; bare = i.bare }) q.overs in
    let early : next.until ≤ until = omega (arith, et) in
    let still : next.until ≤ r.until = omega (arith, et) in
    record {
      ordered = omega (arith, o.0, ei);
      within = omega (arith, ei, l);
      overs = o.1;
      idles = all-more (IsIdle next.until) ks r.idle next.idle k g ei (sooner-idle next.until until k early i) (all-weaker (IsIdle r.until) (IsIdle next.until) (take r.idle ks) (λ x h. sooner-idle next.until r.until x still h) q.idles);
      counted = eu ∙ rw (q.counted, ed) (sym (undone-more ks r.idle k g)) ∙ ap (λ n. count_undone (take n ks)) (sym ei);
    }

-- ---- how many before a child aren't done

pub undone-least : (ks : List Family) (end number : ℕ) → end ≡ min number (length ks) → count_undone (take end ks) ≡ count_undone (take number ks)
undone-least ks end number e = ap (λ n. count_undone (take n ks)) e ∙ ap count_undone (take_min number ks)

pub more-before : (r : Resting) (ks : List Family) (end number : ℕ) → IsResting r ks → end ≡ min number (length ks) → r.idle ≤ end → r.undone + count_undone (take (end - r.idle) (drop r.idle ks)) ≡ count_undone (take number ks)
more-before r ks end number q e l =
    let f = undone-from ks r.idle end l in
    let s = undone-least ks end number e in
    omega (arith, q.counted, f, s)
