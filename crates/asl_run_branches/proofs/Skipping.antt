-- A walk may skip the children at rest.
use Rattle.std.proofs.Common.{ℕ, zero, suc, length-append, length-drop, ◌≡◌, ◌+◌, ◌-◌, ◌≤◌, ◌<◌, Bool, true, false, not, List, [], ◌∷◌, ◌++◌, refl, sym, ◌∙◌, ap, subst, arith, cond, map, take, drop, length, option_map, Some, None}
use Rattle.std.proofs.lemmas.List.{length-map}
use Rattle.std.specs.Prelude.{slice_get, nat_lt, Option, IfSome, is_some}
use Rattle.std.specs.List.{AllByRecursion}
use Rattle.std.proofs.lemmas.Bool.Decides.{nat_tests}
use Rattle.std.proofs.lemmas.List.{take-append-drop, take-take, drop-take, take_rest, length-take}
use Rattle.asl_step.specs.declared.record.Record.{Record}
use Rattle.asl_step.specs.declared.record.Record.TheVariants.{New, Ready, Pausing, Again, Forked, Done, Failed}
use Rattle.asl_step.specs.Records.{is_failed, is_done}
use Rattle.asl_run_branches.specs.Branches.{children_at, map_in, is_busy}
use Rattle.asl_run_branches.specs.Trees.{Held, Family, Spot, pushed, below_of, branches_of, count_undone, count_failed, one_if}
use Rattle.asl_run_branches.specs.Turns.{Limits, limit_of, is_full, due_by, Due, Turn, comes_first, sooner, turn_at, soonest}
use Rattle.asl_run_branches.specs.private.Walking.{dues_in, dues_below, soonest_of}
use Rattle.asl_run_branches.specs.private.Resting.{waits, IsOver, IsIdle, IsResting}
use Rattle.asl_run_branches.specs.declared.resting.Resting.{Resting}
use Rattle.asl_run_branches.proofs.Keeping.{undone-over}
use Rattle.asl_run_branches.proofs.Reading.{fam}
use Rattle.asl_run_branches.proofs.Turning.{walked, none-sooner, sooner-assoc, IsLate, late-cond, late-sooner}

-- the turn of a child, where no sibling of it has failed
abbrev pub turn_in : Limits → ℕ → ℕ → ℕ → ℕ → Family → Option Turn
turn_in limits now limit failed undone k = cond (nat_lt (one_if (is_failed k.head.current)) failed) None (soonest now (dues_in limits (is_full limit undone) k))

-- a walk over two lists, one after the other
pub walk-append : (limits : Limits) (now limit failed undone : ℕ) (xs ys : List Family)
    → soonest_of limits now limit failed undone (xs ++ ys) ≡ sooner (soonest_of limits now limit failed undone xs) (soonest_of limits now limit failed (undone + count_undone xs) ys)
walk-append limits now limit failed undone [] ys =
    let z : undone + 0 ≡ undone = omega arith in
    sym (ap (λ u. sooner None (soonest_of limits now limit failed u ys)) z ∙ none-sooner (soonest_of limits now limit failed undone ys))
walk-append limits now limit failed undone (x ∷ xs) ys =
    let one = one_if (not (is_done x.head.current)) in
    let own = turn_in limits now limit failed undone x in
    let z : undone + one + count_undone xs ≡ undone + (one + count_undone xs) = omega arith in
    ap (sooner own) (walk-append limits now limit failed (undone + one) xs ys)
    ∙ sooner-assoc own (soonest_of limits now limit failed (undone + one) xs) (soonest_of limits now limit failed (undone + one + count_undone xs) ys)
    ∙ ap (λ u. sooner (sooner own (soonest_of limits now limit failed (undone + one) xs)) (soonest_of limits now limit failed u ys)) z

-- a branch with none under it
bare-dues : (now : ℕ) (d : Due) (f : Spot → Due) (ss : List Spot) → ss ≡ [] → soonest now (d ∷ map f ss) ≡ turn_at now d
bare-dues now d f [] e = refl
bare-dues now d f (s ∷ ss) e = (cc)

none-either : (b : Bool) (o : Option Turn) → o ≡ None → cond b None o ≡ None
none-either true o e = refl
none-either false o e = e

done-due : (now : ℕ) (crowded busy : Bool) (p : List ℕ) (r : Record) → is_done r ≡ true → turn_at now (p, due_by crowded busy r) ≡ None
done-due now crowded busy p (New n x) e = (cc)
done-due now crowded busy p (Ready n x) e = (cc)
done-due now crowded busy p (Pausing n x since end) e = (cc)
done-due now crowded busy p (Again n x since uses end) e = (cc)
done-due now crowded busy p (Forked n x since uses items) e = (cc)
done-due now crowded busy p (Done x) e = refl
done-due now crowded busy p (Failed f) e = (cc)

-- children that are over have no turn
pub overs-none : (limits : Limits) (now limit failed undone : ℕ) (ks : List Family) → AllByRecursion IsOver ks → soonest_of limits now limit failed undone ks ≡ None
overs-none limits now limit failed undone [] a = refl
overs-none limits now limit failed undone (k ∷ ks) a =
    let crowded = is_full limit undone in
    let busy = is_busy (children_at [] (branches_of k)) in
    let due : Due = (k.head.place, due_by crowded busy k.head.current) in
    let own : soonest now (dues_in limits crowded k) ≡ None = bare-dues now due _ k.below a.0.bare ∙ done-due now crowded busy k.head.place k.head.current a.0.done in
    rw (overs-none limits now limit failed (undone + one_if (not (is_done k.head.current))) ks a.1, none-either (nat_lt (one_if (is_failed k.head.current)) failed) _ own) refl

idle-due : (now until : ℕ) (crowded busy : Bool) (p : List ℕ) (r : Record) → now < until → waits until r ≡ true → IsLate (suc now) (turn_at now (p, due_by crowded busy r))
idle-due now until crowded busy p (New n x) l e = (cc)
idle-due now until crowded busy p (Ready n x) l e = (cc)
idle-due now until crowded busy p (Pausing n x since end) l e = let m : until ≤ end = grind (arith, nat_tests, e) in omega arith
idle-due now until crowded busy p (Again n x since uses end) l e = let m : until ≤ end = grind (arith, nat_tests, e) in omega arith
idle-due now until crowded busy p (Forked n x since uses items) l e = (cc)
idle-due now until crowded busy p (Done x) l e = tt
idle-due now until crowded busy p (Failed f) l e = tt

-- children that rest until later have later turns alone
pub idles-late : (limits : Limits) (now until limit failed undone : ℕ) (ks : List Family) → now < until → AllByRecursion (IsIdle until) ks → IsLate (suc now) (soonest_of limits now limit failed undone ks)
idles-late limits now until limit failed undone [] l a = tt
idles-late limits now until limit failed undone (k ∷ ks) l a =
    let crowded = is_full limit undone in
    let busy = is_busy (children_at [] (branches_of k)) in
    let due : Due = (k.head.place, due_by crowded busy k.head.current) in
    let own : IsLate (suc now) (soonest now (dues_in limits crowded k)) = subst (IsLate (suc now)) (sym (bare-dues now due _ k.below a.0.bare)) (idle-due now until crowded busy k.head.place k.head.current l a.0.waiting) in
    late-sooner (suc now) _ _ (late-cond (suc now) (nat_lt (one_if (is_failed k.head.current)) failed) None _ tt own) (idles-late limits now until limit failed (undone + one_if (not (is_done k.head.current))) ks l a.1)

-- a turn that comes now comes before those that come later
now-last : (now : ℕ) (a : Option Turn) (b : Turn) → b.1 ≤ now → IsLate (suc now) a → sooner a (Some b) ≡ Some b
now-last now None b h l = refl
now-last now (Some a) b h l = let e : nat_lt b.1 a.1 ≡ true = grind (arith, nat_tests, h, l) in rw e refl

pub skips-idle : {T : Type 0} (now : ℕ) (turn : T → Turn) (idle whole : Option Turn) (active : Option T) → IfSome active (λ t. (turn t).1 ≤ now) → is_some active ≡ true → IsLate (suc now) idle
    → sooner idle (option_map turn active) ≡ whole → option_map turn active ≡ whole
skips-idle now turn idle whole None h s l e = (cc)
skips-idle now turn idle whole (Some t) h s l e = sym (now-last now idle (turn t) h l) ∙ e

pub same-first : (a b t : Option Turn) → a ≡ b → sooner a t ≡ sooner b t
same-first a b t e = ap (λ x. sooner x t) e

-- of two turns one is taken
pub takes-second : (first t whole : Option Turn) (b : Bool) → comes_first t first ≡ b → b ≡ true → sooner first t ≡ whole → t ≡ whole
takes-second first t whole b c e w = let s : comes_first t first ≡ true = c ∙ e in let p : sooner first t ≡ t = rw s refl in sym p ∙ w

pub takes-first : (first t whole : Option Turn) (b : Bool) → comes_first t first ≡ b → b ≡ false → sooner first t ≡ whole → first ≡ whole
takes-first first t whole b c e w = let s : comes_first t first ≡ false = c ∙ e in let p : sooner first t ≡ first = rw s refl in sym p ∙ w

-- ---- where so much is known

from-over : (limits : Limits) (now limit failed over : ℕ) (ks : List Family) → AllByRecursion IsOver (take over ks) → soonest_of limits now limit failed 0 ks ≡ soonest_of limits now limit failed 0 (drop over ks)
from-over limits now limit failed over ks a =
    let z : 0 + count_undone (take over ks) ≡ 0 = omega (arith, undone-over (take over ks) a) in
    ap (soonest_of limits now limit failed 0) (sym (take-append-drop over ks))
    ∙ walk-append limits now limit failed 0 (take over ks) (drop over ks)
    ∙ rw (overs-none limits now limit failed 0 (take over ks) a, z) (none-sooner (soonest_of limits now limit failed 0 (drop over ks)))

from-idle : (limits : Limits) (now limit failed idle undone : ℕ) (ks : List Family) → undone ≡ count_undone (take idle ks)
    → soonest_of limits now limit failed 0 ks ≡ sooner (soonest_of limits now limit failed 0 (take idle ks)) (soonest_of limits now limit failed undone (drop idle ks))
from-idle limits now limit failed idle undone ks u =
    let z : 0 + count_undone (take idle ks) ≡ undone = omega (arith, u) in
    ap (soonest_of limits now limit failed 0) (sym (take-append-drop idle ks))
    ∙ walk-append limits now limit failed 0 (take idle ks) (drop idle ks)
    ∙ ap (λ n. sooner (soonest_of limits now limit failed 0 (take idle ks)) (soonest_of limits now limit failed n (drop idle ks))) z

-- those that are over may be left out of the children that are idle
idle-part : (limits : Limits) (now limit failed over idle : ℕ) (ks : List Family) → over ≤ idle → AllByRecursion IsOver (take over ks)
    → soonest_of limits now limit failed 0 (take idle ks) ≡ soonest_of limits now limit failed 0 (take (idle - over) (drop over ks))
idle-part limits now limit failed over idle ks l a =
    let t : take over (take idle ks) ≡ take over ks = take-take over idle ks l in
    let n : over + (idle - over) ≡ idle = omega arith in
    let d : drop over (take idle ks) ≡ take (idle - over) (drop over ks) = subst (λ z. drop over (take z ks) ≡ take (idle - over) (drop over ks)) n (drop-take over (idle - over) ks) in
    from-over limits now limit failed over (take idle ks) (subst (AllByRecursion IsOver) (sym t) a) ∙ ap (soonest_of limits now limit failed 0) d

-- a walk over all that aren't over
pub over-skipped : (limits : Limits) (now limit failed : ℕ) (self : Family) (h : Held) (ks items : List Family) (r : Resting) (turn : Option Turn) → fam h ks ≡ self → items ≡ ks → IsResting r ks
    → limit ≡ limit_of limits (map_in h.current) → failed ≡ count_failed ks
    → turn ≡ soonest_of limits now limit failed 0 (take (length items - r.over) (drop r.over items)) → turn ≡ soonest now (dues_below limits self)
over-skipped limits now limit failed self h ks items r turn v i q l f t =
    t
    ∙ ap (soonest_of limits now limit failed 0) (take_rest items r.over)
    ∙ ap (λ z. soonest_of limits now limit failed 0 (drop r.over z)) i
    ∙ sym (from-over limits now limit failed r.over ks q.overs)
    ∙ rw (l, f) (sym (walked limits now self h ks v))

-- a walk over those that aren't idle, behind one over those that are
pub idle-then-active : (limits : Limits) (now limit failed : ℕ) (self : Family) (h : Held) (ks items : List Family) (r : Resting) (active : Option Turn) → fam h ks ≡ self → items ≡ ks → IsResting r ks
    → limit ≡ limit_of limits (map_in h.current) → failed ≡ count_failed ks
    → active ≡ soonest_of limits now limit failed r.undone (take (length items - r.idle) (drop r.idle items))
    → sooner (soonest_of limits now limit failed 0 (take r.idle ks)) active ≡ soonest now (dues_below limits self)
idle-then-active limits now limit failed self h ks items r active v i q l f t =
    ap (sooner (soonest_of limits now limit failed 0 (take r.idle ks))) (t ∙ ap (soonest_of limits now limit failed r.undone) (take_rest items r.idle) ∙ ap (λ z. soonest_of limits now limit failed r.undone (drop r.idle z)) i)
    ∙ sym (from-idle limits now limit failed r.idle r.undone ks q.counted)
    ∙ rw (l, f) (sym (walked limits now self h ks v))

pub idle-is : (limits : Limits) (now limit failed : ℕ) (ks items : List Family) (r : Resting) (idle active whole : Option Turn) → items ≡ ks → IsResting r ks
    → idle ≡ soonest_of limits now limit failed 0 (take (r.idle - r.over) (drop r.over items))
    → sooner (soonest_of limits now limit failed 0 (take r.idle ks)) active ≡ whole
    → sooner idle active ≡ whole
idle-is limits now limit failed ks items r idle active whole i q t w =
    ap (λ z. sooner z active) (t ∙ ap (λ z. soonest_of limits now limit failed 0 (take (r.idle - r.over) (drop r.over z))) i ∙ sym (idle-part limits now limit failed r.over r.idle ks q.ordered q.overs)) ∙ w

pub idle-late : (limits : Limits) (now limit failed : ℕ) (ks : List Family) (r : Resting) → now < r.until → IsResting r ks → IsLate (suc now) (soonest_of limits now limit failed 0 (take r.idle ks))
idle-late limits now limit failed ks r l q = idles-late limits now r.until limit failed 0 (take r.idle ks) l q.idles

-- ---- how many branches are under children

below-same : (i j : ℕ) (ks : List Family) → length (below_of i ks) ≡ length (below_of j ks)
below-same i j [] = refl
below-same i j (k ∷ ks) = omega (arith, below-same (i + 1) (j + 1) ks, length-append (map (pushed i) k.below) (below_of (i + 1) ks), length-append (map (pushed j) k.below) (below_of (j + 1) ks), length-map k.below (pushed i), length-map k.below (pushed j))

below-cons : (i : ℕ) (k : Family) (ks : List Family) → length (below_of i (k ∷ ks)) ≡ length k.below + 1 + length (below_of i ks)
below-cons i k ks = omega (arith, below-same (i + 1) i ks, length-append (map (pushed i) k.below) (below_of (i + 1) ks), length-map k.below (pushed i))

below-drop : (n : ℕ) (ks : List Family) → length (below_of 0 (drop n ks)) ≤ length (below_of 0 ks)
below-drop n [] = let e : drop n [] ≡ [] = drop-none n in rw e (omega arith)
  where
    drop-none : (n : ℕ) → drop {A = Family} n [] ≡ []
    drop-none zero = refl
    drop-none (suc n) = refl
below-drop zero (k ∷ ks) = omega arith
below-drop (suc n) (k ∷ ks) = let r = below-drop n ks in omega (arith, r, below-cons 0 k ks)

below-take : (n : ℕ) (ks : List Family) → length (below_of 0 (take n ks)) ≤ length (below_of 0 ks)
below-take zero ks = omega arith
below-take (suc n) [] = omega arith
below-take (suc n) (k ∷ ks) = let r = below-take n ks in omega (arith, r, below-cons 0 k ks, below-cons 0 k (take n ks))

-- a part of the children
pub below-part : (n m : ℕ) (self : Family) (h : Held) (ks items : List Family) → fam h ks ≡ self → items ≡ ks → length (below_of 0 (take n (drop m items))) ≤ length self.below
below-part n m self h ks items v i = omega (arith, below-take n (drop m items), below-drop m items, ap (λ z. length (below_of 0 z)) i, ap (λ (z : Family). length z.below) v)

pub part-length : (n m : ℕ) (items : List Family) → n + m ≤ length items → m + length (take n (drop m items)) ≤ length items
part-length n m items l = omega (arith, length-take n (drop m items), length-drop m items)

pub below-child : (ks : List Family) (j : ℕ) (k : Family) → slice_get ks j ≡ Some k → length k.below + 1 ≤ length (below_of 0 ks)
below-child [] j k g = (cc)
below-child (c ∷ cs) zero k g = let s : c ≡ k = cc in omega (arith, below-cons 0 c cs, ap (λ (z : Family). length z.below) s)
below-child (c ∷ cs) (suc j) k g = let r = below-child cs j k g in omega (arith, r, below-cons 0 c cs)
