-- A frame whose branch goes on has a turn, at it or under it.
use Rattle.std.proofs.Common.{ℕ, zero, suc, ◌≡◌, ◌+◌, ◌-◌, ◌≤◌, ◌<◌, ◌&&◌, Bool, true, false, not, List, [], ◌∷◌, refl, sym, ◌∙◌, ap, arith, cond, take, drop, length, option_map, Some, None}
use Rattle.std.specs.Prelude.{slice_get, nat_lt, nat_le, Option, is_some}
use Rattle.std.proofs.lemmas.Bool.Decides.{nat_tests}
use Rattle.std.proofs.lemmas.List.{take-append-drop, take_rest}
use Rattle.asl_step.specs.declared.record.Record.{Record}
use Rattle.asl_step.specs.declared.record.Record.TheVariants.{New, Ready, Pausing, Again, Forked, Done, Failed}
use Rattle.asl_step.specs.Records.{is_failed, is_done, is_finished}
use Rattle.asl_run_branches.specs.Branches.{children_at, is_busy}
use Rattle.asl_run_branches.specs.Trees.{Held, Family, branches_of, count_undone, count_failed, one_if}
use Rattle.asl_run_branches.specs.Turns.{is_full, Turn, comes_first}
use Rattle.asl_run_branches.specs.private.Resting.{IsResting}
use Rattle.asl_run_branches.specs.declared.resting.Resting.{Resting}
use Rattle.asl_run_branches.proofs.Reading.{fam, busy-root}
use Rattle.asl_run_branches.proofs.Keeping.{undone-over}
use Rattle.asl_run_branches.proofs.Counts.{failed-one, undone-append, undone-from}

-- ---- of two turns

-- where none comes before the first so far, that is a turn, if there is any
pub other-some : {T : Type 0} (turn_of : T → Turn) (turn first : Option T) (b : Bool) → b ≡ comes_first (option_map turn_of turn) (option_map turn_of first) → b ≡ false → (is_some first ≡ false → is_some turn ≡ true) → is_some first ≡ true
other-some turn_of turn (Some f) b e h some = refl
other-some turn_of (Some t) None b e h some = sym h ∙ e
other-some turn_of None None b e h some = some refl

-- of two turns, as definitions have them
pub mapped : {T U : Type 0} (f : T → U) (c : Bool) (a b : Option T) → option_map f (cond c a b) ≡ cond c (option_map f a) (option_map f b)
mapped f true a b = refl
mapped f false a b = refl

-- where there is none of two turns, none comes first
pub none-of : {T : Type 0} (turn_of : T → Turn) (first turn : Option T) → is_some (cond (comes_first (option_map turn_of turn) (option_map turn_of first)) turn first) ≡ false → (is_some first ≡ false) × (is_some turn ≡ false)
none-of turn_of None None h = (refl, refl)
none-of turn_of None (Some t) h = (refl, h)
none-of turn_of (Some f) None h = (h, refl)
none-of turn_of (Some f) (Some t) h = by (nat_lt (turn_of t).1 (turn_of f).1) refl
  where
    by : (c : Bool) → nat_lt (turn_of t).1 (turn_of f).1 ≡ c → (is_some (Some f) ≡ false) × (is_some (Some t) ≡ false)
    by true e = let x : true ≡ false = rw e at h in ((cc), (cc))
    by false e = let x : true ≡ false = rw e at h in ((cc), (cc))

-- ---- a walk over children none of which has failed

unfinished : (r : Record) → is_failed r ≡ false → is_done r ≡ false → is_finished r ≡ false
unfinished (New n x) f d = refl
unfinished (Ready n x) f d = refl
unfinished (Pausing n x since until) f d = refl
unfinished (Again n x since uses until) f d = refl
unfinished (Forked n x since uses items) f d = refl
unfinished (Done x) f d = d
unfinished (Failed e) f d = f

no-failure : (b : Bool) → one_if b ≤ 0 → b ≡ false
no-failure true h = absurd (omega arith)
no-failure false h = refl

no-limit : (limit : ℕ) → is_full limit 0 ≡ false
no-limit limit = by (nat_lt 0 limit) refl
  where
    by : (c : Bool) → nat_lt 0 limit ≡ c → is_full limit 0 ≡ false
    by true e = let l : nat_le limit 0 ≡ false = grind (arith, nat_tests, e) in rw (e, l) refl
    by false e = rw e refl

-- a child before which all are done is done where it has no turn
child-done : (limit failed elders : ℕ) (r : Record) (stopped crowded some : Bool) → failed ≡ 0 → elders ≡ 0 → is_failed r ≡ false → stopped ≡ nat_lt (one_if (is_failed r)) failed → crowded ≡ is_full limit elders
    → (stopped ≡ false → crowded ≡ false → is_finished r ≡ false → some ≡ true) → some ≡ false → is_done r ≡ true
child-done limit failed elders r stopped crowded some hf hu own es ec goes none = by (is_done r) refl
  where
    s : stopped ≡ false
    s = es ∙ grind (arith, nat_tests, hf)

    c : crowded ≡ false
    c = ec ∙ ap (is_full limit) hu ∙ no-limit limit

    by : (d : Bool) → is_done r ≡ d → is_done r ≡ true
    by true e = e
    by false e = let x : true ≡ false = sym (goes s c (unfinished r own e)) ∙ none in (cc)

-- one child more: where there is no turn so far, all the children so far are done
pub goes-more : {T : Type 0} (turn_of : T → Turn) (limit failed elders more : ℕ) (first turn next : Option T) (ks : List Family) (i : ℕ) (k : Family) (stopped crowded : Bool) → slice_get ks i ≡ Some k
    → stopped ≡ nat_lt (one_if (is_failed k.head.current)) failed → crowded ≡ is_full limit elders → more ≡ elders + one_if (not (is_done k.head.current))
    → (stopped ≡ false → crowded ≡ false → is_finished k.head.current ≡ false → is_some turn ≡ true)
    → next ≡ cond (comes_first (option_map turn_of turn) (option_map turn_of first)) turn first
    → count_failed ks ≡ 0 → failed ≡ 0 → (is_some first ≡ false → elders ≡ 0) → is_some next ≡ false → more ≡ 0
goes-more turn_of limit failed elders more first turn next ks i k stopped crowded g es ec em goes en c f before n =
    let none = none-of turn_of first turn (sym (ap is_some en) ∙ n) in
    let u : elders ≡ 0 = before none.0 in
    let own : is_failed k.head.current ≡ false = no-failure (is_failed k.head.current) (omega (arith, failed-one ks i k g, c)) in
    let d : is_done k.head.current ≡ true = child-done limit failed elders k.head.current stopped crowded (is_some turn) f u own es ec goes none.1 in
    em ∙ rw (u, d) refl

-- ---- which of the children a walk looks at

failed-take : (n : ℕ) (ks : List Family) → count_failed (take n ks) ≤ count_failed ks
failed-take zero ks = omega arith
failed-take (suc n) [] = omega arith
failed-take (suc n) (k ∷ ks) = omega (arith, failed-take n ks)

failed-drop : (n : ℕ) (ks : List Family) → count_failed (drop n ks) ≤ count_failed ks
failed-drop zero ks = omega arith
failed-drop (suc n) [] = omega arith
failed-drop (suc n) (k ∷ ks) = omega (arith, failed-drop n ks)

-- the first children, and the others
undone-rest : (ks : List Family) (m : ℕ) → count_undone ks ≡ count_undone (take m ks) + count_undone (take (length ks - m) (drop m ks))
undone-rest ks m = ap count_undone (sym (take-append-drop m ks)) ∙ undone-append (take m ks) (drop m ks) ∙ ap (λ xs. count_undone (take m ks) + count_undone xs) (sym (take_rest ks m))

-- where a branch is busy, a walk over some of its children finds a turn, if one of them isn't done
part-goes : (failed undone n m : ℕ) (self : Family) (h : Held) (ks : List Family) (some : Bool) → fam h ks ≡ self → failed ≡ count_failed ks → is_busy (children_at [] (branches_of self)) ≡ true
    → (count_failed (take n (drop m ks)) ≡ 0 → failed ≡ 0 → undone ≡ 0 → 0 < count_undone (take n (drop m ks)) → some ≡ true)
    → undone ≡ 0 → (0 < count_undone ks → 0 < count_undone (take n (drop m ks))) → some ≡ true
part-goes failed undone n m self h ks some v ef busy goes z l =
    let both = parts (nat_lt 0 (count_failed ks)) (nat_lt 0 (count_undone ks)) (sym (busy-root self h ks [] v refl) ∙ busy) in
    let none : count_failed ks ≤ 0 = grind (arith, nat_tests, both.0) in
    let left : 0 < count_undone ks = grind (arith, nat_tests, both.1) in
    goes (omega (arith, none, failed-take n (drop m ks), failed-drop m ks)) (omega (arith, none, ef)) z (l left)
  where
    parts : (a b : Bool) → (not a && b) ≡ true → (a ≡ false) × (b ≡ true)
    parts true b h = ((cc), (cc))
    parts false b h = (refl, h)

-- a walk over all that aren't over
pub over-goes : (failed : ℕ) (self : Family) (h : Held) (ks items : List Family) (r : Resting) (some : Bool) → fam h ks ≡ self → items ≡ ks → IsResting r ks → failed ≡ count_failed ks → is_busy (children_at [] (branches_of self)) ≡ true
    → (count_failed (take (length items - r.over) (drop r.over items)) ≡ 0 → failed ≡ 0 → ◌≡◌ {A = ℕ} 0 0 → 0 < count_undone (take (length items - r.over) (drop r.over items)) → some ≡ true)
    → some ≡ true
over-goes failed self h ks items r some v i q ef busy goes =
    let at = rw i at goes in
    part-goes failed 0 (length ks - r.over) r.over self h ks some v ef busy at refl (λ l. omega (arith, l, undone-rest ks r.over, undone-over (take r.over ks) q.overs))

-- where one over those that are idle finds none, one over the others does
pub active-goes : (failed : ℕ) (self : Family) (h : Held) (ks items others : List Family) (r : Resting) (idle active : Bool) → fam h ks ≡ self → items ≡ ks → others ≡ ks → IsResting r ks → failed ≡ count_failed ks → is_busy (children_at [] (branches_of self)) ≡ true
    → (count_failed (take (r.idle - r.over) (drop r.over items)) ≡ 0 → failed ≡ 0 → ◌≡◌ {A = ℕ} 0 0 → 0 < count_undone (take (r.idle - r.over) (drop r.over items)) → idle ≡ true)
    → (count_failed (take (length others - r.idle) (drop r.idle others)) ≡ 0 → failed ≡ 0 → r.undone ≡ 0 → 0 < count_undone (take (length others - r.idle) (drop r.idle others)) → active ≡ true)
    → idle ≡ false → active ≡ true
active-goes failed self h ks items others r idle active v i o q ef busy first second none = by r.undone refl
  where
    by : (u : ℕ) → r.undone ≡ u → active ≡ true
    by zero e = let at = rw o at second in part-goes failed r.undone (length ks - r.idle) r.idle self h ks active v ef busy at e (λ l. omega (arith, l, undone-rest ks r.idle, q.counted, e))
    by (suc u) e =
        let at = rw i at first in
        let x : idle ≡ true = part-goes failed 0 (r.idle - r.over) r.over self h ks idle v ef busy at refl (λ l. omega (arith, e, undone-from ks r.over r.idle q.ordered, q.counted, undone-over (take r.over ks) q.overs)) in
        (cc)
