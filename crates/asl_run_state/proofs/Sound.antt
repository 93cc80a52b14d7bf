-- What always holds of a run holds after a step.
use Rattle.std.proofs.Common.{ℕ, suc, zero, ◌≡◌, ◌+◌, ◌<◌, ◌≤◌, Bool, true, false, List, [], ◌∷◌, refl, sym, ◌∙◌, ap, subst, arith, length, get_or, set, Option, Some, None, IsSome}
use Rattle.std.specs.Prelude.{is_some, nat_lt}
use Rattle.std.proofs.lemmas.Bool.Decides.{nat_tests}
use Rattle.asl_history.specs.declared.event.Event.{Event}
use Rattle.asl_step.specs.Bounds.{are_kept}
use Rattle.asl_step.specs.declared.effect.Children.{Children}
use Rattle.asl_step.specs.declared.effect.Children.TheVariants.{Kept, Removed, Forked as Made}
use Rattle.asl_step.specs.declared.effect.Effect.{Effect}
use Rattle.asl_step.specs.declared.effect.Draft.{Draft}
use Rattle.asl_step.specs.declared.record.Record.{Record}
use Rattle.asl_run_branches.specs.Branches.{record_at}
use Rattle.asl_run_branches.specs.Trees.{Node, Family, branches_of, nodes_of}
use Rattle.asl_run_branches.specs.Changes.{Litter, litter_of, change, nodes_after}
use Rattle.asl_run_branches.specs.private.Links.{is_there, IsLinked}
use Rattle.asl_run_branches.proofs.Changing.{plain-nodes}
use Rattle.asl_run_branches.proofs.Linking.{Tell, links-kept, links-still, there-is, kids-unknown}
use Rattle.asl_run_branches.proofs.Placing.{placed-after}
use Rattle.asl_history.specs.declared.kind.EventKind.TheVariants.{ExecutionTimedOut}
use Rattle.asl_step.specs.Records.{is_finished}
use Rattle.asl_step.specs.Rows.{error_output}
use Rattle.asl_step.specs.declared.effect.Ended.{Ended}
use Rattle.asl_step.specs.declared.effect.Ended.TheVariants.{Succeeded as EndedWell, Failed as EndedBadly}
use Rattle.asl_run_state.specs.declared.outcome.Outcome.{Outcome}
use Rattle.asl_run_state.specs.declared.outcome.Outcome.TheVariants.{TimedOut}
use Rattle.asl_run_state.specs.World.{raised, counts_after, events_after, is_over, outcome_after, timeout_error}
use Rattle.asl_run_state.specs.private.Telling.{last_id}
use Rattle.asl_run_state.specs.private.Sound.{IsSound, is_going}
use Rattle.asl_run_state.proofs.Telling.{events-length, all-history, all-told}

set-bound : (xs : List ℕ) (i v k m : ℕ) → v ≤ m → get_or xs k 0 ≤ m → get_or (set xs i v) k 0 ≤ m
set-bound [] i v k m a b = b
set-bound (x ∷ xs) zero v zero m a b = a
set-bound (x ∷ xs) zero v (suc k) m a b = b
set-bound (x ∷ xs) (suc i) v zero m a b = b
set-bound (x ∷ xs) (suc i) v (suc k) m a b = set-bound xs i v k m a b

raised-bound : (o : Option ℕ) (m more : ℕ) (counts : List ℕ) → 0 < more → ((k : ℕ) → get_or counts k 0 ≤ m) → (k : ℕ) → get_or (raised o counts) k 0 ≤ m + more
raised-bound None m more counts tells h k = omega (arith, h k)
raised-bound (Some n) m more counts tells h k = set-bound counts n _ k (m + more) (omega (arith, h n, tells)) (omega (arith, h k))

counted-after : (o : Option ℕ) (m more : ℕ) (raises : Bool) (counts : List ℕ) → (raises ≡ true → 0 < more) → ((k : ℕ) → get_or counts k 0 ≤ m) → (k : ℕ) → get_or (counts_after o raises counts) k 0 ≤ m + more
counted-after o m more true counts tells h k = raised-bound o m more counts (tells refl) h k
counted-after o m more false counts tells h k = omega (arith, h k)

-- ---- the branches know the latest events

-- a branch runs there
pub there-node : (f : Family) (p : List ℕ) → is_some (record_at p (branches_of f)) ≡ true → is_there p (nodes_of f) ≡ true
there-node f p e = sym (there-is p (nodes_of f)) ∙ ap (λ bs. is_some (record_at p bs)) (plain-nodes f) ∙ e

silent-linked : (c : Children) (p : List ℕ) (r : Record) (ns : List Node) (es : List Event) → (are_kept c ≡ false → 0 < 0) → IsLinked ns es → IsLinked (nodes_after p (change r None (litter_of p c)) ns) es
silent-linked Kept p r ns es h l = links-still p r ns es l
silent-linked Removed p r ns es h l = absurd (let x = h refl in omega (arith, x))
silent-linked (Made rs) p r ns es h l = absurd (let x = h refl in omega (arith, x))

last-some : (n all : ℕ) → 0 < n → last_id n all ≡ Some all
last-some n all h = let e : nat_lt 0 n ≡ true = grind (arith, nat_tests, h) in rw e refl

linked-after : (ds : List Draft) (c : Children) (p : List ℕ) (now : ℕ) (r : Record) (ns : List Node) (es : List Event) → is_there p ns ≡ true → (are_kept c ≡ false → 0 < length ds) → IsLinked ns es → IsLinked (nodes_after p (change r (last_id (length ds) (length (events_after p now ds es))) (litter_of p c)) ns) (events_after p now ds es)
linked-after [] c p now r ns es t h l = silent-linked c p r ns es h l
linked-after (d ∷ ds) c p now r ns es t h l =
    let all = events_after p now (d ∷ ds) es in
    let tell : Tell = record { after = r; id = length all; keeps = (litter_of p c).keeps; made = (change r None (litter_of p c)).made } in
    subst (λ (o : Option ℕ). IsLinked (nodes_after p (change r o (litter_of p c)) ns) all) (sym (last-some (length (d ∷ ds)) (length all) (omega arith)))
    (links-kept p tell ns es all t (kids-unknown p c) (omega (arith, events-length p now (d ∷ ds) es)) refl (all-history p now (d ∷ ds) es l.told) (all-told p now d ds es l.told) l)

-- ---- all together

-- while the execution runs, the branch that it began with does
going : (p : List ℕ) (e : Effect) (told : Option ℕ) (f : Family) → is_going (nodes_of f) ≡ true → (p ≡ [] → is_finished e.after ≡ false) → is_going (nodes_after p (change e.after told (litter_of p e.children)) (nodes_of f)) ≡ true
going [] e told f g h = rw (h refl) refl
going (x ∷ xs) e told f g h = g

some-is : (o : Option Ended) → IsSome o → is_some o ≡ true
some-is None h = h
some-is (Some x) h = refl

unended : (e : Effect) (p : List ℕ) (o : Option Ended) → e.outcome ≡ o → o ≡ None → (p ≡ [] → is_finished e.after ≡ true → IsSome e.outcome) → p ≡ [] → is_finished e.after ≡ false
unended e p o h n ends at = by (is_finished e.after) refl
  where
    by : (c : Bool) → is_finished e.after ≡ c → is_finished e.after ≡ false
    by true f = let s : IsSome e.outcome = ends at f in let x : is_some e.outcome ≡ true = some-is e.outcome s in let y : is_some e.outcome ≡ false = ap is_some (h ∙ n) in let z : true ≡ false = sym x ∙ y in (cc)
    by false f = f

pub goes-on : (p : List ℕ) (e : Effect) (told : Option ℕ) (f : Family) (before : Outcome) → (is_over before ≡ false → is_going (nodes_of f) ≡ true) → (p ≡ [] → is_finished e.after ≡ true → IsSome e.outcome)
    → is_over (outcome_after e.outcome before) ≡ false → is_going (nodes_after p (change e.after told (litter_of p e.children)) (nodes_of f)) ≡ true
goes-on p e told f before goes ends = by e.outcome refl
  where
    by : (o : Option Ended) → e.outcome ≡ o → is_over (outcome_after o before) ≡ false → is_going (nodes_after p (change e.after told (litter_of p e.children)) (nodes_of f)) ≡ true
    by None h r = going p e told f (goes r) (unended e p None h refl ends)
    by (Some (EndedWell x)) h r = (cc)
    by (Some (EndedBadly x)) h r = (cc)

pub sound-after : (p : List ℕ) (o : Option ℕ) (now : ℕ) (e : Effect) (ns : List Node) (counts : List ℕ) (events : List Event) (before after : Outcome) → IsSound ns counts events before
    → is_there p ns ≡ true → length events ≤ 24992 → length e.events ≤ 8 → (e.raises ≡ true → 0 < length e.events) → (are_kept e.children ≡ false → 0 < length e.events)
    → (is_over after ≡ false → is_going (nodes_after p (change e.after (last_id (length e.events) (length (events_after p now e.events events))) (litter_of p e.children)) ns) ≡ true)
    → IsSound (nodes_after p (change e.after (last_id (length e.events) (length (events_after p now e.events events))) (litter_of p e.children)) ns) (counts_after o e.raises counts) (events_after p now e.events events) after
sound-after p o now e ns counts events before after s t room few tells changes goes = record {
  linked = linked-after e.events e.children p now e.after ns events t changes s.linked;
  placed = placed-after p e.after (last_id (length e.events) (length (events_after p now e.events events))) e.children ns s.placed;
  counted = λ k. omega (arith, counted-after o (1000000000 + length events) (length e.events) e.raises counts tells s.counted k, events-length p now e.events events);
  goes = goes;
}

-- the same where its time is over: an event is told at the root
abbrev pub late-draft : Draft
late-draft = record { kind = ExecutionTimedOut; name = []; body = error_output timeout_error }

abbrev pub late-events : (now : ℕ) (es : List Event) → List Event
late-events now es = events_after [] now (late-draft ∷ []) es

pub sound-late : (now : ℕ) (f new : Family) (counts : List ℕ) (events : List Event) (before : Outcome) → IsSound (nodes_of f) counts events before
    → nodes_of new ≡ nodes_after [] (change f.head.current (Some (length (late-events now events))) (litter_of [] Kept)) (nodes_of f)
    → IsSound (nodes_of new) counts (late-events now events) TimedOut
sound-late now f new counts events before s e = rw e record {
  linked = linked-after (late-draft ∷ []) Kept [] now f.head.current (nodes_of f) events refl (λ h. (cc)) s.linked;
  placed = placed-after [] f.head.current (Some (length (late-events now events))) Kept (nodes_of f) s.placed;
  counted = λ k. omega (arith, s.counted k, events-length [] now (late-draft ∷ []) events);
  goes = λ h. (cc);
}

-- ---- the same change, by what its parts are

pub nodes-same : (p : List ℕ) (r : Record) (told now : Option ℕ) (l m : Litter) (ns out : List Node) → out ≡ nodes_after p (change r told l) ns → told ≡ now → l ≡ m → out ≡ nodes_after p (change r now m) ns
nodes-same p r told now l m ns out e a b = e ∙ ap (λ (o : Option ℕ). nodes_after p (change r o l) ns) a ∙ ap (λ (z : Litter). nodes_after p (change r now z) ns) b

pub last-same : (o : Option ℕ) (n m a b : ℕ) → o ≡ last_id n a → n ≡ m → a ≡ b → o ≡ last_id m b
last-same o n m a b e x y = e ∙ ap (λ z. last_id z a) x ∙ ap (λ z. last_id m z) y
