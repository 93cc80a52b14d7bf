-- What is told at two places apart commutes, and so do counts.
use Rattle.std.proofs.Common.{ℕ, suc, zero, ◌≡◌, ◌≢◌, ◌+◌, Bool, true, false, List, [], ◌∷◌, ◌++◌, refl, sym, ◌∙◌, ap, cond, get_or, set, map, append_assoc, Some, None, Option}
use Rattle.std.proofs.lemmas.List.{append-nil, map-append, get_or-set_other}
use Rattle.std.proofs.lemmas.List.Elements.{filter-append}
use Rattle.std.specs.List.{filter}
use Rattle.asl_history.specs.declared.event.Event.{Event}
use Rattle.asl_history.specs.Events.{event_after}
use Rattle.asl_step.specs.declared.effect.Draft.{Draft}
use Rattle.asl_step.specs.Rows.{draft}
use Rattle.asl_run_branches.specs.Branches.{same_place}
use Rattle.asl_run_branches.proofs.Linking.{same-eq}
use Rattle.asl_run_state.specs.World.{count_of, counts_after, events_after}
use Rattle.asl_exec.specs.Exchanges.{told_at}
use Rattle.asl_exec_swap_laws.proofs.Apart.{IsApart}
use Rattle.asl_exec_swap_laws.proofs.Leaving.{same-false}

-- ---- events

pub told-append : (r : List ℕ) (xs ys : List Event) → told_at r (xs ++ ys) ≡ told_at r xs ++ told_at r ys
told-append r xs ys =
    let f : Event → ℕ × Draft = λ e. (e.at, draft e.kind e.name e.body) in
    let T : Event → Bool = λ e. same_place r e.place in
    ap (map f) (filter-append T xs ys) ∙ map-append f (filter T xs) (filter T ys)

-- drafts, told at this moment
abbrev pub at_moment : ℕ → List Draft → List (ℕ × Draft)
at_moment now ds = map (λ d. (now, d)) ds

pub told-after : (c : Bool) (r p : List ℕ) (now : ℕ) (ds : List Draft) (es : List Event) → same_place r p ≡ c → told_at r (events_after p now ds es) ≡ told_at r es ++ cond c (at_moment now ds) []
told-after true r p now [] es e = sym (append-nil (told_at r es))
told-after false r p now [] es e = sym (append-nil (told_at r es))
told-after c r p now (d ∷ ds) es e =
    let v = event_after es now d.kind p d.name d.body in
    told-after c r p now ds (es ++ v ∷ []) e ∙ rw (told-append r es (v ∷ []), e) (by c)
  where
    by : (c : Bool) → (told_at r es ++ map (λ (e : Event). (e.at, draft e.kind e.name e.body)) (cond c (event_after es now d.kind p d.name d.body ∷ []) [])) ++ cond c (at_moment now ds) [] ≡ told_at r es ++ cond c (at_moment now (d ∷ ds)) []
    by true = append_assoc (told_at r es) _ _
    by false = append-nil (told_at r es ++ [])

swap : (a b : Bool) (xs ys zs : List (ℕ × Draft)) → (a ≡ true → b ≡ false) → (xs ++ cond a ys []) ++ cond b zs [] ≡ (xs ++ cond b zs []) ++ cond a ys []
swap true b xs ys zs h = rw (h refl, append-nil (xs ++ ys), append-nil xs) refl
swap false b xs ys zs h = rw (append-nil xs, append-nil (xs ++ cond b zs [])) refl

pub told-commutes : (r p q : List ℕ) (now : ℕ) (cs ds : List Draft) (es : List Event) → IsApart p q → told_at r (events_after q now ds (events_after p now cs es)) ≡ told_at r (events_after p now cs (events_after q now ds es))
told-commutes r p q now cs ds es a =
    two p q cs ds
    ∙ swap (same_place r p) (same_place r q) (told_at r es) (at_moment now cs) (at_moment now ds) (λ e. rw (same-eq r p e) (same-false p q a.left))
    ∙ sym (two q p ds cs)
  where
    two : (p q : List ℕ) (cs ds : List Draft) → told_at r (events_after q now ds (events_after p now cs es)) ≡ (told_at r es ++ cond (same_place r p) (at_moment now cs) []) ++ cond (same_place r q) (at_moment now ds) []
    two p q cs ds = told-after (same_place r q) r q now ds (events_after p now cs es) refl ∙ ap (λ xs. xs ++ cond (same_place r q) (at_moment now ds) []) (told-after (same_place r p) r p now cs es refl)

-- ---- counts

-- these are no numbers of one state
abbrev pub Differ : Option ℕ → Option ℕ → Type 0
Differ n m = (k : ℕ) → n ≡ Some k → m ≡ Some k → ⊥

pub count-stays : (n m : Option ℕ) (raises : Bool) (counts : List ℕ) → (raises ≡ true → Differ n m) → count_of (counts_after n raises counts) m ≡ count_of counts m
count-stays n m false counts d = refl
count-stays n None true counts d = refl
count-stays None (Some m) true counts d = refl
count-stays (Some n) (Some m) true counts d = get_or-set_other counts n m _ 0 (λ e. d refl n refl (ap Some e))

set-swap : (xs : List ℕ) (i j a b : ℕ) → i ≢ j → set (set xs i a) j b ≡ set (set xs j b) i a
set-swap [] i j a b d = refl
set-swap (x ∷ xs) zero zero a b d = absurd (d refl)
set-swap (x ∷ xs) zero (suc j) a b d = refl
set-swap (x ∷ xs) (suc i) zero a b d = refl
set-swap (x ∷ xs) (suc i) (suc j) a b d = ap (λ ys. x ∷ ys) (set-swap xs i j a b (λ e. d (ap suc e)))

pub counts-commute : (n m : Option ℕ) (e f : Bool) (counts : List ℕ) → (e ≡ true → f ≡ true → Differ n m) → counts_after m f (counts_after n e counts) ≡ counts_after n e (counts_after m f counts)
counts-commute n m e false counts d = refl
counts-commute n m false true counts d = refl
counts-commute None m true true counts d = refl
counts-commute (Some n) None true true counts d = refl
counts-commute (Some n) (Some m) true true counts d =
    let ne : n ≢ m = λ e. d refl refl n refl (ap Some (sym e)) in
    rw (get_or-set_other counts n m (get_or counts n 0 + 1) 0 (λ e. ne (sym e)), get_or-set_other counts m n (get_or counts m 0 + 1) 0 ne) (set-swap counts n m _ _ ne)
