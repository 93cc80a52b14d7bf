-- Which checkpoints are kept, as steps are taken and taken back.
use Rattle.std.proofs.Common.{ℕ, zero, suc, ◌≡◌, ◌⊎◌, inl, inr, ◌+◌, ◌-◌, ◌*◌, ◌<◌, ◌≤◌, List, [], ◌∷◌, ◌++◌, length, take, drop, Some, refl, sym, ◌∙◌, ap, arith, length-append, length-take-le, take_all, take-take, take-append-drop}
use Rattle.std.specs.Prelude.{slice_get}
use Rattle.std.proofs.lemmas.List.{take-append-le, drop-take}
use Rattle.asl_run_state.specs.World.{World}
use Rattle.asl_run_state.specs.Checkpoints.{world_at, IsCheckpointOf}
use Rattle.asl_run_state.specs.declared.checkpoint.Checkpoint.{Checkpoint}
use Rattle.asl_run_state.proofs.Earlier.{shows-earlier, is-earlier}
use Rattle.asl_run_input.specs.declared.setup.Setup.{Setup}
use Rattle.asl_run_input.specs.declared.step_at.StepAt.{StepAt}
use Rattle.asl_exec.specs.Steps.{opening, world_after}
use Rattle.asl_exec.proofs.Growing.{GoesOn, steps-go-on, after-append}
use Rattle.asl_session.specs.private.Marks.{IsMark, AreMarks}

-- ---- lists

in-push : {X : Type 0} (xs : List X) (x : X) (i : ℕ) (y : X) → slice_get (xs ++ x ∷ []) i ≡ Some y → (slice_get xs i ≡ Some y) ⊎ ((i ≡ length xs) × (y ≡ x))
in-push [] x zero y e = inr (refl, cc)
in-push [] x (suc i) y e = absurd cc
in-push (z ∷ zs) x zero y e = inl e
in-push (z ∷ zs) x (suc i) y e = elim (in-push zs x i y e) [
  | inl h ↦ inl h
  | inr h ↦ inr (ap suc h.0, h.1)
]

in-take : {X : Type 0} (n : ℕ) (xs : List X) (i : ℕ) (y : X) → slice_get (take n xs) i ≡ Some y → (slice_get xs i ≡ Some y) × (i < n)
in-take zero xs i y e = absurd cc
in-take (suc n) [] i y e = absurd cc
in-take (suc n) (x ∷ xs) zero y e = (e, omega arith)
in-take (suc n) (x ∷ xs) (suc i) y e = let h = in-take n xs i y e in let l = h.1 in (h.0, omega arith)

-- ---- steps are taken

mark-more : (s : Setup) (steps : List StepAt) (a : StepAt) (n : ℕ) (c : Checkpoint) → IsMark s steps n c → IsMark s (steps ++ a ∷ []) n c
mark-more s steps a n c h = record {
  within = omega (arith, h.within, length-append steps (a ∷ []));
  marks = rw (take-append-le n steps (a ∷ []) h.within) h.marks;
}

-- a step more needs no checkpoint where one covers it
pub marks-more : (s : Setup) (steps : List StepAt) (a : StepAt) (cs : List Checkpoint) → AreMarks s steps cs → length steps < 64 * length cs → AreMarks s (steps ++ a ∷ []) cs
marks-more s steps a cs h l = record {
  cover = omega (arith, l, length-append steps (a ∷ []));
  each = λ i c e. mark-more s steps a (64 * i) c (h.each i c e);
}

-- a checkpoint more
pub marks-push : (s : Setup) (steps : List StepAt) (cs : List Checkpoint) (c : Checkpoint) → AreMarks s steps cs → 64 * length cs ≤ length steps → IsCheckpointOf c (world_after s (opening s) steps) → AreMarks s steps (cs ++ c ∷ [])
marks-push s steps cs c h full is = record {
  cover = omega (arith, h.cover, length-append cs (c ∷ []));
  each = λ i d e. elim (in-push cs c i d e) [
    | inl k ↦ h.each i d k
    | inr k ↦
        let n : 64 * i ≡ 64 * length cs = ap (λ (m : ℕ). 64 * m) k.0 in
        let all : take (64 * i) steps ≡ steps = take_all (64 * i) steps (omega (arith, h.cover, n)) in
        record { within = omega (arith, full, n); marks = rw (all, k.1) is }
  ];
}

-- ---- steps are taken back

mark-back : (s : Setup) (steps : List StepAt) (left n : ℕ) (c : Checkpoint) → n ≤ left → left ≤ length steps → IsMark s steps n c → IsMark s (take left steps) n c
mark-back s steps left n c l m h = record {
  within = omega (arith, l, length-take-le left steps m);
  marks = rw (take-take n left steps l) h.marks;
}

pub marks-back : (s : Setup) (steps : List StepAt) (cs : List Checkpoint) (left n : ℕ) → AreMarks s steps cs → left ≤ length steps → 64 * n ≤ left → left < 64 * (n + 1) → n < length cs → AreMarks s (take left steps) (take (n + 1) cs)
marks-back s steps cs left n h l low high some = record {
  cover = omega (arith, length-take-le left steps l, length-take-le (n + 1) cs (omega (arith, some)), high);
  each = λ i c e. let k = in-take (n + 1) cs i c e in let few = k.1 in mark-back s steps left (64 * i) c (omega arith) l (h.each i c k.0);
}

-- an earlier world is the beginning of a later one
goes-on : (s : Setup) (w : World) (steps : List StepAt) (n : ℕ) → GoesOn (world_after s w (take n steps)).events (world_after s w steps).events
goes-on s w steps n =
    let whole : world_after s w steps ≡ world_after s (world_after s w (take n steps)) (drop n steps) = ap (world_after s w) (sym (take-append-drop n steps)) ∙ after-append s w (take n steps) (drop n steps) in
    rw whole (steps-go-on s (world_after s w (take n steps)) (drop n steps))

pub mark-shows : (s : Setup) (w : World) (steps : List StepAt) (n : ℕ) (c : Checkpoint) → w ≡ world_after s (opening s) steps → IsMark s steps n c → world_at c w.events ≡ world_after s (opening s) (take n steps)
mark-shows s w steps n c e h =
    let on = goes-on s (opening s) steps n in
    shows-earlier c (world_after s (opening s) (take n steps)) w.events on.more h.marks (ap (λ (v : World). v.events) e ∙ on.is)

pub mark-is : (s : Setup) (w : World) (steps : List StepAt) (n : ℕ) (c : Checkpoint) → w ≡ world_after s (opening s) steps → IsMark s steps n c → IsCheckpointOf c (world_at c w.events)
mark-is s w steps n c e h =
    let on = goes-on s (opening s) steps n in
    is-earlier c (world_after s (opening s) (take n steps)) w.events on.more h.marks (ap (λ (v : World). v.events) e ∙ on.is)

-- the steps from there on lead to the world that is left
pub anew : (s : Setup) (w : World) (steps some : List StepAt) (left n : ℕ) → n ≤ left → some ≡ take (left - n) (drop n steps) → w ≡ world_after s (opening s) (take n steps) → world_after s w some ≡ world_after s (opening s) (take left steps)
anew s w steps some left n l e is =
    let m : n + (left - n) ≡ left = omega (arith, l) in
    let rest : some ≡ drop n (take left steps) = e ∙ sym (drop-take n (left - n) steps) ∙ ap (λ (k : ℕ). drop n (take k steps)) m in
    let front : take n steps ≡ take n (take left steps) = sym (take-take n left steps l) in
    ap (λ (v : World). world_after s v some) (is ∙ ap (world_after s (opening s)) front) ∙ ap (world_after s (world_after s (opening s) (take n (take left steps)))) rest ∙ sym (after-append s (opening s) (take n (take left steps)) (drop n (take left steps))) ∙ ap (world_after s (opening s)) (take-append-drop n (take left steps))
