-- What a driven run covers, one step after another.
use Rattle.std.proofs.Common.{ℕ, zero, suc, ◌≡◌, ◌-◌, ◌+◌, ◌<◌, List, [], ◌++◌, false, refl, sym, ◌∙◌, ap, arith, Some, None}
use Rattle.std.specs.Prelude.{Option, is_some}
use Rattle.std.proofs.lemmas.List.{append_assoc, append-nil}
use Rattle.asl_json_data.specs.Data.{Data}
use Rattle.asl_step.specs.declared.facts.Facts.{Facts}
use Rattle.asl_run_state.specs.World.{World}
use Rattle.asl_run_input.specs.declared.setup.Setup.{Setup}
use Rattle.asl_exec.specs.Driving.{Chosen, chosen, after}
use Rattle.asl_suite_coverage.specs.declared.spot.Spot.{Spot}
use Rattle.asl_suite_coverage.specs.Covered.{chosen_spots, driven_spots}

-- ---- where none comes next, none comes later

is_none : (o : Option Chosen) → false ≡ is_some o → o ≡ None
is_none None e = refl
is_none (Some x) e = (cc)

no_more : (m : Data) (c : Option Data) (f : Facts) (n : ℕ) (s : Setup) (w : World) → chosen s w ≡ None → driven_spots m c f n s w ≡ []
no_more m c f zero s w e = refl
no_more m c f (suc n) s w e =
    ap (λ (o : Option Chosen). chosen_spots m c f s w o ++ driven_spots m c f n s (after s w o)) e ∙ no_more m c f n s w e

-- what was added so far is all
pub ended : (m : Data) (c : Option Data) (f : Facts) (n : ℕ) (s : Setup) (w : World) (ss old all : List Spot)
    → false ≡ is_some (chosen s w) → ss ≡ old ++ chosen_spots m c f s w (chosen s w) → old ++ driven_spots m c f n s w ≡ all → ss ≡ all
ended m c f n s w ss old all e h t =
    let none = is_none (chosen s w) e in
    let own : ss ≡ old = h ∙ ap (λ (o : Option Chosen). old ++ chosen_spots m c f s w o) none ∙ append-nil old in
    own ∙ sym (append-nil old) ∙ ap (λ (x : List Spot). old ++ x) (sym (no_more m c f n s w none)) ∙ t

-- ---- one step of the loop: `n` of `limit` steps are taken

pub left : (n limit : ℕ) → n < limit → limit - n ≡ suc (limit - (n + 1))
left n limit l = omega (arith, l)

pub more : (m : Data) (c : Option Data) (f f' : Facts) (n limit : ℕ) (s s' : Setup) (w u : World) (ss old all : List Spot)
    → n < limit → f' ≡ f → s' ≡ s → u ≡ after s w (chosen s w) → ss ≡ old ++ chosen_spots m c f s w (chosen s w)
    → old ++ driven_spots m c f (limit - n) s w ≡ all → ss ++ driven_spots m c f' (limit - (n + 1)) s' u ≡ all
more m c f f' n limit s s' w u ss old all l facts same there h t =
    let rest : driven_spots m c f' (limit - (n + 1)) s' u ≡ driven_spots m c f (limit - (n + 1)) s (after s w (chosen s w)) = λ i. driven_spots m c (facts i) (limit - (n + 1)) (same i) (there i) in
    let first = chosen_spots m c f s w (chosen s w) in
    let behind = driven_spots m c f (limit - (n + 1)) s (after s w (chosen s w)) in
    ap (λ (x : List Spot). ss ++ x) rest
    ∙ ap (λ (x : List Spot). x ++ behind) h
    ∙ append_assoc old first behind
    ∙ ap (λ (x : List Spot). old ++ x) (sym (ap (λ k. driven_spots m c f k s w) (left n limit l)))
    ∙ t
