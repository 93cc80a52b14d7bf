-- What is done for one thing after another.
use Rattle.std.proofs.Common.{ℕ, ◌+◌, ◌<◌, ◌≤◌, ◌≡◌, ◌∙◌, List, [], ◌∷◌, length, get_or, drop, refl, ap, sym, subst, arith}
use Rattle.std.proofs.lemmas.List.{drop_more, drop_all}
use Rattle.std.specs.Prelude.{max}
use Rattle.asl_host.specs.Outcomes.{sink_use}
use Rattle.asl_host.specs.Reading.{Lacks}
use Rattle.asl_cli.specs.Streams.{FileUse, Io, file_use, io}
use Rattle.asl_cli.specs.Projects.{AreDone}

max-first : (s : ℕ) → s ≡ max 0 s
max-first s = omega arith

max-last : (s : ℕ) → max s 0 ≡ s
max-last s = omega arith

max-more : (a b c : ℕ) → max a (max b c) ≡ max (max a b) c
max-more a b c = omega arith

module _ {F O E W : Type 0} (does : FileUse F → Io O E → W → Type 0) (gives : F → List ℕ → List ℕ → Type 0) (lacks : F → Lacks)
    (out_taken : O → List ℕ) (out_failures : O → ℕ) (err_taken : E → List ℕ) (err_failures : E → ℕ) where
  -- from f, o and e to p and x
  abbrev pub Done : F → O → O → E → E → ℕ → List W → Type 0
  Done f o p e x s ws = AreDone does (file_use gives lacks f) (io (sink_use out_taken out_failures o p) (sink_use err_taken err_failures e x) s) ws

  -- what is done for those that are left is, behind what was done with this status, done for all
  abbrev pub GoesOn : F → F → O → O → E → E → ℕ → List W → List W → Type 0
  GoesOn f g o p e x status all left =
      (q : O) (y : E) (s : ℕ) → Done g p q x y s left → Done f o q e y (max status s) all

  pub goes_first : (f : F) (o : O) (e : E) (all : List W) → GoesOn f f o o e e 0 all all
  goes_first f o e all q y s done = subst (λ (n : ℕ). Done f o q e y n all) (max-first s) done

  goes_more : (f g h : F) (o p q : O) (e x y : E) (status one : ℕ) (all left : List W) (w : W) → GoesOn f g o p e x status all (w ∷ left)
      → does (file_use gives lacks g) (io (sink_use out_taken out_failures p q) (sink_use err_taken err_failures x y) one) w → GoesOn f h o q e y (max status one) all left
  goes_more f g h o p q e x y status one all left w so did r z s done =
      subst (λ (n : ℕ). Done f o r e z n all) (max-more status one s) (so r z (max one s) (h, q, y, one, s, did, done, refl))

  goes_last : (f g : F) (o p : O) (e x : E) (status : ℕ) (all : List W) → GoesOn f g o p e x status all [] → Done f o p e x status all
  goes_last f g o p e x status all so = subst (λ (n : ℕ). Done f o p e x n all) (max-last status) (so p x 0 (refl, refl, refl))

  -- the same at the one of a number
  pub goes_on : (f g h : F) (o p q : O) (e x y : E) (status one highest : ℕ) (all : List W) (i : ℕ) (w : W) → i < length all → w ≡ get_or all i w → GoesOn f g o p e x status all (drop i all)
      → does (file_use gives lacks g) (io (sink_use out_taken out_failures p q) (sink_use err_taken err_failures x y) one) w → highest ≡ max status one
      → GoesOn f h o q e y highest all (drop (i + 1) all)
  goes_on f g h o p q e x y status one highest all i w within is so did most =
      let parts : drop i all ≡ w ∷ drop (i + 1) all = drop_more all i w within ∙ ap (λ v. v ∷ drop (i + 1) all) (sym is) in
      let more = goes_more f g h o p q e x y status one all (drop (i + 1) all) w (subst (GoesOn f g o p e x status all) parts so) did in
      subst (λ (n : ℕ). GoesOn f h o q e y n all (drop (i + 1) all)) (sym most) more

  -- and behind the last one
  pub goes_end : (f g : F) (o p : O) (e x : E) (status : ℕ) (all : List W) (i : ℕ) → length all ≤ i → GoesOn f g o p e x status all (drop i all) → Done f o p e x status all
  goes_end f g o p e x status all i over so = goes_last f g o p e x status all (subst (GoesOn f g o p e x status all) (drop_all i all over) so)
