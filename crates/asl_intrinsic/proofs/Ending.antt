-- Numbers and paths end before what may follow an argument, and where an argument begins.
use Rattle.std.proofs.Common.{◌≡◌, ◌==◌, ℕ, suc, Bool, true, false, List, [], ◌∷◌, ◌++◌, length, refl, sym, ◌∙◌, ap, arith, cond, append_assoc}
use Rattle.std.specs.Prelude.{Result, Ok, Err, ◌||◌}
use Rattle.std.proofs.lemmas.Bool.{eqb-true}
use Rattle.asl_json_data.specs.Number.{IsNumeral, is_digit, is_point, is_mark, is_sign}
use Rattle.asl_json_data.specs.Number.{EndsNumber}
use Rattle.asl_json_scan.specs.private.Leads.{begins}
use Rattle.asl_json_data.proofs.Numerals.{numeral_some}
use Rattle.asl_json_scan.proofs.Passing.{is_figure, figure_ends_number, numeral_begins}
use Rattle.asl_path.specs.declared.step.Root.{Root}
use Rattle.asl_path.specs.declared.step.Root.TheVariants.{Input, Context}
use Rattle.asl_path.specs.declared.step.Step.{Step}
use Rattle.asl_path.specs.declared.step.Step.TheVariants.{Name}
use Rattle.asl_path.specs.Grammar.{SpellsRoot, IsPath, is_name_byte, is_digit as is_digit_of_paths}
use Rattle.asl_path.specs.private.Steps.{Mode, between, name, Next, go, stop, begin_step, advance, finish, onward, run, with_root, from_root, steps}
use Rattle.asl_path.proofs.Passing.{path_passes}
use Rattle.asl_intrinsic.specs.private.Leads.{is_behind}
use Rattle.asl_intrinsic.proofs.Leaves.{EndsFront}

-- what may follow an argument
abbrev pub Ends : List ℕ → Type 0
Ends [] = ⊥
Ends (c ∷ cs) = is_behind c ≡ true

-- ---- numbers

no_figure : (c : ℕ) → is_behind c ≡ true → is_figure c ≡ false
unfolding is_figure is_digit is_point is_mark is_sign
no_figure c e = grind (arith, e)

pub number_stops : (s rest : List ℕ) → Ends rest → EndsNumber s rest
number_stops s [] e = absurd e
number_stops s (c ∷ cs) e = figure_ends_number s c cs (no_figure c e)

-- ---- the first byte of a number

pub record BeginsNumber (s : List ℕ) : Type 0 where
  pub first : ℕ
  pub others : List ℕ
  pub parts : s ≡ first ∷ others
  pub begins_it : begins (first ∷ []) ≡ true

pub number_begins : (s : List ℕ) → IsNumeral s → BeginsNumber s
number_begins [] h = absurd (numeral_some [] h refl)
number_begins (c ∷ s) h = record { first = c; others = s; parts = refl; begins_it = numeral_begins (c ∷ s) h }

pub other_first : (b c : ℕ) → begins (b ∷ []) ≡ false → begins (c ∷ []) ≡ true → (c == b) ≡ false
other_first b c n h = at (c == b) refl
  where
    at : (x : Bool) → (c == b) ≡ x → x ≡ false
    at true e = let two = sym h ∙ ap (λ (z : ℕ). begins (z ∷ [])) (eqb-true c b e) ∙ n in absurd cc
    at false e = refl

-- ---- paths

no_stop : (c : ℕ) → is_behind c ≡ true → (c == 46) ≡ false
no_stop c e = grind (arith, e)

no_bracket : (c : ℕ) → is_behind c ≡ true → (c == 91) ≡ false
no_bracket c e = grind (arith, e)

no_name : (c : ℕ) → is_behind c ≡ true → is_name_byte c ≡ false
unfolding is_name_byte is_digit_of_paths
no_name c e = at (c == 32) (c == 44) (c == 41) refl refl refl e
  where
    at : (a b d : Bool) → (c == 32) ≡ a → (c == 44) ≡ b → (c == 41) ≡ d → ((a || b) || d) ≡ true → is_name_byte c ≡ false
    at true b d x y z h = rw (eqb-true c 32 x) refl
    at false true d x y z h = rw (eqb-true c 44 y) refl
    at false false true x y z h = rw (eqb-true c 41 z) refl
    at false false false x y z h = absurd cc

no_dollar : (c : ℕ) → is_behind c ≡ true → (c == 36) ≡ false
no_dollar c e = grind (arith, e)

no_step : (done : List Step) (c : ℕ) → is_behind c ≡ true → begin_step done c ≡ stop
no_step done c e = rw (no_stop c e, no_bracket c e) refl

end_stops : (m : Mode) (done ss : List Step) (c : ℕ) → is_behind c ≡ true → finish m done ≡ Ok ss → advance m done c ≡ stop
end_stops between done ss c e h = no_step done c e
end_stops (name n) done ss c e h = rw (no_name c e) (no_step (done ++ Name n ∷ []) c e)
end_stops x done ss c e h = absurd cc

run_stops : (m : Mode) (done ss : List Step) (s : List ℕ) (c : ℕ) (rest : List ℕ) → is_behind c ≡ true → run m done s ≡ Ok ss → run m done (s ++ c ∷ rest) ≡ Err (suc (length rest))
run_stops m done ss [] c rest e h = ap (λ (z : Next). onward z (suc (length rest)) (λ n d. run n d rest)) (end_stops m done ss c e h)
run_stops m done ss (b ∷ s) c rest e h = next (advance m done b) h (λ n d g. run_stops n d ss s c rest e g)
  where
    next : (n : Next) → onward n (suc (length s)) (λ k d. run k d s) ≡ Ok ss → ((k : Mode) (d : List Step) → run k d s ≡ Ok ss → run k d (s ++ c ∷ rest) ≡ Err (suc (length rest)))
        → onward n (suc (length (s ++ c ∷ rest))) (λ k d. run k d (s ++ c ∷ rest)) ≡ Err (suc (length rest))
    next (go k d) g again = again k d g
    next stop g again = absurd cc

rooted : (root : Root) (o p : Result (List Step) ℕ) (x : Root × List Step) (left : ℕ) → with_root root o ≡ Ok x → ((ss : List Step) → o ≡ Ok ss → p ≡ Err left) → with_root root p ≡ Err left
rooted root (Ok ss) p x left e f = ap (with_root root) (f ss refl)
rooted root (Err k) p x left e f = absurd cc

root_stops : (s : List ℕ) (x : Root × List Step) (c : ℕ) (rest : List ℕ) → is_behind c ≡ true → from_root s ≡ Ok x → from_root (s ++ c ∷ rest) ≡ Err (suc (length rest))
root_stops [] x c rest e h = rw (no_dollar c e) (ap (with_root Input) (run_stops between [] [] [] c rest e refl))
root_stops (b ∷ s) x c rest e h = at (b == 36) h
  where
    at : (y : Bool) → cond y (with_root Context (run between [] s)) (with_root Input (run between [] (b ∷ s))) ≡ Ok x
        → cond y (with_root Context (run between [] (s ++ c ∷ rest))) (with_root Input (run between [] (b ∷ (s ++ c ∷ rest)))) ≡ Err (suc (length rest))
    at true g = rooted Context (run between [] s) (run between [] (s ++ c ∷ rest)) x (suc (length rest)) g (λ ss k. run_stops between [] ss s c rest e k)
    at false g = rooted Input (run between [] (b ∷ s)) (run between [] (b ∷ (s ++ c ∷ rest))) x (suc (length rest)) g (λ ss k. run_stops between [] ss (b ∷ s) c rest e k)

steps_stop : (s : List ℕ) (x : Root × List Step) (c : ℕ) (rest : List ℕ) → is_behind c ≡ true → steps s ≡ Ok x → steps (s ++ c ∷ rest) ≡ Err (suc (length rest))
steps_stop [] x c rest e h = absurd cc
steps_stop (b ∷ s) x c rest e h = at (b == 36) h
  where
    at : (y : Bool) → cond y (from_root s) (Err (suc (length s))) ≡ Ok x → cond y (from_root (s ++ c ∷ rest)) (Err (suc (length (s ++ c ∷ rest)))) ≡ Err (suc (length rest))
    at true g = root_stops s x c rest e g
    at false g = absurd cc

pub path_stops : (s rest : List ℕ) → IsPath s → Ends rest → EndsFront s rest
path_stops s [] h e = absurd e
path_stops s (c ∷ cs) h e = λ p.
    let whole = p.is_path in
    let stops = steps_stop s (h.root, h.steps) c p.more e (path_passes h.root h.steps s h.spelled) in
    let reads = path_passes whole.root whole.steps ((s ++ c ∷ []) ++ p.more) whole.spelled in
    let same : (s ++ c ∷ []) ++ p.more ≡ s ++ c ∷ p.more = append_assoc s (c ∷ []) p.more in
    let two = sym reads ∙ ap steps same ∙ stops in
    cc

pub record BeginsPath (s : List ℕ) : Type 0 where
  pub others : List ℕ
  pub parts : s ≡ 36 ∷ others

pub path_begins : (s : List ℕ) → IsPath s → BeginsPath s
path_begins s h = at h.root h.spelled.front h.spelled.front_is h.spelled.parts
  where
    at : (r : Root) (f : List ℕ) → SpellsRoot r f → s ≡ f ++ h.spelled.back → BeginsPath s
    at Input f g e = record { others = h.spelled.back; parts = e ∙ ap (λ (z : List ℕ). z ++ h.spelled.back) g }
    at Context f g e = record { others = 36 ∷ h.spelled.back; parts = e ∙ ap (λ (z : List ℕ). z ++ h.spelled.back) g }
