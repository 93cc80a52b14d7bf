-- What the machine answers is right: the call that the text spells, the first byte that can't go on, or a number past the limits.
use Rattle.std.proofs.Common.{◌≡◌, ◌+◌, ℕ, suc, Bool, true, false, List, [], ◌∷◌, ◌++◌, length, refl, sym, ◌∙◌, ap, subst, arith, cond, append_assoc, inl, inr, ◌⊎◌}
use Rattle.std.specs.Prelude.{Result, Ok, Err}
use Rattle.std.proofs.lemmas.List.{append-nil, length-append}
use Rattle.std.proofs.lemmas.Bool.Decides.{not_from_Decides}
use Rattle.asl_json_data.specs.Data.{number}
use Rattle.asl_json_data.specs.Number.{IsNumeral, is_over}
use Rattle.asl_json_data.specs.Number.{EndsNumber}
use Rattle.asl_json_data.specs.private.NumberParts.{is_number_front, is_number}
use Rattle.asl_json_data.proofs.Numerals.{dead_ends, front_decides, numeral_decides}
use Rattle.asl_intrinsic.specs.Tree.{Argument, Frame, constant, path}
use Rattle.asl_intrinsic.specs.Grammar.{states_word, SpellsCall, IsSpelled, IsPrefix}
use Rattle.asl_intrinsic.specs.Fronts.{AwaitsArgument}
use Rattle.asl_intrinsic.specs.Faults.{EndsAt}
use Rattle.asl_intrinsic.specs.private.Steps.{Mode, prefix, naming, named, opening, wanting, word, chars, escape, figure, along, ended, Next, go, stop, is_path, in_figure, step_by, whole, finish_by, onward, run_by, heard}
use Rattle.asl_intrinsic.proofs.Stopping.{stops_there}
use Rattle.asl_intrinsic.proofs.Reaching.{Reached, Holds, step_reaches, finish_spells, at_start}
use Rattle.asl_intrinsic.proofs.Passing.{free_heard}
use Rattle.asl_intrinsic.proofs.Alive.{alive}

-- the first byte that can't go on has so many bytes from it on
pub record SyntaxLeft (t : List ℕ) (left : ℕ) : Type 0 where
  pub front : List ℕ
  pub rest : List ℕ
  pub parts : t ≡ front ++ rest
  pub left_is : length rest ≡ left
  pub alive_is : IsPrefix front
  pub dead : EndsAt front rest

-- and so has a number past the limits
pub record NumberLeft (t : List ℕ) (left : ℕ) : Type 0 where
  pub front : List ℕ
  pub spelled : List ℕ
  pub rest : List ℕ
  pub parts : t ≡ front ++ (spelled ++ rest)
  pub left_is : length (spelled ++ rest) ≡ left
  pub awaits : AwaitsArgument front
  pub number_is : IsNumeral spelled
  pub longest : EndsNumber spelled rest
  pub over : is_over spelled ≡ true

abbrev pub Judged : List ℕ → Result Argument ℕ → Type 0
Judged t (Ok a) = SpellsCall a t
Judged t (Err left) = SyntaxLeft t left ⊎ NumberLeft t left

-- ---- with limits and without

-- a number past the limits has ended before this byte
record OverStep (m : Mode) (st : List Frame) (c : ℕ) : Type 0 where
  spelled : List ℕ
  mode_is : m ≡ figure spelled
  number_is : is_number spelled ≡ true
  over : is_over spelled ≡ true
  ends : is_number_front (spelled ++ c ∷ []) ≡ false
  stops : step_by true m st c ≡ stop (length spelled)

abbrev Compared : Mode → List Frame → ℕ → Type 0
Compared m st c = (step_by true m st c ≡ step_by false m st c) ⊎ OverStep m st c

figure_compared : (s : List ℕ) (st : List Frame) (c : ℕ) → Compared (figure s) st c
unfolding in_figure
figure_compared s st c = at (is_number_front (s ++ c ∷ [])) (is_number s) (is_over s) refl refl refl
  where
    at : (f n o : Bool) → is_number_front (s ++ c ∷ []) ≡ f → is_number s ≡ n → is_over s ≡ o → Compared (figure s) st c
    at true n o x y z = inl (rw x refl)
    at false false o x y z = inl (rw (x, y) refl)
    at false true false x y z = inl (rw (x, y, z) refl)
    at false true true x y z = inr (record { spelled = s; mode_is = refl; number_is = y; over = z; ends = x; stops = rw (x, y, z) refl })

compared : (m : Mode) (st : List Frame) (c : ℕ) → Compared m st c
compared (prefix ws) st c = inl refl
compared (naming n) st c = inl refl
compared (named n) st c = inl refl
compared opening st c = inl refl
compared wanting st c = inl refl
compared (word ws d) st c = inl refl
compared (chars s) st c = inl refl
compared (escape s) st c = inl refl
compared (figure s) st c = figure_compared s st c
compared (along s) st c = inl refl
compared (ended a) st c = inl refl

-- the text has ended behind a number past the limits
record OverEnd (m : Mode) (st : List Frame) : Type 0 where
  spelled : List ℕ
  mode_is : m ≡ figure spelled
  number_is : is_number spelled ≡ true
  over : is_over spelled ≡ true
  stops : finish_by true m st ≡ Err (length spelled)

abbrev ComparedEnd : Mode → List Frame → Type 0
ComparedEnd m st = (finish_by true m st ≡ finish_by false m st) ⊎ OverEnd m st

figure_compared_end : (s : List ℕ) (st : List Frame) → ComparedEnd (figure s) st
figure_compared_end s st = at (is_number s) (is_over s) refl refl
  where
    at : (n o : Bool) → is_number s ≡ n → is_over s ≡ o → ComparedEnd (figure s) st
    at false o y z = inl (rw y refl)
    at true false y z = inl (rw (y, z) refl)
    at true true y z = inr (record { spelled = s; mode_is = refl; number_is = y; over = z; stops = rw (y, z) refl })

compared_end : (m : Mode) (st : List Frame) → ComparedEnd m st
compared_end (prefix ws) st = inl refl
compared_end (naming n) st = inl refl
compared_end (named n) st = inl refl
compared_end opening st = inl refl
compared_end wanting st = inl refl
compared_end (word ws d) st = inl refl
compared_end (chars s) st = inl refl
compared_end (escape s) st = inl refl
compared_end (figure s) st = figure_compared_end s st
compared_end (along s) st = inl refl
compared_end (ended a) st = inl refl

-- ---- the end of the text, without limits

whole_left : (a : Argument) (st : List Frame) (left : ℕ) → whole a st ≡ Err left → 0 ≡ left
whole_left a [] left e = absurd cc
whole_left a (f ∷ st) left e = cc

chosen_left : (b : Bool) (a : Argument) (st : List Frame) (left : ℕ) → cond b (whole a st) (Err 0) ≡ Err left → 0 ≡ left
chosen_left true a st left e = whole_left a st left e
chosen_left false a st left e = cc

finish_left : (m : Mode) (st : List Frame) (left : ℕ) → finish_by false m st ≡ Err left → 0 ≡ left
finish_left (prefix ws) st left e = cc
finish_left (naming n) st left e = cc
finish_left (named n) st left e = cc
finish_left opening st left e = cc
finish_left wanting st left e = cc
finish_left (word ws d) st left e = cc
finish_left (chars s) st left e = cc
finish_left (escape s) st left e = cc
finish_left (figure s) st left e = chosen_left (is_number s) (constant (number s)) st left e
finish_left (along s) st left e = chosen_left (is_path s) (path s) st left e
finish_left (ended a) st left e = whole_left a st left e

-- ---- no call goes on there

no_call : (t : List ℕ) (left : ℕ) → run_by false (prefix states_word) [] t ≡ Err left → IsSpelled t → ⊥
no_call t left e h = let two = sym e ∙ free_heard h.tree t h.spelled in cc

no_prefix : (front : List ℕ) (c : ℕ) → ((rest : List ℕ) → run_by false (prefix states_word) [] (front ++ c ∷ rest) ≡ Err (suc (length rest))) → IsPrefix (front ++ c ∷ []) → ⊥
no_prefix front c f h = no_call (front ++ c ∷ h.more) (suc (length h.more)) (f h.more) (subst IsSpelled (append_assoc front (c ∷ []) h.more) h.is_call)

-- ---- a number past the limits

ends_there : (s : List ℕ) (c : ℕ) (cs : List ℕ) → is_number_front (s ++ c ∷ []) ≡ false → EndsNumber s (c ∷ cs)
ends_there s c cs e = dead_ends s c cs (not_from_Decides (is_number_front (s ++ c ∷ [])) (front_decides (s ++ c ∷ [])) e)

over_left : (s : List ℕ) (st : List Frame) (t xs : List ℕ) → Reached (figure s) st t → is_number s ≡ true → is_over s ≡ true → EndsNumber s xs → NumberLeft (t ++ xs) (length s + length xs)
over_left s [] t xs h n o e = absurd h.back_is
over_left s (f ∷ st) t xs h n o e = record {
  front = h.front;
  spelled = s;
  rest = xs;
  parts = ap (λ (z : List ℕ). z ++ xs) (h.parts ∙ ap (λ (z : List ℕ). h.front ++ z) h.back_is.0) ∙ append_assoc h.front s xs;
  left_is = length-append s xs;
  awaits = record { innermost = f; others = st; opens = h.front_is };
  number_is = (numeral_decides s).0 n;
  longest = e;
  over = o;
}

-- ---- the whole run

-- the run without limits
abbrev Free : Mode → List Frame → List ℕ → Type 0
Free m st t = (rest : List ℕ) → run_by false (prefix states_word) [] (t ++ rest) ≡ run_by false m st rest

end_judged : (m : Mode) (st : List Frame) (t : List ℕ) → Reached m st t → Free m st t → Judged (t ++ []) (finish_by true m st)
end_judged m st t h f = at (compared_end m st)
  where
    told : (o : Result Argument ℕ) → finish_by true m st ≡ o → finish_by false m st ≡ o → Judged (t ++ []) o
    told (Ok a) e g = subst (SpellsCall a) (sym (append-nil t)) (finish_spells true m st t a h e)
    told (Err left) e g = inl (record { front = t ++ []; rest = []; parts = sym (append-nil (t ++ [])); left_is = finish_left m st left g; alive_is = subst IsPrefix (sym (append-nil t)) (alive m st t h); dead = no_call (t ++ []) left (f [] ∙ g) })

    at : ComparedEnd m st → Judged (t ++ []) (finish_by true m st)
    at (inl e) = told (finish_by true m st) refl (sym e)
    at (inr o) =
        let more : length o.spelled + 0 ≡ length o.spelled = omega arith in
        subst (Judged (t ++ [])) (sym (o.stops ∙ ap Err (sym more))) (inr (over_left o.spelled st t [] (subst (λ (z : Mode). Reached z st t) o.mode_is h) o.number_is o.over tt))

-- one byte further
abbrev Further : List ℕ → ℕ → List ℕ → Type 0
Further t c cs = (k : Mode) (su : List Frame) → Reached k su (t ++ c ∷ []) → Free k su (t ++ c ∷ []) → Judged ((t ++ c ∷ []) ++ cs) (run_by true k su cs)

pub run_judged : (m : Mode) (st : List Frame) (t xs : List ℕ) → Reached m st t → Free m st t → Judged (t ++ xs) (run_by true m st xs)
run_judged m st t [] h f = end_judged m st t h f
run_judged m st t (c ∷ cs) h f = at (compared m st c) (λ k su g e. run_judged k su (t ++ c ∷ []) cs g e)
  where
    next : (n : Next) → Further t c cs → step_by false m st c ≡ n → Holds (t ++ c ∷ []) n → Judged (t ++ c ∷ cs) (onward n (suc (length cs)) (λ k su. run_by true k su cs))
    next (go k su) again e g =
        subst (λ (z : List ℕ). Judged z (run_by true k su cs)) (append_assoc t (c ∷ []) cs)
        (again k su g (λ rest. ap (run_by false (prefix states_word) []) (append_assoc t (c ∷ []) rest) ∙ f (c ∷ rest) ∙ ap (λ (z : Next). onward z (suc (length rest)) (λ i j. run_by false i j rest)) e))
    next (stop back) again e g =
        let there = stops_there m st c back e in
        inl (record {
          front = t;
          rest = c ∷ cs;
          parts = refl;
          left_is = omega (arith, there);
          alive_is = alive m st t h;
          dead = no_prefix t c (λ rest. f (c ∷ rest) ∙ ap (λ (z : Next). onward z (suc (length rest)) (λ i j. run_by false i j rest)) e ∙ ap Err (let z : back + suc (length rest) ≡ suc (length rest) = omega (arith, there) in z));
        })

    at : Compared m st c → Further t c cs → Judged (t ++ c ∷ cs) (onward (step_by true m st c) (suc (length cs)) (λ k su. run_by true k su cs))
    at (inl e) again = subst (λ (z : Next). Judged (t ++ c ∷ cs) (onward z (suc (length cs)) (λ k su. run_by true k su cs))) (sym e) (next (step_by false m st c) again refl (step_reaches false m st t c h))
    at (inr o) again =
        subst (λ (z : Next). Judged (t ++ c ∷ cs) (onward z (suc (length cs)) (λ k su. run_by true k su cs))) (sym o.stops)
        (inr (over_left o.spelled st t (c ∷ cs) (subst (λ (z : Mode). Reached z st t) o.mode_is h) o.number_is o.over (ends_there o.spelled c cs o.ends)))

pub heard_judged : (t : List ℕ) → Judged t (heard t)
heard_judged t = run_judged (prefix states_word) [] [] t at_start (λ rest. refl)
