-- What is spelled is heard: each argument leads the machine over its text, unless limits hold and one of its numbers is past them.
use Rattle.std.proofs.Common.{◌≡◌, ◌<◌, ◌≤◌, ◌+◌, ◌==◌, ℕ, suc, Bool, true, false, List, [], ◌∷◌, ◌++◌, length, refl, sym, ◌∙◌, ap, subst, arith, cond, append_assoc, inl, inr, ◌⊎◌}
use Rattle.std.specs.Prelude.{Result, Ok, Err, not, ◌&&◌}
use Rattle.std.proofs.lemmas.List.{append-nil, length-append}
use Rattle.std.proofs.lemmas.Bool.{eqb-true}
use Rattle.asl_json_data.specs.Data.{Data, null, boolean, number}
use Rattle.asl_json_data.specs.Number.{IsNumeral, is_over, is_digit}
use Rattle.asl_json_data.specs.Grammar.{null_word, true_word, false_word}
use Rattle.asl_json_scan.specs.private.Leads.{begins as starts_number}
use Rattle.asl_json_data.proofs.Numerals.{numeral_front, numeral_some}
use Rattle.asl_path.specs.private.Leads.{NotFirst}
use Rattle.asl_intrinsic.specs.Tree.{Argument, Frame, constant, quoted, path, call, Arguments, none, argument, arguments}
use Rattle.asl_intrinsic.specs.Grammar.{states_word, is_name_byte, AreSpaces, is_escaped, is_inside, is_escape, SpellsConstant, SpellsHead, SpellsArgument, SpellsCall, Fits, FitAll, FitsConstant}
use Rattle.asl_intrinsic.specs.private.Lists.{SpellsArguments, SpellsMore}
use Rattle.asl_json_data.specs.Parts.{Spaced}
use Rattle.asl_intrinsic.specs.private.Steps.{Mode, prefix, named, opening, wanting, chars, escape, figure, along, ended, Next, go, in_prefix, in_word, begins, step_by, onward, run_by}
use Rattle.asl_intrinsic.specs.private.Leads.{begun_by}
use Rattle.asl_intrinsic.proofs.Stretches.{goes, spaces_pass, name_some, named_space, named_opens}
use Rattle.asl_intrinsic.proofs.Leaves.{char_on, backslash_on, quote_ends, escape_on, figure_run, fits_on, over_on, along_run, along_whole, path_prefix, quote_begins, dollar_begins, figure_begins}
use Rattle.asl_intrinsic.proofs.Turns.{opening_space, wanting_space, ended_space, opening_begins, wanting_begins, comma_wants, bracket_ends, bracket_closes}
use Rattle.asl_intrinsic.proofs.Ending.{Ends, number_stops, number_begins, other_first, path_stops, path_begins}

-- ---- the machine gets over a stretch, or stops at a number in it

-- limits hold, there is no such promise, and the machine stops with more bytes left than those
pub record Stopped (lim : Bool) (Sound : Type 0) (rest : ℕ) (r : Result Argument ℕ) : Type 0 where
  pub limits : lim ≡ true
  pub unsound : Sound → ⊥
  pub left : ℕ
  pub stops : r ≡ Err left
  pub before : rest < left

-- the promise and what the machine does further on
pub record Went (lim : Bool) (Sound : Type 0) (r s : Result Argument ℕ) : Type 0 where
  pub sound : lim ≡ true → Sound
  pub on : r ≡ s

abbrev pub Passed : Bool → Type 0 → ℕ → Result Argument ℕ → Result Argument ℕ → Type 0
Passed lim P rest r s = Went lim P r s ⊎ Stopped lim P rest r

-- one stretch, then another one
pub then_passed : (lim : Bool) (P Q R : Type 0) (j k : ℕ) (r s u : Result Argument ℕ) → Passed lim P k r s → Passed lim Q j s u → j ≤ k → (R → P) → (R → Q) → (P → Q → R) → Passed lim R j r u
then_passed lim P Q R j k r s u (inl e) (inl f) l p q both = inl (record { sound = λ x. both (e.sound x) (f.sound x); on = e.on ∙ f.on })
then_passed lim P Q R j k r s u (inl e) (inr g) l p q both = inr (record { limits = g.limits; unsound = λ x. g.unsound (q x); left = g.left; stops = e.on ∙ g.stops; before = g.before })
then_passed lim P Q R j k r s u (inr g) h l p q both = inr (record { limits = g.limits; unsound = λ x. g.unsound (p x); left = g.left; stops = g.stops; before = omega (arith, g.before, l) })

pub from_equal : (lim : Bool) (P : Type 0) (k : ℕ) (r s u : Result Argument ℕ) → r ≡ s → Passed lim P k s u → Passed lim P k r u
from_equal lim P k r s u e h = subst (λ (z : Result Argument ℕ). Passed lim P k z u) (sym e) h

pub to_equal : (lim : Bool) (P : Type 0) (k : ℕ) (r s u : Result Argument ℕ) → Passed lim P k r s → s ≡ u → Passed lim P k r u
to_equal lim P k r s u h e = subst (λ (z : Result Argument ℕ). Passed lim P k r z) e h

-- a stretch without numbers
pub plain : (lim : Bool) (P : Type 0) (k : ℕ) (r s : Result Argument ℕ) → P → r ≡ s → Passed lim P k r s
plain lim P k r s h e = inl (record { sound = λ _. h; on = e })

-- ---- where an argument begins

pub begun_at : (lim : Bool) (m : Mode) (st : List Frame) (c : ℕ) (cs : List ℕ) → begins st c ≡ step_by lim m st c → begun_by lim st (c ∷ cs) ≡ run_by lim m st (c ∷ cs)
begun_at lim m st c cs e = ap (λ (z : Next). onward z (suc (length cs)) (λ n s. run_by lim n s cs)) e

-- ---- numbers

start_39 : starts_number (39 ∷ []) ≡ false
unfolding is_digit
start_39 = refl

start_36 : starts_number (36 ∷ []) ≡ false
unfolding is_digit
start_36 = refl

start_83 : starts_number (83 ∷ []) ≡ false
unfolding is_digit
start_83 = refl

start_110 : starts_number (110 ∷ []) ≡ false
unfolding is_digit
start_110 = refl

start_116 : starts_number (116 ∷ []) ≡ false
unfolding is_digit
start_116 = refl

start_102 : starts_number (102 ∷ []) ≡ false
unfolding is_digit
start_102 = refl

start_32 : starts_number (32 ∷ []) ≡ false
unfolding is_digit
start_32 = refl

start_41 : starts_number (41 ∷ []) ≡ false
unfolding is_digit
start_41 = refl

pub begun_numeral : (lim : Bool) (st : List Frame) (s rest : List ℕ) → IsNumeral s → begun_by lim st (s ++ rest) ≡ run_by lim (figure []) st (s ++ rest)
begun_numeral lim st s rest h =
    let b = number_begins s h in
    let c = b.first in
    let differs = λ (k : ℕ) (n : starts_number (k ∷ []) ≡ false). other_first k c n b.begins_it in
    let same : s ++ rest ≡ c ∷ (b.others ++ rest) = ap (λ (z : List ℕ). z ++ rest) b.parts in
    ap (begun_by lim st) same
    ∙ begun_at lim (figure []) st c (b.others ++ rest) (figure_begins lim st c (differs 39 start_39) (differs 36 start_36) (differs 83 start_83) (differs 110 start_110) (differs 116 start_116) (differs 102 start_102))
    ∙ ap (run_by lim (figure []) st) (sym same)

numeral_passes : (lim : Bool) (st : List Frame) (s rest : List ℕ) → IsNumeral s → Ends rest → Passed lim (is_over s ≡ false) (length rest) (begun_by lim st (s ++ rest)) (run_by lim (ended (constant (number s))) st rest)
numeral_passes lim st s rest h e = at lim (is_over s) refl
  where
    reads : (l : Bool) → begun_by l st (s ++ rest) ≡ run_by l (figure s) st rest
    reads l = begun_numeral l st s rest h ∙ figure_run l [] s rest st (numeral_front s h)

    some : (t : List ℕ) → (t ≡ [] → ⊥) → 0 < length t
    some [] n = absurd (n refl)
    some (c ∷ t) n = omega arith

    fits : (l : Bool) → (l && is_over s) ≡ false → begun_by l st (s ++ rest) ≡ run_by l (ended (constant (number s))) st rest
    fits l f = reads l ∙ fits_on l s rest st h f (number_stops s rest e)

    at : (l b : Bool) → is_over s ≡ b → Passed l (is_over s ≡ false) (length rest) (begun_by l st (s ++ rest)) (run_by l (ended (constant (number s))) st rest)
    at false b f = inl (record { sound = λ l. absurd (let no = l in cc); on = fits false refl })
    at true false f = inl (record { sound = λ _. f; on = fits true f })
    at true true f = inr (record {
      limits = refl;
      unsound = λ g. let two = sym f ∙ g in cc;
      left = length s + length rest;
      stops = reads true ∙ over_on s rest st h f (number_stops s rest e);
      before = omega (arith, some s (λ n. numeral_some s h n));
    })

-- ---- words, texts and paths

pub null_passes : (lim : Bool) (st : List Frame) (rest : List ℕ) → begun_by lim st (null_word ++ rest) ≡ run_by lim (ended (constant null)) st rest
unfolding begins in_word
null_passes lim st rest = refl

true_passes : (lim : Bool) (st : List Frame) (rest : List ℕ) → begun_by lim st (true_word ++ rest) ≡ run_by lim (ended (constant (boolean true))) st rest
unfolding begins in_word
true_passes lim st rest = refl

false_passes : (lim : Bool) (st : List Frame) (rest : List ℕ) → begun_by lim st (false_word ++ rest) ≡ run_by lim (ended (constant (boolean false))) st rest
unfolding begins in_word
false_passes lim st rest = refl

constant_passes : (d : Data) (lim : Bool) (st : List Frame) (t rest : List ℕ) → SpellsConstant d t → Ends rest → Passed lim (FitsConstant d) (length rest) (begun_by lim st (t ++ rest)) (run_by lim (ended (constant d)) st rest)
constant_passes null lim st t rest h e = plain lim (Unit {0}) (length rest) (begun_by lim st (t ++ rest)) (run_by lim (ended (constant null)) st rest) tt (ap (λ (z : List ℕ). begun_by lim st (z ++ rest)) h ∙ null_passes lim st rest)
constant_passes (boolean true) lim st t rest h e = plain lim (Unit {0}) (length rest) (begun_by lim st (t ++ rest)) (run_by lim (ended (constant (boolean true))) st rest) tt (ap (λ (z : List ℕ). begun_by lim st (z ++ rest)) h ∙ true_passes lim st rest)
constant_passes (boolean false) lim st t rest h e = plain lim (Unit {0}) (length rest) (begun_by lim st (t ++ rest)) (run_by lim (ended (constant (boolean false))) st rest) tt (ap (λ (z : List ℕ). begun_by lim st (z ++ rest)) h ∙ false_passes lim st rest)
constant_passes (number s) lim st t rest h e =
    from_equal lim (is_over s ≡ false) (length rest) (begun_by lim st (t ++ rest)) (begun_by lim st (s ++ rest)) (run_by lim (ended (constant (number s))) st rest) (ap (λ (z : List ℕ). begun_by lim st (z ++ rest)) h.0) (numeral_passes lim st s rest h.1 e)
constant_passes x lim st t rest h e = absurd h

mutual
  chars_pass : (s : List ℕ) (lim : Bool) (u rest : List ℕ) (st : List Frame) → is_inside s ≡ true → run_by lim (chars u) st (s ++ 39 ∷ rest) ≡ run_by lim (ended (quoted (u ++ s))) st rest
  chars_pass [] lim u rest st h = goes lim (chars u) (ended (quoted u)) st st 39 rest (quote_ends u st) ∙ ap (λ (z : List ℕ). run_by lim (ended (quoted z)) st rest) (sym (append-nil u))
  chars_pass (c ∷ s) lim u rest st h = at (c == 92) (c == 39) refl refl h (λ e. escape_pass s lim u rest st e) (λ e. chars_pass s lim (u ++ c ∷ []) rest st e)
    where
      at : (b q : Bool) → (c == 92) ≡ b → (c == 39) ≡ q → cond b (is_escape s) (not q && is_inside s) ≡ true
          → (is_escape s ≡ true → run_by lim (escape u) st (s ++ 39 ∷ rest) ≡ run_by lim (ended (quoted (u ++ 92 ∷ s))) st rest)
          → (is_inside s ≡ true → run_by lim (chars (u ++ c ∷ [])) st (s ++ 39 ∷ rest) ≡ run_by lim (ended (quoted ((u ++ c ∷ []) ++ s))) st rest)
          → run_by lim (chars u) st (c ∷ (s ++ 39 ∷ rest)) ≡ run_by lim (ended (quoted (u ++ c ∷ s))) st rest
      at true q x y e f k =
          ap (λ (z : ℕ). run_by lim (chars u) st (z ∷ (s ++ 39 ∷ rest))) (eqb-true c 92 x)
          ∙ goes lim (chars u) (escape u) st st 92 (s ++ 39 ∷ rest) (backslash_on u st)
          ∙ f e
          ∙ ap (λ (z : ℕ). run_by lim (ended (quoted (u ++ z ∷ s))) st rest) (sym (eqb-true c 92 x))
      at false true x y e f k = absurd cc
      at false false x y e f k =
          goes lim (chars u) (chars (u ++ c ∷ [])) st st c (s ++ 39 ∷ rest) (char_on u st c y x)
          ∙ k e
          ∙ ap (λ (z : List ℕ). run_by lim (ended (quoted z)) st rest) (append_assoc u (c ∷ []) s)

  escape_pass : (s : List ℕ) (lim : Bool) (u rest : List ℕ) (st : List Frame) → is_escape s ≡ true → run_by lim (escape u) st (s ++ 39 ∷ rest) ≡ run_by lim (ended (quoted (u ++ 92 ∷ s))) st rest
  escape_pass [] lim u rest st h = absurd cc
  escape_pass (c ∷ s) lim u rest st h = at (is_escaped c) refl h (λ e. chars_pass s lim (u ++ 92 ∷ c ∷ []) rest st e)
    where
      at : (b : Bool) → is_escaped c ≡ b → (b && is_inside s) ≡ true
          → (is_inside s ≡ true → run_by lim (chars (u ++ 92 ∷ c ∷ [])) st (s ++ 39 ∷ rest) ≡ run_by lim (ended (quoted ((u ++ 92 ∷ c ∷ []) ++ s))) st rest)
          → run_by lim (escape u) st (c ∷ (s ++ 39 ∷ rest)) ≡ run_by lim (ended (quoted (u ++ 92 ∷ c ∷ s))) st rest
      at true x e k =
          goes lim (escape u) (chars (u ++ 92 ∷ c ∷ [])) st st c (s ++ 39 ∷ rest) (escape_on u st c x)
          ∙ k e
          ∙ ap (λ (z : List ℕ). run_by lim (ended (quoted z)) st rest) (append_assoc u (92 ∷ c ∷ []) s)
      at false x e k = absurd cc

quoted_passes : (lim : Bool) (st : List Frame) (s t rest : List ℕ) → SpellsArgument (quoted s) t → begun_by lim st (t ++ rest) ≡ run_by lim (ended (quoted s)) st rest
quoted_passes lim st s t rest h =
    let same : t ++ rest ≡ 39 ∷ (s ++ 39 ∷ rest) = ap (λ (z : List ℕ). z ++ rest) h.parts ∙ ap (λ (z : List ℕ). 39 ∷ z) (append_assoc s (39 ∷ []) rest) in
    ap (begun_by lim st) same
    ∙ ap (λ (z : Next). onward z (suc (length (s ++ 39 ∷ rest))) (λ n su. run_by lim n su (s ++ 39 ∷ rest))) (quote_begins st)
    ∙ chars_pass s lim [] rest st h.inside

path_passes : (lim : Bool) (st : List Frame) (p t rest : List ℕ) → SpellsArgument (path p) t → Ends rest → begun_by lim st (t ++ rest) ≡ run_by lim (ended (path p)) st rest
path_passes lim st p t rest h e =
    let b = path_begins p h.1 in
    let same : p ++ rest ≡ 36 ∷ (b.others ++ rest) = ap (λ (z : List ℕ). z ++ rest) b.parts in
    ap (λ (z : List ℕ). begun_by lim st (z ++ rest)) h.0
    ∙ ap (begun_by lim st) same
    ∙ begun_at lim (along []) st 36 (b.others ++ rest) (dollar_begins st)
    ∙ ap (run_by lim (along []) st) (sym same)
    ∙ along_run lim [] p rest st (path_prefix p h.1)
    ∙ along_whole lim p rest st h.1 (path_stops p rest h.1 e)

-- ---- heads of calls

states_pass : (lim : Bool) (st : List Frame) (rest : List ℕ) → run_by lim (prefix states_word) st (states_word ++ rest) ≡ run_by lim (prefix []) st rest
unfolding in_prefix
states_pass lim st rest = refl

call_begun : (lim : Bool) (st : List Frame) (rest : List ℕ) → begun_by lim st (states_word ++ rest) ≡ run_by lim (prefix states_word) st (states_word ++ rest)
unfolding begins
call_begun lim st rest = refl

name_stops : (spaces rest : List ℕ) → AreSpaces spaces → NotFirst is_name_byte (spaces ++ 40 ∷ rest)
unfolding is_name_byte
name_stops [] rest h = refl
name_stops (c ∷ s) rest h = let same : c ≡ 32 = eqb-true c 32 h.0 in rw same refl

head_text : (n t rest : List ℕ) → (h : SpellsHead n t) → t ++ rest ≡ states_word ++ (n ++ (h.spaces ++ 40 ∷ rest))
head_text n t rest h =
    ap (λ (z : List ℕ). z ++ rest) h.parts
    ∙ ap (λ (z : List ℕ). states_word ++ z) (append_assoc n (h.spaces ++ 40 ∷ []) rest ∙ ap (λ (z : List ℕ). n ++ z) (append_assoc h.spaces (40 ∷ []) rest))

pub head_passes : (lim : Bool) (n t rest : List ℕ) (st : List Frame) → SpellsHead n t → run_by lim (prefix states_word) st (t ++ rest) ≡ run_by lim opening ((n, []) ∷ st) rest
head_passes lim n t rest st h =
    ap (run_by lim (prefix states_word) st) (head_text n t rest h)
    ∙ states_pass lim st (n ++ (h.spaces ++ 40 ∷ rest))
    ∙ name_some lim n (h.spaces ++ 40 ∷ rest) st h.some h.each (name_stops h.spaces rest h.spaces_are)
    ∙ spaces_pass lim (named n) st h.spaces (40 ∷ rest) (named_space n st) h.spaces_are
    ∙ goes lim (named n) opening st ((n, []) ∷ st) 40 rest (named_opens n st)

pub head_begun : (lim : Bool) (n t rest : List ℕ) (st : List Frame) → SpellsHead n t → begun_by lim st (t ++ rest) ≡ run_by lim (prefix states_word) st (t ++ rest)
head_begun lim n t rest st h =
    let same = head_text n t rest h in
    ap (begun_by lim st) same ∙ call_begun lim st (n ++ (h.spaces ++ 40 ∷ rest)) ∙ ap (run_by lim (prefix states_word) st) (sym same)

-- ---- an argument with spaces round it

-- no space and no bracket stands first
pub record BeginsArgument (t : List ℕ) : Type 0 where
  pub first : ℕ
  pub others : List ℕ
  pub parts : t ≡ first ∷ others
  pub no_space : (first == 32) ≡ false
  pub no_bracket : (first == 41) ≡ false

begins_with : (t : List ℕ) (c : ℕ) (cs : List ℕ) → t ≡ c ∷ cs → (c == 32) ≡ false → (c == 41) ≡ false → BeginsArgument t
begins_with t c cs e f g = record { first = c; others = cs; parts = e; no_space = f; no_bracket = g }

pub numeral_first : (s : List ℕ) → IsNumeral s → BeginsArgument s
numeral_first s h = let b = number_begins s h in begins_with s b.first b.others b.parts (other_first 32 b.first start_32 b.begins_it) (other_first 41 b.first start_41 b.begins_it)

constant_first : (d : Data) (t : List ℕ) → SpellsConstant d t → BeginsArgument t
constant_first null t h = begins_with t 110 (117 ∷ 108 ∷ 108 ∷ []) h refl refl
constant_first (boolean true) t h = begins_with t 116 (114 ∷ 117 ∷ 101 ∷ []) h refl refl
constant_first (boolean false) t h = begins_with t 102 (97 ∷ 108 ∷ 115 ∷ 101 ∷ []) h refl refl
constant_first (number s) t h = subst BeginsArgument (sym h.0) (numeral_first s h.1)
constant_first x t h = absurd h

pub head_first : (n t : List ℕ) → SpellsHead n t → BeginsArgument t
head_first n t h = begins_with t 83 (116 ∷ 97 ∷ 116 ∷ 101 ∷ 115 ∷ 46 ∷ (n ++ (h.spaces ++ 40 ∷ []))) h.parts refl refl

argument_first : (a : Argument) (t : List ℕ) → SpellsArgument a t → BeginsArgument t
argument_first (constant d) t h = constant_first d t h
argument_first (quoted s) t h = begins_with t 39 (s ++ 39 ∷ []) h.parts refl refl
argument_first (path p) t h = let b = path_begins p h.1 in begins_with t 36 b.others (h.0 ∙ b.parts) refl refl
argument_first (call n ts) t h = begins_with t 83 (116 ∷ 97 ∷ 116 ∷ 101 ∷ 115 ∷ 46 ∷ (n ++ (h.front_is.spaces ++ 40 ∷ h.back))) (h.parts ∙ head_text n h.front h.back h.front_is) refl refl

-- behind spaces, where an argument begins
pub record Wants (lim : Bool) (m : Mode) (st : List Frame) : Type 0 where
  pub space : step_by lim m st 32 ≡ go m st
  pub begins_there : (c : ℕ) (cs : List ℕ) → (c == 32) ≡ false → (c == 41) ≡ false → run_by lim m st (c ∷ cs) ≡ begun_by lim st (c ∷ cs)

pub at_opening : (lim : Bool) (st : List Frame) → Wants lim opening st
at_opening lim st = record { space = opening_space st; begins_there = λ c cs e f. ap (λ (z : Next). onward z (suc (length cs)) (λ n s. run_by lim n s cs)) (opening_begins st c e f) }

pub at_comma : (lim : Bool) (st : List Frame) → Wants lim wanting st
at_comma lim st = record { space = wanting_space st; begins_there = λ c cs e f. ap (λ (z : Next). onward z (suc (length cs)) (λ n s. run_by lim n s cs)) (wanting_begins st c e) }

pub wanted : (lim : Bool) (m : Mode) (st : List Frame) (t rest : List ℕ) → Wants lim m st → BeginsArgument t → run_by lim m st (t ++ rest) ≡ begun_by lim st (t ++ rest)
wanted lim m st t rest w b =
    let same : t ++ rest ≡ b.first ∷ (b.others ++ rest) = ap (λ (z : List ℕ). z ++ rest) b.parts in
    ap (run_by lim m st) same ∙ w.begins_there b.first (b.others ++ rest) b.no_space b.no_bracket ∙ ap (begun_by lim st) (sym same)

spaced_ends : (spaces rest : List ℕ) → AreSpaces spaces → Ends rest → Ends (spaces ++ rest)
spaced_ends [] rest h e = e
spaced_ends (c ∷ s) rest h e = let same : c ≡ 32 = eqb-true c 32 h.0 in rw same refl

abbrev pub Passes : Bool → Frame → List Frame → Argument → Type 0
Passes lim f st a = (t rest : List ℕ) → SpellsArgument a t → Ends rest → Passed lim (Fits a) (length rest) (begun_by lim (f ∷ st) (t ++ rest)) (run_by lim (ended a) (f ∷ st) rest)

pub spaced_passes : (a : Argument) (lim : Bool) (m : Mode) (f : Frame) (st : List Frame) (t rest : List ℕ) → Wants lim m (f ∷ st) → Passes lim f st a → Spaced AreSpaces (SpellsArgument a) t → Ends rest
    → Passed lim (Fits a) (length rest) (run_by lim m (f ∷ st) (t ++ rest)) (run_by lim (ended a) (f ∷ st) rest)
spaced_passes a lim m f st t rest w passes h e =
    let tail = h.behind ++ rest in
    let same : t ++ rest ≡ h.before ++ (h.inner ++ tail) = ap (λ (z : List ℕ). z ++ rest) h.parts ∙ append_assoc h.before (h.inner ++ h.behind) rest ∙ ap (λ (z : List ℕ). h.before ++ z) (append_assoc h.inner h.behind rest) in
    let there : run_by lim m (f ∷ st) (t ++ rest) ≡ begun_by lim (f ∷ st) (h.inner ++ tail) =
    ap (run_by lim m (f ∷ st)) same ∙ spaces_pass lim m (f ∷ st) h.before (h.inner ++ tail) w.space h.before_is ∙ wanted lim m (f ∷ st) h.inner tail w (argument_first a h.inner h.inner_is) in
    let behind : run_by lim (ended a) (f ∷ st) tail ≡ run_by lim (ended a) (f ∷ st) rest = spaces_pass lim (ended a) (f ∷ st) h.behind rest (ended_space a f st) h.behind_is in
    then_passed lim (Fits a) (Unit {0}) (Fits a) (length rest) (length tail) (run_by lim m (f ∷ st) (t ++ rest)) (run_by lim (ended a) (f ∷ st) tail) (run_by lim (ended a) (f ∷ st) rest)
    (from_equal lim (Fits a) (length tail) (run_by lim m (f ∷ st) (t ++ rest)) (begun_by lim (f ∷ st) (h.inner ++ tail)) (run_by lim (ended a) (f ∷ st) tail) there (passes h.inner tail h.inner_is (spaced_ends h.behind rest h.behind_is e)))
    (plain lim (Unit {0}) (length rest) (run_by lim (ended a) (f ∷ st) tail) (run_by lim (ended a) (f ∷ st) rest) tt behind)
    (omega (arith, length-append h.behind rest))
    (λ x. x)
    (λ _. tt)
    (λ x _. x)

-- ---- arguments and calls

abbrev pub items : Arguments → List Argument
items none = []
items (argument a ts) = a ∷ items ts

arguments_items : (ts : Arguments) → arguments (items ts) ≡ ts
arguments_items none = refl
arguments_items (argument a ts) = ap (argument a) (arguments_items ts)

more_ends : (ts : Arguments) (t rest : List ℕ) → SpellsMore ts t → Ends (t ++ rest)
more_ends none t rest h = subst (λ (z : List ℕ). Ends (z ++ rest)) (sym h) refl
more_ends (argument a ts) t rest h = subst (λ (z : List ℕ). Ends (z ++ rest)) (sym h.parts) refl

none_passes : (lim : Bool) (n : List ℕ) (st : List Frame) (t rest : List ℕ) → SpellsArguments none t → run_by lim opening ((n, []) ∷ st) (t ++ rest) ≡ run_by lim (ended (call n none)) st rest
none_passes lim n st t rest h =
    let same : t ++ rest ≡ h.front ++ 41 ∷ rest = ap (λ (z : List ℕ). z ++ rest) (h.parts ∙ ap (λ (z : List ℕ). h.front ++ z) h.back_is) ∙ append_assoc h.front (41 ∷ []) rest in
    ap (run_by lim opening ((n, []) ∷ st)) same
    ∙ spaces_pass lim opening ((n, []) ∷ st) h.front (41 ∷ rest) (opening_space ((n, []) ∷ st)) h.front_is
    ∙ bracket_closes lim (41 ∷ rest) rest (n, []) st refl

pub call_passes : (n : List ℕ) (ts : Arguments) (lim : Bool) (st : List Frame) (t rest : List ℕ) → SpellsArgument (call n ts) t
    → ((u : List ℕ) → SpellsArguments ts u → Passed lim (FitAll ts) (length rest) (run_by lim opening ((n, []) ∷ st) (u ++ rest)) (run_by lim (ended (call n ts)) st rest))
    → Passed lim (FitAll ts) (length rest) (run_by lim (prefix states_word) st (t ++ rest)) (run_by lim (ended (call n ts)) st rest)
call_passes n ts lim st t rest h passes =
    let same : t ++ rest ≡ h.front ++ (h.back ++ rest) = ap (λ (z : List ℕ). z ++ rest) h.parts ∙ append_assoc h.front h.back rest in
    from_equal lim (FitAll ts) (length rest) (run_by lim (prefix states_word) st (t ++ rest)) (run_by lim opening ((n, []) ∷ st) (h.back ++ rest)) (run_by lim (ended (call n ts)) st rest)
    (ap (run_by lim (prefix states_word) st) same ∙ head_passes lim n h.front (h.back ++ rest) st h.front_is)
    (passes h.back h.back_is)

call_starts : (n : List ℕ) (ts : Arguments) (lim : Bool) (st : List Frame) (t rest : List ℕ) → SpellsArgument (call n ts) t → begun_by lim st (t ++ rest) ≡ run_by lim (prefix states_word) st (t ++ rest)
call_starts n ts lim st t rest h =
    let same : t ++ rest ≡ h.front ++ (h.back ++ rest) = ap (λ (z : List ℕ). z ++ rest) h.parts ∙ append_assoc h.front h.back rest in
    ap (begun_by lim st) same ∙ head_begun lim n h.front (h.back ++ rest) st h.front_is ∙ ap (run_by lim (prefix states_word) st) (sym same)

-- an argument and those behind it, which make this call
first_passes : (a : Argument) (ts : Arguments) (lim : Bool) (n : List ℕ) (done : List Argument) (st : List Frame) (front back rest : List ℕ) (m : Mode) (t : List ℕ) (y : Argument) → t ≡ front ++ back → Wants lim m ((n, done) ∷ st)
    → Passes lim (n, done) st a
    → ((u : List ℕ) → SpellsMore ts u → Passed lim (FitAll ts) (length rest) (run_by lim (ended a) ((n, done) ∷ st) (u ++ rest)) (run_by lim (ended (call n (arguments (done ++ a ∷ items ts)))) st rest))
    → call n (arguments (done ++ a ∷ items ts)) ≡ y → Spaced AreSpaces (SpellsArgument a) front → SpellsMore ts back
    → Passed lim (Fits a × FitAll ts) (length rest) (run_by lim m ((n, done) ∷ st) (t ++ rest)) (run_by lim (ended y) st rest)
first_passes a ts lim n done st front back rest m t y parts w passes more same f g =
    let tail = back ++ rest in
    let regrouped : t ++ rest ≡ front ++ tail = ap (λ (z : List ℕ). z ++ rest) parts ∙ append_assoc front back rest in
    let x = call n (arguments (done ++ a ∷ items ts)) in
    then_passed lim (Fits a) (FitAll ts) (Fits a × FitAll ts) (length rest) (length tail) (run_by lim m ((n, done) ∷ st) (t ++ rest)) (run_by lim (ended a) ((n, done) ∷ st) tail) (run_by lim (ended y) st rest)
    (from_equal lim (Fits a) (length tail) (run_by lim m ((n, done) ∷ st) (t ++ rest)) (run_by lim m ((n, done) ∷ st) (front ++ tail)) (run_by lim (ended a) ((n, done) ∷ st) tail)
    (ap (run_by lim m ((n, done) ∷ st)) regrouped)
    (spaced_passes a lim m (n, done) st front tail w passes f (more_ends ts back rest g)))
    (to_equal lim (FitAll ts) (length rest) (run_by lim (ended a) ((n, done) ∷ st) tail) (run_by lim (ended x) st rest) (run_by lim (ended y) st rest) (more back g) (ap (λ (z : Argument). run_by lim (ended z) st rest) same))
    (omega (arith, length-append back rest))
    (λ h. h.0)
    (λ h. h.1)
    (λ x y. (x, y))

mutual
  pub argument_passes : (a : Argument) (lim : Bool) (f : Frame) (st : List Frame) (t rest : List ℕ) → SpellsArgument a t → Ends rest → Passed lim (Fits a) (length rest) (begun_by lim (f ∷ st) (t ++ rest)) (run_by lim (ended a) (f ∷ st) rest)
  argument_passes (constant d) lim f st t rest h e = constant_passes d lim (f ∷ st) t rest h e
  argument_passes (quoted s) lim f st t rest h e = plain lim (Unit {0}) (length rest) (begun_by lim (f ∷ st) (t ++ rest)) (run_by lim (ended (quoted s)) (f ∷ st) rest) tt (quoted_passes lim (f ∷ st) s t rest h)
  argument_passes (path p) lim f st t rest h e = plain lim (Unit {0}) (length rest) (begun_by lim (f ∷ st) (t ++ rest)) (run_by lim (ended (path p)) (f ∷ st) rest) tt (path_passes lim (f ∷ st) p t rest h e)
  argument_passes (call n ts) lim f st t rest h e =
      from_equal lim (FitAll ts) (length rest) (begun_by lim (f ∷ st) (t ++ rest)) (run_by lim (prefix states_word) (f ∷ st) (t ++ rest)) (run_by lim (ended (call n ts)) (f ∷ st) rest)
      (call_starts n ts lim (f ∷ st) t rest h)
      (call_passes n ts lim (f ∷ st) t rest h (λ u g. arguments_pass ts lim n (f ∷ st) u rest g))

  pub arguments_pass : (ts : Arguments) (lim : Bool) (n : List ℕ) (st : List Frame) (t rest : List ℕ) → SpellsArguments ts t → Passed lim (FitAll ts) (length rest) (run_by lim opening ((n, []) ∷ st) (t ++ rest)) (run_by lim (ended (call n ts)) st rest)
  arguments_pass none lim n st t rest h = plain lim (Unit {0}) (length rest) (run_by lim opening ((n, []) ∷ st) (t ++ rest)) (run_by lim (ended (call n none)) st rest) tt (none_passes lim n st t rest h)
  arguments_pass (argument a ts) lim n st t rest h =
      first_passes a ts lim n [] st h.front h.back rest opening t (call n (argument a ts)) h.parts (at_opening lim ((n, []) ∷ st))
      (λ u r g e. argument_passes a lim (n, []) st u r g e)
      (λ u g. more_pass ts lim n [] a st u rest g)
      (ap (λ (z : Arguments). call n (argument a z)) (arguments_items ts))
      h.front_is
      h.back_is

  more_pass : (ts : Arguments) (lim : Bool) (n : List ℕ) (done : List Argument) (a : Argument) (st : List Frame) (t rest : List ℕ) → SpellsMore ts t
      → Passed lim (FitAll ts) (length rest) (run_by lim (ended a) ((n, done) ∷ st) (t ++ rest)) (run_by lim (ended (call n (arguments (done ++ a ∷ items ts)))) st rest)
  more_pass none lim n done a st t rest h =
      plain lim (Unit {0}) (length rest) (run_by lim (ended a) ((n, done) ∷ st) (t ++ rest)) (run_by lim (ended (call n (arguments (done ++ a ∷ [])))) st rest) tt (bracket_ends lim (t ++ rest) rest a (n, done) st (ap (λ (z : List ℕ). z ++ rest) h))
  more_pass (argument b ts) lim n done a st t rest h =
      from_equal lim (Fits b × FitAll ts) (length rest) (run_by lim (ended a) ((n, done) ∷ st) (t ++ rest)) (run_by lim wanting ((n, done ++ a ∷ []) ∷ st) (h.tail ++ rest)) (run_by lim (ended (call n (arguments (done ++ a ∷ items (argument b ts))))) st rest)
      (comma_wants lim (t ++ rest) (h.tail ++ rest) a (n, done) st (ap (λ (z : List ℕ). z ++ rest) h.parts))
      (first_passes b ts lim n (done ++ a ∷ []) st h.tail_is.front h.tail_is.back rest wanting h.tail (call n (arguments (done ++ a ∷ items (argument b ts)))) h.tail_is.parts (at_comma lim ((n, done ++ a ∷ []) ∷ st))
      (λ u r g e. argument_passes b lim (n, done ++ a ∷ []) st u r g e)
      (λ u g. more_pass ts lim n (done ++ a ∷ []) b st u rest g)
      (ap (λ (z : List Argument). call n (arguments z)) (append_assoc done (a ∷ []) (b ∷ items ts)))
      h.tail_is.front_is
      h.tail_is.back_is)

-- a whole text
pub call_heard : (lim : Bool) (a : Argument) (t : List ℕ) → SpellsCall a t → Passed lim (Fits a) 0 (run_by lim (prefix states_word) [] t) (Ok a)
call_heard lim (call n ts) t h =
    from_equal lim (FitAll ts) 0 (run_by lim (prefix states_word) [] t) (run_by lim (prefix states_word) [] (t ++ [])) (Ok (call n ts)) (ap (run_by lim (prefix states_word) []) (sym (append-nil t)))
    (call_passes n ts lim [] t [] h (λ u g. arguments_pass ts lim n [] u [] g))
call_heard lim x t h = absurd h

-- without limits
pub free_heard : (a : Argument) (t : List ℕ) → SpellsCall a t → run_by false (prefix states_word) [] t ≡ Ok a
free_heard a t h = at (call_heard false a t h)
  where
    at : Passed false (Fits a) 0 (run_by false (prefix states_word) [] t) (Ok a) → run_by false (prefix states_word) [] t ≡ Ok a
    at (inl e) = e.on
    at (inr g) = absurd (let two = g.limits in cc)

-- in the limits
pub fitting_heard : (a : Argument) (t : List ℕ) → SpellsCall a t → Fits a → run_by true (prefix states_word) [] t ≡ Ok a
fitting_heard a t h f = at (call_heard true a t h)
  where
    at : Passed true (Fits a) 0 (run_by true (prefix states_word) [] t) (Ok a) → run_by true (prefix states_word) [] t ≡ Ok a
    at (inl e) = e.on
    at (inr g) = absurd (g.unsound f)

pub heard_fits : (a : Argument) (t : List ℕ) → SpellsCall a t → run_by true (prefix states_word) [] t ≡ Ok a → Fits a
heard_fits a t h r = at (call_heard true a t h)
  where
    at : Passed true (Fits a) 0 (run_by true (prefix states_word) [] t) (Ok a) → Fits a
    at (inl e) = e.sound refl
    at (inr g) = absurd (let two = sym r ∙ g.stops in cc)

pub same_ok : (a b : Argument) → ◌≡◌ {A = Result Argument ℕ} (Ok a) (Ok b) → a ≡ b
same_ok a b e = cc

pub one_tree : (a b : Argument) (t : List ℕ) → SpellsCall a t → SpellsCall b t → a ≡ b
one_tree a b t g h = same_ok a b (sym (free_heard a t g) ∙ free_heard b t h)
