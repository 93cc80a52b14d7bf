-- Arguments that are no calls, as stretches of a run.
use Rattle.std.proofs.Common.{◌≡◌, ◌<◌, ◌≤◌, ◌+◌, ◌-◌, ◌==◌, ℕ, zero, suc, Bool, true, false, List, [], ◌∷◌, ◌++◌, length, take, drop, get_or, refl, sym, ◌∙◌, ap, subst, arith, cond, append_assoc}
use Rattle.std.specs.Prelude.{Result, Ok, Err, nat_lt, ◌&&◌}
use Rattle.std.proofs.lemmas.List.{append-nil, take-append-drop, take_more, drop_more, length-append, length-drop, get_or-drop, drop-drop}
use Rattle.std.proofs.lemmas.Bool.{eqb-true}
use Rattle.std.proofs.lemmas.Bool.Decides.{not_from_Decides}
use Rattle.std.specs.Bool.{Decides}
use Rattle.std.specs.Str.{IsUtf8, IsCharBoundary}
use Rattle.std.proofs.lemmas.Str.{IsCharBoundary-from_take, IsCharBoundary-before_ascii, IsCharBoundary-after_ascii, IsCharBoundary-end}
use Rattle.asl_json_data.specs.Data.{null, boolean, number}
use Rattle.asl_json_data.specs.Number.{IsNumeral, IsNumeralFront, is_over}
use Rattle.asl_json_data.specs.Grammar.{null_word, true_word, false_word}
use Rattle.asl_json_data.specs.Number.{EndsNumber}
use Rattle.asl_json_data.specs.private.NumberParts.{is_number_front, is_number}
use Rattle.asl_json_data.proofs.Numerals.{shorter_numeral_front, dead_ends, ends_dead, front_decides, numeral_decides, front_fails, numeral_fails}
use Rattle.asl_json_data.proofs.Figures.{number_utf8}
use Rattle.asl_path.specs.declared.step.Root.{Root}
use Rattle.asl_path.specs.declared.step.Step.{Step}
use Rattle.asl_path.specs.Grammar.{IsPath, IsPrefix}
use Rattle.asl_path.specs.private.Leads.{NotFirst}
use Rattle.asl_path.specs.Faults.{FaultAt, EndsAt}
use Rattle.asl_path.specs.private.Steps.{steps}
use Rattle.asl_path.proofs.Passing.{path_passes}
use Rattle.asl_path.proofs.Judging.{Judged, path_judged, path_faultless}
use Rattle.asl_intrinsic.specs.Tree.{Argument, constant, quoted, path, Frame}
use Rattle.asl_intrinsic.specs.private.Steps.{Mode, prefix, word, chars, escape, figure, along, ended, Next, go, stop, is_begun, is_read, is_path_front, is_path, in_chars, in_escape, in_ended, in_figure, in_along, begins, step_by, step, whole, onward, run_by, run}
use Rattle.asl_intrinsic.specs.Grammar.{states_word, is_escaped}
use Rattle.asl_intrinsic.specs.private.Leads.{IsQuotedLen, IsPathLen, is_behind, is_stray, first_is, begun}
use Rattle.asl_intrinsic.proofs.Stretches.{goes, halts, halts_back, alike}

-- ---- texts

pub char_on : (s : List ℕ) (st : List Frame) (c : ℕ) → (c == 39) ≡ false → (c == 92) ≡ false → step (chars s) st c ≡ go (chars (s ++ c ∷ [])) st
unfolding in_chars
char_on s st c e f = rw (e, f) refl

pub backslash_on : (s : List ℕ) (st : List Frame) → step (chars s) st 92 ≡ go (escape s) st
unfolding in_chars
backslash_on s st = refl

pub quote_ends : (s : List ℕ) (st : List Frame) → step (chars s) st 39 ≡ go (ended (quoted s)) st
unfolding in_chars
quote_ends s st = refl

pub escape_on : (s : List ℕ) (st : List Frame) (c : ℕ) → is_escaped c ≡ true → step (escape s) st c ≡ go (chars (s ++ 92 ∷ c ∷ [])) st
unfolding in_escape
escape_on s st c e = rw e refl

escape_off : (s : List ℕ) (st : List Frame) (c : ℕ) → is_escaped c ≡ false → step (escape s) st c ≡ stop 0
unfolding in_escape
escape_off s st c e = rw e refl

ne_eqb : (a b : ℕ) → (a ≡ b → ⊥) → (a == b) ≡ false
ne_eqb a b h = grind (arith, h)

-- the text so far, up to the byte of this number
abbrev pub ReadTo : List ℕ → ℕ → Type 0
ReadTo t n = (st : List Frame) → run (chars []) st t ≡ run (chars (take n t)) st (drop n t)

pub chars_more : (t : List ℕ) (n : ℕ) → n < length t → (get_or t n 0 ≡ 39 → ⊥) → (get_or t n 0 ≡ 92 → ⊥) → ReadTo t n → ReadTo t (n + 1)
chars_more t n lt e f h = λ st.
    let c = get_or t n 0 in
    h st
    ∙ ap (run (chars (take n t)) st) (drop_more t n 0 lt)
    ∙ goes true (chars (take n t)) (chars (take n t ++ c ∷ [])) st st c (drop (n + 1) t) (char_on (take n t) st c (ne_eqb c 39 e) (ne_eqb c 92 f))
    ∙ ap (λ (z : List ℕ). run (chars z) st (drop (n + 1) t)) (sym (take_more t n 0 lt))

-- behind a backslash
at_escape : (t : List ℕ) (n : ℕ) → n < length t → get_or t n 0 ≡ 92 → ReadTo t n → (st : List Frame) → run (chars []) st t ≡ run (escape (take n t)) st (drop (n + 1) t)
at_escape t n lt e h st =
    let first : drop n t ≡ 92 ∷ drop (n + 1) t = drop_more t n 0 lt ∙ ap (λ (z : ℕ). z ∷ drop (n + 1) t) e in
    h st ∙ ap (run (chars (take n t)) st) first ∙ goes true (chars (take n t)) (escape (take n t)) st st 92 (drop (n + 1) t) (backslash_on (take n t) st)

pub escape_more : (t : List ℕ) (n : ℕ) → n < length t → get_or t n 0 ≡ 92 → n + 1 < length t → is_escaped (get_or t (n + 1) 0) ≡ true → ReadTo t n → ReadTo t (n + 1 + 1)
escape_more t n lt e lu esc h = λ st.
    let d = get_or t (n + 1) 0 in
    let taken : take (n + 1 + 1) t ≡ take n t ++ 92 ∷ d ∷ [] =
    take_more t (n + 1) 0 lu ∙ ap (λ (z : List ℕ). z ++ d ∷ []) (take_more t n 0 lt ∙ ap (λ (z : ℕ). take n t ++ z ∷ []) e) ∙ append_assoc (take n t) (92 ∷ []) (d ∷ []) in
    at_escape t n lt e h st
    ∙ ap (run (escape (take n t)) st) (drop_more t (n + 1) 0 lu)
    ∙ goes true (escape (take n t)) (chars (take n t ++ 92 ∷ d ∷ [])) st st d (drop (n + 1 + 1) t) (escape_on (take n t) st d esc)
    ∙ ap (λ (z : List ℕ). run (chars z) st (drop (n + 1 + 1) t)) (sym taken)

nothing_left : (t : List ℕ) (n : ℕ) → length t ≤ n → drop n t ≡ []
nothing_left [] zero l = refl
nothing_left [] (suc n) l = refl
nothing_left (c ∷ t) zero l = absurd (omega (arith, l))
nothing_left (c ∷ t) (suc n) l = nothing_left t n (omega (arith, l))

pub escape_open : (t : List ℕ) (n : ℕ) → n < length t → get_or t n 0 ≡ 92 → n + 1 ≡ length t → ReadTo t n → (st : List Frame) → run (chars []) st t ≡ Err 0
escape_open t n lt e z h st = at_escape t n lt e h st ∙ ap (run (escape (take n t)) st) (nothing_left t (n + 1) (omega (arith, z)))

pub escape_bad : (t : List ℕ) (n : ℕ) → n < length t → get_or t n 0 ≡ 92 → n + 1 < length t → is_escaped (get_or t (n + 1) 0) ≡ false → ReadTo t n → (st : List Frame) → run (chars []) st t ≡ Err (length t - (n + 1))
escape_bad t n lt e lu esc h st =
    let left : suc (length (drop (n + 1 + 1) t)) ≡ length t - (n + 1) = omega (arith, length-drop (n + 1 + 1) t, lu) in
    at_escape t n lt e h st
    ∙ ap (run (escape (take n t)) st) (drop_more t (n + 1) 0 lu)
    ∙ halts (escape (take n t)) st (get_or t (n + 1) 0) (drop (n + 1 + 1) t) (escape_off (take n t) st (get_or t (n + 1) 0) esc)
    ∙ ap Err left

pub text_open : (t : List ℕ) (n : ℕ) → length t ≤ n → ReadTo t n → (st : List Frame) → run (chars []) st t ≡ Err 0
text_open t n l h st = h st ∙ ap (run (chars (take n t)) st) (nothing_left t n l)

pub text_reads : (t : List ℕ) (n : ℕ) (st : List Frame) → IsQuotedLen t n → run (chars []) st t ≡ run (ended (quoted (take n t))) st (drop (n + 1) t)
text_reads t n st h =
    let first : drop n t ≡ 39 ∷ drop (n + 1) t = drop_more t n 0 h.inside ∙ ap (λ (z : ℕ). z ∷ drop (n + 1) t) h.closes in
    h.reads st ∙ ap (run (chars (take n t)) st) first ∙ goes true (chars (take n t)) (ended (quoted (take n t))) st st 39 (drop (n + 1) t) (quote_ends (take n t) st)

pub quoted_boundary : (t rest : List ℕ) (n : ℕ) → IsUtf8 t → IsQuotedLen t n → rest ≡ drop n t → IsCharBoundary rest 1
quoted_boundary t rest n u h e =
    let b = IsCharBoundary-after_ascii t n u h.inside (omega (arith, h.closes)) in
    subst (λ (z : List ℕ). IsCharBoundary z 1) (sym e)
    (omega (arith, length-drop n t, h.inside), λ lt g. subst (λ (k : ℕ). 192 ≤ k) (sym (get_or-drop n t 1 0)) (b.1 (omega (arith, length-drop n t, lt)) (subst (λ (k : ℕ). 128 ≤ k) (get_or-drop n t 1 0) g)))

drop_one : (t : List ℕ) (n : ℕ) → drop 1 (drop n t) ≡ drop (n + 1) t
drop_one t n = drop-drop 1 n t

pub text_split : (t spelled behind rest : List ℕ) (n : ℕ) → IsQuotedLen t n → spelled ≡ take n t → behind ≡ drop n t → rest ≡ drop 1 behind → (st : List Frame) → run (chars []) st t ≡ run (ended (quoted spelled)) st rest
text_split t spelled behind rest n h e f g st =
    text_reads t n st h
    ∙ ap (λ (z : List ℕ). run (ended (quoted z)) st (drop (n + 1) t)) (sym e)
    ∙ ap (run (ended (quoted spelled)) st) (sym (g ∙ ap (drop 1) f ∙ drop_one t n))

-- ---- numbers

digit_on : (lim : Bool) (s : List ℕ) (st : List Frame) (c : ℕ) → is_number_front (s ++ c ∷ []) ≡ true → step_by lim (figure s) st c ≡ go (figure (s ++ c ∷ [])) st
unfolding in_figure
digit_on lim s st c e = rw e refl

pub figure_run : (lim : Bool) (s u rest : List ℕ) (st : List Frame) → IsNumeralFront (s ++ u) → run_by lim (figure s) st (u ++ rest) ≡ run_by lim (figure (s ++ u)) st rest
figure_run lim s [] rest st h = ap (λ (z : List ℕ). run_by lim (figure z) st rest) (sym (append-nil s))
figure_run lim s (c ∷ u) rest st h =
    let regrouped : (s ++ c ∷ []) ++ u ≡ s ++ c ∷ u = append_assoc s (c ∷ []) u in
    let g : IsNumeralFront ((s ++ c ∷ []) ++ u) = subst IsNumeralFront (sym regrouped) h in
    goes lim (figure s) (figure (s ++ c ∷ [])) st st c (u ++ rest) (digit_on lim s st c ((front_decides (s ++ c ∷ [])).1 (shorter_numeral_front (s ++ c ∷ []) u g)))
    ∙ figure_run lim (s ++ c ∷ []) u rest st g
    ∙ ap (λ (z : List ℕ). run_by lim (figure z) st rest) regrouped

front_off : (s : List ℕ) (c : ℕ) (cs : List ℕ) → EndsNumber s (c ∷ cs) → is_number_front (s ++ c ∷ []) ≡ false
front_off s c cs e = front_fails (s ++ c ∷ []) (ends_dead s c cs e)

-- a byte with which a number doesn't go on
broken_at : (s : List ℕ) (st : List Frame) (c : ℕ) → is_number_front (s ++ c ∷ []) ≡ false → is_number s ≡ false → step (figure s) st c ≡ stop 0
unfolding in_figure
broken_at s st c e f = rw (e, f) refl

over_at : (s : List ℕ) (st : List Frame) (c : ℕ) → is_number_front (s ++ c ∷ []) ≡ false → is_number s ≡ true → is_over s ≡ true → step (figure s) st c ≡ stop (length s)
unfolding in_figure
over_at s st c e f g = rw (e, f, g) refl

fits_at : (lim : Bool) (s : List ℕ) (st : List Frame) (c : ℕ) → is_number_front (s ++ c ∷ []) ≡ false → is_number s ≡ true → (lim && is_over s) ≡ false → step_by lim (figure s) st c ≡ step_by lim (ended (constant (number s))) st c
unfolding in_figure
fits_at lim s st c e f g = rw (e, f, g) refl

-- what follows doesn't make the first bytes a longer front
no_longer : (P : List ℕ → Type 0) (t : List ℕ) (n c : ℕ) (cs : List ℕ) → drop n t ≡ c ∷ cs → (n < length t → P (take (n + 1) t) → ⊥) → P (take n t ++ c ∷ []) → ⊥
no_longer P t n c cs e dead p =
    let lt : n < length t = omega (arith, length-drop n t, ap length e) in
    let first : get_or t n 0 ≡ c = let two = sym (drop_more t n 0 lt) ∙ e in cc in
    dead lt (subst P (sym (take_more t n 0 lt ∙ ap (λ (z : ℕ). take n t ++ z ∷ []) first)) p)

-- what number_front says of a text: so many bytes, and whether they are a number
pub record IsLongest (t : List ℕ) (n : ℕ) (whole : Bool) : Type 0 where
  pub within : n ≤ length t
  pub alive : IsNumeralFront (take n t)
  pub ends : EndsNumber (take n t) (drop n t)
  pub decides : Decides whole (IsNumeral (take n t))

pub longest_of : (bytes t : List ℕ) (n : ℕ) (whole : Bool) → bytes ≡ t → n ≤ length bytes → IsNumeralFront (take n bytes) → (n < length bytes → IsNumeralFront (take (n + 1) bytes) → ⊥) → Decides whole (IsNumeral (take n bytes)) → IsLongest t n whole
longest_of bytes t n whole e w alive dead d = subst (λ (z : List ℕ). IsLongest z n whole) e (record { within = w; alive = alive; ends = at (drop n bytes) refl; decides = d })
  where
    at : (rest : List ℕ) → drop n bytes ≡ rest → EndsNumber (take n bytes) rest
    at [] e = tt
    at (c ∷ cs) e = dead_ends (take n bytes) c cs (no_longer IsNumeralFront bytes n c cs e dead)

broken_on : (s rest : List ℕ) (st : List Frame) → (IsNumeral s → ⊥) → EndsNumber s rest → run (figure s) st rest ≡ Err (length rest)
broken_on s [] st h e = ap (λ (b : Bool). cond b (cond (is_over s) (Err (length s)) (whole (constant (number s)) st)) (Err 0)) (numeral_fails s h)
broken_on s (c ∷ cs) st h e = halts (figure s) st c cs (broken_at s st c (front_off s c cs e) (numeral_fails s h))

pub over_on : (s rest : List ℕ) (st : List Frame) → IsNumeral s → is_over s ≡ true → EndsNumber s rest → run (figure s) st rest ≡ Err (length s + length rest)
over_on s [] st h f e =
    let z : length s ≡ length s + 0 = omega arith in
    ap (λ (b : Bool). cond b (cond (is_over s) (Err (length s)) (whole (constant (number s)) st)) (Err 0)) ((numeral_decides s).1 h)
    ∙ ap (λ (b : Bool). cond b (Err (length s)) (whole (constant (number s)) st)) f
    ∙ ap Err z
over_on s (c ∷ cs) st h f e = halts_back (figure s) st c cs (length s) (over_at s st c (front_off s c cs e) ((numeral_decides s).1 h) f)

pub fits_on : (lim : Bool) (s rest : List ℕ) (st : List Frame) → IsNumeral s → (lim && is_over s) ≡ false → EndsNumber s rest → run_by lim (figure s) st rest ≡ run_by lim (ended (constant (number s))) st rest
fits_on lim s [] st h f e =
    ap (λ (b : Bool). cond b (cond (lim && is_over s) (Err (length s)) (whole (constant (number s)) st)) (Err 0)) ((numeral_decides s).1 h)
    ∙ ap (λ (b : Bool). cond b (Err (length s)) (whole (constant (number s)) st)) f
fits_on lim s (c ∷ cs) st h f e = alike lim (figure s) (ended (constant (number s))) st st c cs (fits_at lim s st c (front_off s c cs e) ((numeral_decides s).1 h) f)

front_read : (t : List ℕ) (n : ℕ) (w : Bool) (st : List Frame) → IsLongest t n w → run (figure []) st t ≡ run (figure (take n t)) st (drop n t)
front_read t n w st h = ap (run (figure []) st) (sym (take-append-drop n t)) ∙ figure_run true [] (take n t) (drop n t) st h.alive

pub number_broken : (t : List ℕ) (n : ℕ) (w : Bool) → IsLongest t n w → w ≡ false → (st : List Frame) → run (figure []) st t ≡ Err (length t - n)
number_broken t n w h e st = front_read t n w st h ∙ broken_on (take n t) (drop n t) st (not_from_Decides w h.decides e) h.ends ∙ ap Err (length-drop n t)

number_over : (t : List ℕ) (n : ℕ) (w : Bool) → IsLongest t n w → w ≡ true → is_over (take n t) ≡ true → (st : List Frame) → run (figure []) st t ≡ Err (length t)
number_over t n w h e f st =
    let parts : length (take n t) + length (drop n t) ≡ length t = sym (length-append (take n t) (drop n t)) ∙ ap length (take-append-drop n t) in
    front_read t n w st h ∙ over_on (take n t) (drop n t) st (h.decides.0 e) f h.ends ∙ ap Err parts

number_reads : (t : List ℕ) (n : ℕ) (w : Bool) → IsLongest t n w → w ≡ true → is_over (take n t) ≡ false → (st : List Frame) → run (figure []) st t ≡ run (ended (constant (number (take n t)))) st (drop n t)
number_reads t n w h e f st = front_read t n w st h ∙ fits_on true (take n t) (drop n t) st (h.decides.0 e) f h.ends

pub number_boundary : (t : List ℕ) (n : ℕ) (w : Bool) → IsUtf8 t → IsLongest t n w → w ≡ true → IsCharBoundary t n
number_boundary t n w u h e = IsCharBoundary-from_take t n u h.within (number_utf8 (take n t) (h.decides.0 e))

pub numeral_over : (t spelled : List ℕ) (n : ℕ) (w : Bool) → IsLongest t n w → w ≡ true → spelled ≡ take n t → is_over spelled ≡ true → (st : List Frame) → run (figure []) st t ≡ Err (length t)
numeral_over t spelled n w h e f g st = number_over t n w h e (sym (ap is_over f) ∙ g) st

pub numeral_reads : (t spelled d rest : List ℕ) (n : ℕ) (w : Bool) → IsLongest t n w → w ≡ true → spelled ≡ take n t → rest ≡ drop n t → (d ≡ spelled) × (is_over spelled ≡ false) → (st : List Frame) → run (figure []) st t ≡ run (ended (constant (number d))) st rest
numeral_reads t spelled d rest n w h e f r g st =
    number_reads t n w h e (sym (ap is_over f) ∙ g.1) st
    ∙ ap (λ (z : List ℕ). run (ended (constant (number z))) st (drop n t)) (sym (g.0 ∙ f))
    ∙ ap (run (ended (constant (number d))) st) (sym r)

-- ---- paths

pub shorter_prefix : (t u : List ℕ) → IsPrefix (t ++ u) → IsPrefix t
shorter_prefix t u h = record { more = u ++ h.more; is_path = subst IsPath (append_assoc t u h.more) h.is_path }

pub path_prefix : (t : List ℕ) → IsPath t → IsPrefix t
path_prefix t h = record { more = []; is_path = subst IsPath (sym (append-nil t)) h }

front_alive : (t : List ℕ) → IsPrefix t → is_path_front t ≡ true
unfolding is_path_front
front_alive t h = judged (steps t) (path_judged t)
  where
    judged : (o : Result (Root × List Step) ℕ) → Judged t o → is_begun o ≡ true
    judged (Ok x) j = refl
    judged (Err left) j = at j.rest j.parts j.left_is j.dead
      where
        at : (rest : List ℕ) → t ≡ j.front ++ rest → length rest ≡ left → EndsAt j.front rest → (left == 0) ≡ true
        at [] e l dead = grind (arith, l)
        at (c ∷ rest) e l dead = absurd (dead (shorter_prefix (j.front ++ c ∷ []) rest (subst IsPrefix (e ∙ sym (append_assoc j.front (c ∷ []) rest)) h)))

front_dead : (t : List ℕ) → (IsPrefix t → ⊥) → is_path_front t ≡ false
unfolding is_path_front
front_dead t h = judged (steps t) (path_judged t)
  where
    judged : (o : Result (Root × List Step) ℕ) → Judged t o → is_begun o ≡ false
    judged (Ok x) j = absurd (h (path_prefix t (record { root = x.0; steps = x.1; spelled = j })))
    judged (Err left) j = at j.rest j.parts j.left_is
      where
        at : (rest : List ℕ) → t ≡ j.front ++ rest → length rest ≡ left → (left == 0) ≡ false
        at [] e l = absurd (h (subst IsPrefix (sym (e ∙ append-nil j.front)) j.alive))
        at (c ∷ rest) e l = grind (arith, l)

path_is : (t : List ℕ) → IsPath t → is_path t ≡ true
unfolding is_path
path_is t h = ap is_read (path_passes h.root h.steps t h.spelled)

path_isn't : (t : List ℕ) → (IsPath t → ⊥) → is_path t ≡ false
unfolding is_path
path_isn't t h = judged (steps t) (path_judged t)
  where
    judged : (o : Result (Root × List Step) ℕ) → Judged t o → is_read o ≡ false
    judged (Ok x) j = absurd (h (record { root = x.0; steps = x.1; spelled = j }))
    judged (Err left) j = refl

step_on : (s : List ℕ) (st : List Frame) (c : ℕ) → is_path_front (s ++ c ∷ []) ≡ true → step (along s) st c ≡ go (along (s ++ c ∷ [])) st
unfolding in_along
step_on s st c e = rw e refl

pub along_run : (lim : Bool) (s u rest : List ℕ) (st : List Frame) → IsPrefix (s ++ u) → run_by lim (along s) st (u ++ rest) ≡ run_by lim (along (s ++ u)) st rest
along_run lim s [] rest st h = ap (λ (z : List ℕ). run_by lim (along z) st rest) (sym (append-nil s))
along_run lim s (c ∷ u) rest st h =
    let regrouped : (s ++ c ∷ []) ++ u ≡ s ++ c ∷ u = append_assoc s (c ∷ []) u in
    let g : IsPrefix ((s ++ c ∷ []) ++ u) = subst IsPrefix (sym regrouped) h in
    goes lim (along s) (along (s ++ c ∷ [])) st st c (u ++ rest) (step_on s st c (front_alive (s ++ c ∷ []) (shorter_prefix (s ++ c ∷ []) u g)))
    ∙ along_run lim (s ++ c ∷ []) u rest st g
    ∙ ap (λ (z : List ℕ). run_by lim (along z) st rest) regrouped

-- no path begins so, with the first byte of the rest
abbrev pub EndsFront : List ℕ → List ℕ → Type 0
EndsFront s [] = Unit {0}
EndsFront s (c ∷ cs) = IsPrefix (s ++ c ∷ []) → ⊥

ends_front : (t : List ℕ) (n : ℕ) → IsPathLen t n → EndsFront (take n t) (drop n t)
ends_front t n h = at (drop n t) refl
  where
    at : (rest : List ℕ) → drop n t ≡ rest → EndsFront (take n t) rest
    at [] e = tt
    at (c ∷ cs) e = no_longer IsPrefix t n c cs e h.dead

broken_step : (s : List ℕ) (st : List Frame) (c : ℕ) → is_path_front (s ++ c ∷ []) ≡ false → is_path s ≡ false → step (along s) st c ≡ stop 0
unfolding in_along
broken_step s st c e f = rw (e, f) refl

whole_step : (s : List ℕ) (st : List Frame) (c : ℕ) → is_path_front (s ++ c ∷ []) ≡ false → is_path s ≡ true → step (along s) st c ≡ step (ended (path s)) st c
unfolding in_along
whole_step s st c e f = rw (e, f) refl

behind_off : (c : ℕ) → is_behind c ≡ false → ((c == 32) ≡ false) × ((c == 44) ≡ false) × ((c == 41) ≡ false)
behind_off c e = (grind (arith, e), grind (arith, e), grind (arith, e))

ended_stray : (a : Argument) (st : List Frame) (c : ℕ) → is_behind c ≡ false → step (ended a) st c ≡ stop 0
unfolding in_ended
ended_stray a [] c e = refl
ended_stray a (f ∷ st) c e = let off = behind_off c e in rw (off.0, off.1, off.2) refl

along_broken : (s rest : List ℕ) (st : List Frame) → (IsPath s → ⊥) → EndsFront s rest → run (along s) st rest ≡ Err (length rest)
along_broken s [] st h e = ap (λ (b : Bool). cond b (whole (path s) st) (Err 0)) (path_isn't s h)
along_broken s (c ∷ cs) st h e = halts (along s) st c cs (broken_step s st c (front_dead (s ++ c ∷ []) e) (path_isn't s h))

pub along_whole : (lim : Bool) (s rest : List ℕ) (st : List Frame) → IsPath s → EndsFront s rest → run_by lim (along s) st rest ≡ run_by lim (ended (path s)) st rest
along_whole lim s [] st h e = ap (λ (b : Bool). cond b (whole (path s) st) (Err 0)) (path_is s h)
along_whole lim s (c ∷ cs) st h e = alike lim (along s) (ended (path s)) st st c cs (whole_step s st c (front_dead (s ++ c ∷ []) e) (path_is s h))

front_along : (t : List ℕ) (n : ℕ) (st : List Frame) → IsPathLen t n → run (along []) st t ≡ run (along (take n t)) st (drop n t)
front_along t n st h = ap (run (along []) st) (sym (take-append-drop n t)) ∙ along_run true [] (take n t) (drop n t) st h.alive

pub path_reads : (t : List ℕ) (n : ℕ) → IsPathLen t n → IsPath (take n t) → (st : List Frame) → run (along []) st t ≡ run (ended (path (take n t))) st (drop n t)
path_reads t n h p st = front_along t n st h ∙ along_whole true (take n t) (drop n t) st p (ends_front t n h)

pub path_broken : (t : List ℕ) (n : ℕ) → IsPathLen t n → (IsPath (take n t) → ⊥) → (st : List Frame) → run (along []) st t ≡ Err (length (drop n t))
path_broken t n h p st = front_along t n st h ∙ along_broken (take n t) (drop n t) st p (ends_front t n h)

stray_at : (t : List ℕ) (n : ℕ) → is_stray t n ≡ true → (n < length t) × (is_behind (get_or t n 0) ≡ false)
stray_at t n e = (grind (arith, e), grind (arith, e))

pub path_stray : (t : List ℕ) (n : ℕ) → IsPathLen t n → is_stray t n ≡ true → (st : List Frame) → run (along []) st t ≡ Err (length t - n)
path_stray t n h e st =
    let s = take n t in
    let at = stray_at t n e in
    let c = get_or t n 0 in
    let cs = drop (n + 1) t in
    let first : drop n t ≡ c ∷ cs = drop_more t n 0 at.0 in
    let dead : is_path_front (s ++ c ∷ []) ≡ false = front_dead (s ++ c ∷ []) (subst (EndsFront s) first (ends_front t n h)) in
    let left : suc (length cs) ≡ length t - n = omega (arith, length-drop (n + 1) t, at.0) in
    front_along t n st h
    ∙ ap (run (along s) st) first
    ∙ halts (along s) st c cs (told (is_path s) dead refl at.1)
    ∙ ap Err left
  where
    told : (b : Bool) → is_path_front (take n t ++ get_or t n 0 ∷ []) ≡ false → is_path (take n t) ≡ b → is_behind (get_or t n 0) ≡ false → step (along (take n t)) st (get_or t n 0) ≡ stop 0
    told true dead f e = whole_step (take n t) st (get_or t n 0) dead f ∙ ended_stray (path (take n t)) st (get_or t n 0) e
    told false dead f e = broken_step (take n t) st (get_or t n 0) dead f

pub path_found : (t spelled p rest : List ℕ) (n : ℕ) → IsPathLen t n → spelled ≡ take n t → rest ≡ drop n t → p ≡ spelled → IsPath spelled → (st : List Frame) → run (along []) st t ≡ run (ended (path p)) st rest
path_found t spelled p rest n h e f g is st =
    path_reads t n h (subst IsPath e is) st
    ∙ ap (λ (z : List ℕ). run (ended (path z)) st (drop n t)) (sym (g ∙ e))
    ∙ ap (run (ended (path p)) st) (sym f)

pub path_lost : (t spelled rest : List ℕ) (n at : ℕ) → IsPathLen t n → spelled ≡ take n t → rest ≡ drop n t → FaultAt spelled at → (st : List Frame) → run (along []) st t ≡ Err (length rest)
path_lost t spelled rest n at h e f fault st = path_broken t n h (λ p. path_faultless spelled at fault (subst IsPath (sym e) p)) st ∙ ap (λ (z : List ℕ). Err (length z)) (sym f)

pub path_boundary : (t : List ℕ) (n : ℕ) → n ≤ length t → is_stray t n ≡ false → IsCharBoundary t n
path_boundary t n w e = at (nat_lt n (length t)) refl
  where
    at : (b : Bool) → nat_lt n (length t) ≡ b → IsCharBoundary t n
    at true x =
        let lt : n < length t = grind (arith, x) in
        IsCharBoundary-before_ascii t n lt (grind (arith, e, x))
    at false x =
        let same : n ≡ length t = grind (arith, x, w) in
        rw same (IsCharBoundary-end t)

pub whole_len : (t : List ℕ) → IsPath t → IsPathLen t (length t)
whole_len t h = record { within = omega arith; alive = path_prefix (take (length t) t) (subst IsPath (sym (all t)) h); dead = λ lt. absurd (omega (arith, lt)) }
  where
    all : (t : List ℕ) → take (length t) t ≡ t
    all [] = refl
    all (c ∷ t) = ap (λ (z : List ℕ). c ∷ z) (all t)

pub fault_len : (t : List ℕ) (n : ℕ) → FaultAt t n → IsPathLen t n
fault_len t n h =
    record {
      within = omega (arith, ap length h.parts, length-append h.front h.rest, h.at_is);
      alive = subst IsPrefix (sym (front t n h)) h.alive;
      dead = dead t n h;
    }
  where
    taken : (a b : List ℕ) → take (length a) (a ++ b) ≡ a
    taken [] b = refl
    taken (c ∷ a) b = ap (λ (z : List ℕ). c ∷ z) (taken a b)

    front : (t : List ℕ) (n : ℕ) (h : FaultAt t n) → take n t ≡ h.front
    front t n h = ap (λ (z : ℕ). take z t) (sym h.at_is) ∙ ap (take (length h.front)) h.parts ∙ taken h.front h.rest

    dead : (t : List ℕ) (n : ℕ) (h : FaultAt t n) → n < length t → IsPrefix (take (n + 1) t) → ⊥
    dead t n h lt p = at h.rest h.parts h.dead
      where
        at : (rest : List ℕ) → t ≡ h.front ++ rest → EndsAt h.front rest → ⊥
        at [] e d = absurd (omega (arith, lt, h.at_is, ap length (e ∙ append-nil h.front)))
        at (c ∷ rest) e d =
            let one : take (n + 1) t ≡ h.front ++ c ∷ [] =
            ap (λ (z : ℕ). take z t) (let z : n + 1 ≡ length (h.front ++ c ∷ []) = omega (arith, length-append h.front (c ∷ []), h.at_is) in z)
            ∙ ap (take (length (h.front ++ c ∷ []))) (e ∙ sym (append_assoc h.front (c ∷ []) rest))
            ∙ taken (h.front ++ c ∷ []) rest in
            d (subst IsPrefix one p)

-- ---- where an argument begins

first_of : (b : ℕ) (t : List ℕ) → first_is b t ≡ true → t ≡ b ∷ drop 1 t
first_of b [] e = absurd cc
first_of b (c ∷ cs) e = ap (λ (z : ℕ). z ∷ cs) (eqb-true c b e)

pub quote_begins : (st : List Frame) → begins st 39 ≡ go (chars []) st
unfolding begins
quote_begins st = refl

pub dollar_begins : (st : List Frame) → begins st 36 ≡ step (along []) st 36
unfolding begins
dollar_begins st = refl

null_begins : (st : List Frame) → begins st 110 ≡ step (word null_word null) st 110
unfolding begins
null_begins st = refl

true_begins : (st : List Frame) → begins st 116 ≡ step (word true_word (boolean true)) st 116
unfolding begins
true_begins st = refl

false_begins : (st : List Frame) → begins st 102 ≡ step (word false_word (boolean false)) st 102
unfolding begins
false_begins st = refl

call_begins : (st : List Frame) → begins st 83 ≡ step (prefix states_word) st 83
unfolding begins
call_begins st = refl

pub figure_begins : (lim : Bool) (st : List Frame) (c : ℕ) → (c == 39) ≡ false → (c == 36) ≡ false → (c == 83) ≡ false → (c == 110) ≡ false → (c == 116) ≡ false → (c == 102) ≡ false → begins st c ≡ step_by lim (figure []) st c
unfolding begins in_figure is_number
figure_begins lim st c e f g h i j = rw (e, f, g, h, i, j) refl

pub begun_as : (m : Mode) (b : ℕ) (t : List ℕ) (st : List Frame) → begins st b ≡ step m st b → first_is b t ≡ true → begun st t ≡ run m st t
begun_as m b t st e f =
    let first = first_of b t f in
    let cs = drop 1 t in
    ap (begun st) first
    ∙ ap (λ (z : Next). onward z (suc (length cs)) (λ n s. run n s cs)) e
    ∙ ap (run m st) (sym first)

pub begun_quoted : (t inside : List ℕ) (st : List Frame) → t ≡ 39 ∷ inside → begun st t ≡ run (chars []) st inside
begun_quoted t inside st e = ap (begun st) e ∙ ap (λ (z : Next). onward z (suc (length inside)) (λ n s. run n s inside)) (quote_begins st)

pub begun_path : (t : List ℕ) (st : List Frame) → first_is 36 t ≡ true → begun st t ≡ run (along []) st t
begun_path t st f = begun_as (along []) 36 t st (dollar_begins st) f

pub begun_null : (t : List ℕ) (st : List Frame) → first_is 110 t ≡ true → begun st t ≡ run (word null_word null) st t
begun_null t st f = begun_as (word null_word null) 110 t st (null_begins st) f

pub begun_true : (t : List ℕ) (st : List Frame) → first_is 116 t ≡ true → begun st t ≡ run (word true_word (boolean true)) st t
begun_true t st f = begun_as (word true_word (boolean true)) 116 t st (true_begins st) f

pub begun_false : (t : List ℕ) (st : List Frame) → first_is 102 t ≡ true → begun st t ≡ run (word false_word (boolean false)) st t
begun_false t st f = begun_as (word false_word (boolean false)) 102 t st (false_begins st) f

pub begun_call : (t : List ℕ) (st : List Frame) → first_is 83 t ≡ true → begun st t ≡ run (prefix states_word) st t
begun_call t st f = begun_as (prefix states_word) 83 t st (call_begins st) f

nothing_number : is_number [] ≡ false
unfolding is_number
nothing_number = refl

pub begun_number : (t : List ℕ) (st : List Frame) → NotFirst (λ c. c == 39) t → first_is 36 t ≡ false → first_is 83 t ≡ false → first_is 110 t ≡ false → first_is 116 t ≡ false → first_is 102 t ≡ false → begun st t ≡ run (figure []) st t
begun_number [] st e f g h i j = ap (λ (b : Bool). cond b (cond (is_over []) (Err 0) (whole (constant (number [])) st)) (Err 0)) (sym nothing_number)
begun_number (c ∷ cs) st e f g h i j = ap (λ (z : Next). onward z (suc (length cs)) (λ n s. run n s cs)) (figure_begins true st c e f g h i j)
