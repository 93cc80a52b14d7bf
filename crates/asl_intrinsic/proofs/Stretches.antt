-- Stretches of a run: what stands in front of a text leads the machine on.
use Rattle.std.proofs.Common.{◌≡◌, ◌<◌, ◌≤◌, ◌+◌, ◌==◌, ℕ, zero, suc, Bool, true, false, List, [], ◌∷◌, ◌++◌, length, take, drop, get_or, refl, sym, ◌∙◌, ap, subst, arith, cond, append_assoc}
use Rattle.std.specs.Prelude.{Result, Ok, Err}
use Rattle.std.proofs.lemmas.List.{append-nil, take-append-drop}
use Rattle.std.specs.Str.{IsAscii, IsUtf8, IsCharBoundary}
use Rattle.std.proofs.lemmas.Str.{IsUtf8-from_ascii, IsCharBoundary-from_take}
use Rattle.asl_json_data.specs.Data.{Data}
use Rattle.asl_path.specs.Grammar.{Each}
use Rattle.asl_path.specs.private.Leads.{NotFirst}
use Rattle.asl_path.proofs.Stretch.{not_first}
use Rattle.asl_intrinsic.specs.Tree.{constant, Frame}
use Rattle.asl_intrinsic.specs.private.Steps.{Mode, prefix, naming, named, opening, word, ended, Next, go, stop, in_prefix, in_naming, in_named, in_word, step_by, step, onward, run_by, run}
use Rattle.asl_intrinsic.specs.Grammar.{is_name_byte, states_word, is_space}
use Rattle.asl_intrinsic.specs.private.Leads.{Fails, after_word, Led, Skips}
use Rattle.asl_intrinsic.specs.declared.front.Halt.{Halt}
use Rattle.asl_intrinsic.specs.declared.front.Halt.TheVariants.{At, Memory}

-- ---- one byte

-- with limits of numbers or without
pub goes : (lim : Bool) (m n : Mode) (st su : List Frame) (c : ℕ) (cs : List ℕ) → step_by lim m st c ≡ go n su → run_by lim m st (c ∷ cs) ≡ run_by lim n su cs
goes lim m n st su c cs e = ap (λ (z : Next). onward z (suc (length cs)) (λ i s. run_by lim i s cs)) e

pub halts_back : (m : Mode) (st : List Frame) (c : ℕ) (cs : List ℕ) (back : ℕ) → step m st c ≡ stop back → run m st (c ∷ cs) ≡ Err (back + suc (length cs))
halts_back m st c cs back e = ap (λ (z : Next). onward z (suc (length cs)) (λ i s. run i s cs)) e

pub halts : (m : Mode) (st : List Frame) (c : ℕ) (cs : List ℕ) → step m st c ≡ stop 0 → run m st (c ∷ cs) ≡ Err (suc (length cs))
halts m st c cs e = let z : 0 + suc (length cs) ≡ suc (length cs) = omega arith in halts_back m st c cs 0 e ∙ ap Err z

pub alike : (lim : Bool) (m n : Mode) (st su : List Frame) (c : ℕ) (cs : List ℕ) → step_by lim m st c ≡ step_by lim n su c → run_by lim m st (c ∷ cs) ≡ run_by lim n su (c ∷ cs)
alike lim m n st su c cs e = ap (λ (z : Next). onward z (suc (length cs)) (λ i s. run_by lim i s cs)) e

-- ---- spaces

is_32 : (c : ℕ) → (c == 32) ≡ true → c ≡ 32
is_32 c e = grind (arith, e)

pub led_more : (t r b : List ℕ) → Led t r → r ≡ 32 ∷ b → Led t b
led_more t r b h e = record {
  spaces = h.spaces ++ 32 ∷ [];
  parts = h.parts ∙ ap (λ (z : List ℕ). h.spaces ++ z) e ∙ sym (append_assoc h.spaces (32 ∷ []) b);
  spaces_are = more h.spaces h.spaces_are;
}
  where
    more : (s : List ℕ) → Each is_space s → Each is_space (s ++ 32 ∷ [])
    more [] g = (refl, tt)
    more (c ∷ s) g = (g.0, more s g.1)

pub spaces_pass : (lim : Bool) (m : Mode) (st : List Frame) (spaces rest : List ℕ) → step_by lim m st 32 ≡ go m st → Each is_space spaces → run_by lim m st (spaces ++ rest) ≡ run_by lim m st rest
spaces_pass lim m st [] rest e h = refl
spaces_pass lim m st (c ∷ s) rest e h =
    let same = is_32 c h.0 in
    goes lim m m st st c (s ++ rest) (rw same e) ∙ spaces_pass lim m st s rest e h.1

pub skipped : (m : Mode) (st : List Frame) (t rest : List ℕ) → step m st 32 ≡ go m st → Skips t rest → run m st t ≡ run m st rest
skipped m st t rest e h = ap (run m st) h.led.parts ∙ spaces_pass true m st h.led.spaces rest e h.led.spaces_are

-- ---- words

err_left : (a b : ℕ) → ◌≡◌ {A = Result (List ℕ) ℕ} (Err a) (Err b) → a ≡ b
err_left a b e = cc

pub prefix_on : (w : ℕ) (ws : List ℕ) (st : List Frame) (c : ℕ) → (c == w) ≡ true → step (prefix (w ∷ ws)) st c ≡ go (prefix ws) st
unfolding in_prefix
prefix_on w ws st c e = rw e refl

prefix_off : (w : ℕ) (ws : List ℕ) (st : List Frame) (c : ℕ) → (c == w) ≡ false → step (prefix (w ∷ ws)) st c ≡ stop 0
unfolding in_prefix
prefix_off w ws st c e = rw e refl

pub prefix_pass : (ws t rest : List ℕ) (st : List Frame) → after_word ws t ≡ Ok rest → run (prefix ws) st t ≡ run (prefix []) st rest
prefix_pass [] t rest st e = let same : t ≡ rest = cc in ap (run (prefix []) st) same
prefix_pass (w ∷ ws) [] rest st e = absurd cc
prefix_pass (w ∷ ws) (c ∷ cs) rest st e = at (c == w) refl e (λ f. prefix_pass ws cs rest st f)
  where
    at : (b : Bool) → (c == w) ≡ b → cond b (after_word ws cs) (Err (suc (length cs))) ≡ Ok rest → (after_word ws cs ≡ Ok rest → run (prefix ws) st cs ≡ run (prefix []) st rest) → run (prefix (w ∷ ws)) st (c ∷ cs) ≡ run (prefix []) st rest
    at true x f again = goes true (prefix (w ∷ ws)) (prefix ws) st st c cs (prefix_on w ws st c x) ∙ again f
    at false x f again = absurd cc

pub prefix_halts : (ws t : List ℕ) (left : ℕ) (st : List Frame) → after_word ws t ≡ Err left → run (prefix ws) st t ≡ Err left
prefix_halts [] t left st e = absurd cc
prefix_halts (w ∷ ws) [] left st e = ap Err (err_left 0 left e)
prefix_halts (w ∷ ws) (c ∷ cs) left st e = at (c == w) refl e (λ f. prefix_halts ws cs left st f)
  where
    at : (b : Bool) → (c == w) ≡ b → cond b (after_word ws cs) (Err (suc (length cs))) ≡ Err left → (after_word ws cs ≡ Err left → run (prefix ws) st cs ≡ Err left) → run (prefix (w ∷ ws)) st (c ∷ cs) ≡ Err left
    at true x f again = goes true (prefix (w ∷ ws)) (prefix ws) st st c cs (prefix_on w ws st c x) ∙ again f
    at false x f again = halts (prefix (w ∷ ws)) st c cs (prefix_off w ws st c x) ∙ ap Err (err_left (suc (length cs)) left f)

word_off : (w : ℕ) (ws : List ℕ) (d : Data) (st : List Frame) (c : ℕ) → (c == w) ≡ false → step (word (w ∷ ws) d) st c ≡ stop 0
unfolding in_word
word_off w [] d st c e = rw e refl
word_off w (x ∷ ws) d st c e = rw e refl

pub word_ends : (w : ℕ) (d : Data) (st : List Frame) (c : ℕ) → (c == w) ≡ true → step (word (w ∷ []) d) st c ≡ go (ended (constant d)) st
unfolding in_word
word_ends w d st c e = rw e refl

pub word_on : (w x : ℕ) (ws : List ℕ) (d : Data) (st : List Frame) (c : ℕ) → (c == w) ≡ true → step (word (w ∷ x ∷ ws) d) st c ≡ go (word (x ∷ ws) d) st
unfolding in_word
word_on w x ws d st c e = rw e refl

pub word_pass : (w : ℕ) (ws t rest : List ℕ) (d : Data) (st : List Frame) → after_word (w ∷ ws) t ≡ Ok rest → run (word (w ∷ ws) d) st t ≡ run (ended (constant d)) st rest
word_pass w ws [] rest d st e = absurd cc
word_pass w [] (c ∷ cs) rest d st e = at (c == w) refl e
  where
    at : (b : Bool) → (c == w) ≡ b → cond b (Ok cs) (Err (suc (length cs))) ≡ Ok rest → run (word (w ∷ []) d) st (c ∷ cs) ≡ run (ended (constant d)) st rest
    at true x f = let same : cs ≡ rest = cc in goes true (word (w ∷ []) d) (ended (constant d)) st st c cs (word_ends w d st c x) ∙ ap (run (ended (constant d)) st) same
    at false x f = absurd cc
word_pass w (v ∷ ws) (c ∷ cs) rest d st e = at (c == w) refl e (λ f. word_pass v ws cs rest d st f)
  where
    at : (b : Bool) → (c == w) ≡ b → cond b (after_word (v ∷ ws) cs) (Err (suc (length cs))) ≡ Ok rest → (after_word (v ∷ ws) cs ≡ Ok rest → run (word (v ∷ ws) d) st cs ≡ run (ended (constant d)) st rest) → run (word (w ∷ v ∷ ws) d) st (c ∷ cs) ≡ run (ended (constant d)) st rest
    at true x f again = goes true (word (w ∷ v ∷ ws) d) (word (v ∷ ws) d) st st c cs (word_on w v ws d st c x) ∙ again f
    at false x f again = absurd cc

pub word_halts : (w : ℕ) (ws t : List ℕ) (left : ℕ) (d : Data) (st : List Frame) → after_word (w ∷ ws) t ≡ Err left → run (word (w ∷ ws) d) st t ≡ Err left
word_halts w ws [] left d st e = ap Err (err_left 0 left e)
word_halts w [] (c ∷ cs) left d st e = at (c == w) refl e
  where
    at : (b : Bool) → (c == w) ≡ b → cond b (Ok cs) (Err (suc (length cs))) ≡ Err left → run (word (w ∷ []) d) st (c ∷ cs) ≡ Err left
    at true x f = absurd cc
    at false x f = halts (word (w ∷ []) d) st c cs (word_off w [] d st c x) ∙ ap Err (err_left (suc (length cs)) left f)
word_halts w (v ∷ ws) (c ∷ cs) left d st e = at (c == w) refl e (λ f. word_halts v ws cs left d st f)
  where
    at : (b : Bool) → (c == w) ≡ b → cond b (after_word (v ∷ ws) cs) (Err (suc (length cs))) ≡ Err left → (after_word (v ∷ ws) cs ≡ Err left → run (word (v ∷ ws) d) st cs ≡ Err left) → run (word (w ∷ v ∷ ws) d) st (c ∷ cs) ≡ Err left
    at true x f again = goes true (word (w ∷ v ∷ ws) d) (word (v ∷ ws) d) st st c cs (word_on w v ws d st c x) ∙ again f
    at false x f again = halts (word (w ∷ v ∷ ws) d) st c cs (word_off w (v ∷ ws) d st c x) ∙ ap Err (err_left (suc (length cs)) left f)

-- ---- names

pub name_begins : (st : List Frame) (c : ℕ) → is_name_byte c ≡ true → step (prefix []) st c ≡ go (naming (c ∷ [])) st
unfolding in_prefix
name_begins st c e = rw e refl

name_lacks : (st : List Frame) (c : ℕ) → is_name_byte c ≡ false → step (prefix []) st c ≡ stop 0
unfolding in_prefix
name_lacks st c e = rw e refl

name_on : (n : List ℕ) (st : List Frame) (c : ℕ) → is_name_byte c ≡ true → step (naming n) st c ≡ go (naming (n ++ c ∷ [])) st
unfolding in_naming
name_on n st c e = rw e refl

pub name_off : (n : List ℕ) (st : List Frame) (c : ℕ) → is_name_byte c ≡ false → step (naming n) st c ≡ step (named n) st c
unfolding in_naming
name_off n st c e = rw e refl

name_run : (lim : Bool) (n s rest : List ℕ) (st : List Frame) → Each is_name_byte s → run_by lim (naming n) st (s ++ rest) ≡ run_by lim (naming (n ++ s)) st rest
name_run lim n [] rest st h = ap (λ (z : List ℕ). run_by lim (naming z) st rest) (sym (append-nil n))
name_run lim n (c ∷ s) rest st h =
    goes lim (naming n) (naming (n ++ c ∷ [])) st st c (s ++ rest) (name_on n st c h.0)
    ∙ name_run lim (n ++ c ∷ []) s rest st h.1
    ∙ ap (λ (z : List ℕ). run_by lim (naming z) st rest) (append_assoc n (c ∷ []) s)

name_end : (lim : Bool) (n rest : List ℕ) (st : List Frame) → NotFirst is_name_byte rest → run_by lim (naming n) st rest ≡ run_by lim (named n) st rest
name_end lim n [] st h = refl
name_end lim n (c ∷ cs) st h = alike lim (naming n) (named n) st st c cs (name_off n st c h)

pub name_none : (rest : List ℕ) (st : List Frame) → NotFirst is_name_byte rest → run (prefix []) st rest ≡ Err (length rest)
name_none [] st h = refl
name_none (c ∷ cs) st h = halts (prefix []) st c cs (name_lacks st c h)

pub name_some : (lim : Bool) (s rest : List ℕ) (st : List Frame) → 0 < length s → Each is_name_byte s → NotFirst is_name_byte rest → run_by lim (prefix []) st (s ++ rest) ≡ run_by lim (named s) st rest
name_some lim [] rest st l h e = absurd (omega arith)
name_some lim (c ∷ s) rest st l h e =
    goes lim (prefix []) (naming (c ∷ [])) st st c (s ++ rest) (name_begins st c h.0)
    ∙ name_run lim (c ∷ []) s rest st h.1
    ∙ name_end lim (c ∷ s) rest st e

taken_some : (xs : List ℕ) (i : ℕ) → 0 < i → i ≤ length xs → 0 < length (take i xs)
taken_some [] i l w = absurd (omega arith)
taken_some (x ∷ xs) zero l w = absurd (omega arith)
taken_some (x ∷ xs) (suc i) l w = omega arith

pub name_reads : (xs : List ℕ) (i : ℕ) (st : List Frame) → 0 < i → i ≤ length xs → Each is_name_byte (take i xs) → (i < length xs → is_name_byte (get_or xs i 0) ≡ false) → run (prefix []) st xs ≡ run (named (take i xs)) st (drop i xs)
name_reads xs i st l w h e =
    ap (run (prefix []) st) (sym (take-append-drop i xs))
    ∙ name_some true (take i xs) (drop i xs) st (taken_some xs i l w) h (not_first is_name_byte xs i e)

pub named_space : (n : List ℕ) (st : List Frame) → step (named n) st 32 ≡ go (named n) st
unfolding in_named
named_space n st = refl

pub named_opens : (n : List ℕ) (st : List Frame) → step (named n) st 40 ≡ go opening ((n, []) ∷ st)
unfolding in_named
named_opens n st = refl

named_off : (n : List ℕ) (st : List Frame) (c : ℕ) → (c == 32) ≡ false → (c == 40) ≡ false → step (named n) st c ≡ stop 0
unfolding in_named
named_off n st c e f = rw (e, f) refl

pub bracket_opens : (n rest inside : List ℕ) (st : List Frame) → rest ≡ 40 ∷ inside → run (named n) st rest ≡ run opening ((n, []) ∷ st) inside
bracket_opens n rest inside st e = ap (run (named n) st) e ∙ goes true (named n) opening st ((n, []) ∷ st) 40 inside (named_opens n st)

pub bracket_lacks : (n rest : List ℕ) (st : List Frame) → NotFirst is_space rest → NotFirst (λ c. c == 40) rest → run (named n) st rest ≡ Err (length rest)
bracket_lacks n [] st e f = refl
bracket_lacks n (c ∷ cs) st e f = halts (named n) st c cs (named_off n st c e f)

name_small : (c : ℕ) → is_name_byte c ≡ true → c < 128
unfolding is_name_byte
name_small c e = grind (arith, e)

name_ascii : (s : List ℕ) → Each is_name_byte s → IsAscii s
name_ascii [] h i = omega arith
name_ascii (c ∷ s) h zero = name_small c h.0
name_ascii (c ∷ s) h (suc i) = name_ascii s h.1 i

pub name_boundary : (xs : List ℕ) (i : ℕ) → IsUtf8 xs → i ≤ length xs → Each is_name_byte (take i xs) → IsCharBoundary xs i
name_boundary xs i u w h = IsCharBoundary-from_take xs i u w (IsUtf8-from_ascii (take i xs) (name_ascii (take i xs) h))

-- a name that isn't there, and one without its bracket
pub head_nameless : (t rest : List ℕ) (end : ℕ) (st : List Frame) → after_word states_word t ≡ Ok rest → end ≡ 0 → (end < length rest → is_name_byte (get_or rest end 0) ≡ false) → run (prefix states_word) st t ≡ Err (length rest)
head_nameless t rest end st e z h =
    let at : 0 < length rest → is_name_byte (get_or rest 0 0) ≡ false = subst (λ (n : ℕ). n < length rest → is_name_byte (get_or rest n 0) ≡ false) z h in
    prefix_pass states_word t rest st e ∙ name_none rest st (not_first is_name_byte rest 0 at)

pub head_named : (t rest spaced behind : List ℕ) (end : ℕ) (st : List Frame) → after_word states_word t ≡ Ok rest → (end ≡ 0 → ⊥) → end ≤ length rest → Each is_name_byte (take end rest) → (end < length rest → is_name_byte (get_or rest end 0) ≡ false)
    → spaced ≡ drop end rest → Skips spaced behind → run (prefix states_word) st t ≡ run (named (take end rest)) st behind
head_named t rest spaced behind end st e some within each ends is skips =
    prefix_pass states_word t rest st e
    ∙ name_reads rest end st (omega (arith, some)) within each ends
    ∙ ap (run (named (take end rest)) st) (sym is)
    ∙ skipped (named (take end rest)) st spaced behind (named_space (take end rest) st) skips

-- ---- what an error says of a run is what it says of an equal one

pub fails_along : {Y : Type 0} (e : Halt) (r s : Result Y ℕ) → r ≡ s → Fails e s → Fails e r
fails_along Memory r s same f = tt
fails_along (At left) r s same f = same ∙ f

pub prefix_fails : (ws t : List ℕ) (e : Halt) (st : List Frame) → Fails e (after_word ws t) → Fails e (run (prefix ws) st t)
prefix_fails ws t Memory st f = tt
prefix_fails ws t (At left) st f = prefix_halts ws t left st f

pub word_fails : (w : ℕ) (ws t : List ℕ) (d : Data) (e : Halt) (st : List Frame) → Fails e (after_word (w ∷ ws) t) → Fails e (run (word (w ∷ ws) d) st t)
word_fails w ws t d Memory st f = tt
word_fails w ws t d (At left) st f = word_halts w ws t left d st f

pub letters_fail : (ws t : List ℕ) (d : Data) (e : Halt) (st : List Frame) → 0 < length ws → Fails e (after_word ws t) → Fails e (run (word ws d) st t)
letters_fail [] t d e st some f = absurd (omega (arith, some))
letters_fail (w ∷ ws) t d e st some f = word_fails w ws t d e st f

pub letters_pass : (ws t rest : List ℕ) (d : Data) (st : List Frame) → 0 < length ws → after_word ws t ≡ Ok rest → run (word ws d) st t ≡ run (ended (constant d)) st rest
letters_pass [] t rest d st some e = absurd (omega (arith, some))
letters_pass (w ∷ ws) t rest d st some e = word_pass w ws t rest d st e
