-- The reader's steps, as stretches of the machine's run.
use Rattle.std.proofs.Common.{◌≡◌, ℕ, suc, ◌<◌, ◌≤◌, nat_le, true, false, cond, ◌==◌, List, [], ◌∷◌, ◌++◌, length, eq-eqb, Option, Some, None, Ok, Err, refl, sym, ap, ◌∙◌, arith}
use Rattle.asl_json_data.specs.Grammar.{is_space, AreSpaces}
use Rattle.asl_json_data.specs.Text.{quote}
use Rattle.asl_json_scan.specs.private.Chars.{Within, bare, Inside, goes, ends, breaks, lone, in_text, Textual, closed, broken, text_onward, text_run}
use Rattle.asl_json_scan.specs.private.Leads.{NoSpaceFirst, FirstIsNot, Skips, Breaks}
use Rattle.asl_json_scan.specs.declared.fault.Stop.{Stop}
use Rattle.asl_json_scan.specs.declared.fault.Stop.TheVariants as stops
use Rattle.std.specs.Prelude.{MatchOption}
use Rattle.asl_rules.specs.Tree.{Operand}
use Rattle.asl_rules.specs.private.Parts.{whole}
use Rattle.asl_rules.specs.declared.rule.Rule.TheVariants.{Always, Undo}
use Rattle.asl_rules.specs.declared.open.Open.{Open}
use Rattle.asl_rules.specs.declared.atom.Task.{Task}
use Rattle.asl_rules.specs.declared.atom.Atom.TheVariants.{Returned}
use Rattle.asl_rules.specs.private.Steps.{over as over_by}
use Rattle.asl_rules.specs.private.Words.{head_at}
use Rattle.asl_rules.specs.private.Leads.{Fails, DigitFirst, NoDigitFirst}
use Rattle.asl_rules.specs.private.Steps.{Asks, Wants, argument, count, closing, Mode, between, word, chars, figure, Context, Next, go, stop, spelled, counts, grown, in_wants, in_between, in_figure, in_argument, opens_name, operand, operator, in_operand, in_operator, deepens, closes_all, headed, of_task, noted, behind_name, chars_next, step, Read, at_end, onward, run}

-- one byte
pub one : (ts : List Task) (m : Mode) (k : Context) (c : ℕ) (cs : List ℕ) (n : Mode) (j : Context) → step ts (suc (length cs)) m k c ≡ go n j → run ts m k (c ∷ cs) ≡ run ts n j cs
unfolding run
one ts m k c cs n j e = ap (onward (λ m' k'. run ts m' k' cs) (suc (length cs))) e

pub halts : (ts : List Task) (m : Mode) (k : Context) (c : ℕ) (cs : List ℕ) → step ts (suc (length cs)) m k c ≡ stop → run ts m k (c ∷ cs) ≡ Err (length (c ∷ cs))
unfolding run
halts ts m k c cs e = ap (onward (λ m' k'. run ts m' k' cs) (suc (length cs))) e

pub over : (ts : List Task) (m : Mode) (k : Context) → run ts m k [] ≡ at_end m k
unfolding run
over ts m k = refl

pub fails_along : (e : Stop) (r s : Read) → r ≡ s → Fails e s → Fails e r
fails_along stops.Memory r s same f = tt
fails_along (stops.Fault g) r s same f = same ∙ f

-- ---- spaces

pub spaces_pass : (ts : List Task) (w : Wants) (k : Context) (spaces rest : List ℕ) → AreSpaces spaces → run ts (between w) k (spaces ++ rest) ≡ run ts (between w) k rest
unfolding in_between
spaces_pass ts w k [] rest h = refl
spaces_pass ts w k (c ∷ cs) rest h = one ts (between w) k c (cs ++ rest) (between w) k (rw h.0 refl) ∙ spaces_pass ts w k cs rest h.1

pub skip_run : (ts : List Task) (w : Wants) (k : Context) (bytes rest : List ℕ) → Skips bytes rest → run ts (between w) k bytes ≡ run ts (between w) k rest
skip_run ts w k bytes rest h = ap (run ts (between w) k) h.parts ∙ spaces_pass ts w k h.spaces rest h.spaces_are

-- a byte that is no space, where something is wanted
pub wanted : (left : ℕ) (ts : List Task) (w : Wants) (k : Context) (c : ℕ) → is_space c ≡ false → step ts left (between w) k c ≡ in_wants left w k c
unfolding in_between
wanted left ts w k c e = rw e refl

-- ---- words

pub letter_goes : (ts : List Task) (x : ℕ) (xs : List ℕ) (w : Wants) (k : Context) (rest : List ℕ) → run ts (spelled (x ∷ xs) w) k (x ∷ rest) ≡ run ts (spelled xs w) k rest
letter_goes ts x xs w k rest = one ts (word x xs w) k x rest (spelled xs w) k (rw (eq-eqb x x refl) refl)

pub letters_pass : (ts : List Task) (xs : List ℕ) (w : Wants) (k : Context) (rest : List ℕ) → run ts (spelled xs w) k (xs ++ rest) ≡ run ts (between w) k rest
letters_pass ts [] w k rest = refl
letters_pass ts (x ∷ xs) w k rest = letter_goes ts x xs w k (xs ++ rest) ∙ letters_pass ts xs w k rest

pub letter_halts : (ts : List Task) (x : ℕ) (xs : List ℕ) (w : Wants) (k : Context) (rest : List ℕ) → FirstIsNot x rest → run ts (spelled (x ∷ xs) w) k rest ≡ Err (length rest)
unfolding run
letter_halts ts x xs w k [] h = refl
letter_halts ts x xs w k (c ∷ cs) h = halts ts (word x xs w) k c cs (rw h refl)

-- ---- signs

pub sign_goes : (ts : List Task) (w : Wants) (k : Context) (s : ℕ) (n : Mode) (j : Context) (bytes rest behind : List ℕ) → Skips bytes rest → rest ≡ s ∷ behind → ((left c : ℕ) → in_wants left w k c ≡ cond (c == s) (go n j) stop)
    → run ts (between w) k bytes ≡ run ts n j behind
sign_goes ts w k s n j bytes rest behind h e is =
    skip_run ts w k bytes rest h ∙ ap (run ts (between w) k) e ∙ one ts (between w) k s behind n j (wanted (suc (length behind)) ts w k s (no_space rest e h.stops) ∙ is (suc (length behind)) s ∙ rw (eq-eqb s s refl) refl)
  where
    no_space : (r : List ℕ) → r ≡ s ∷ behind → NoSpaceFirst r → is_space s ≡ false
    no_space [] same n = absurd cc
    no_space (c ∷ cs) same n = let first : c ≡ s = cc in rw (sym first) n

pub sign_halts : (ts : List Task) (w : Wants) (k : Context) (s : ℕ) (n : Mode) (j : Context) (bytes rest : List ℕ) → Skips bytes rest → FirstIsNot s rest → ((left c : ℕ) → in_wants left w k c ≡ cond (c == s) (go n j) stop) → at_end (between w) k ≡ Err 0
    → run ts (between w) k bytes ≡ Err (length rest)
sign_halts ts w k s n j bytes rest h none is last = skip_run ts w k bytes rest h ∙ by rest none h.stops
  where
    by : (r : List ℕ) → FirstIsNot s r → NoSpaceFirst r → run ts (between w) k r ≡ Err (length r)
    by [] f g = over ts (between w) k ∙ last
    by (c ∷ cs) f g = halts ts (between w) k c cs (wanted (suc (length cs)) ts w k c g ∙ is (suc (length cs)) c ∙ rw f refl)

-- ---- what a byte tells

pub first_no_space : (c : ℕ) (rest behind : List ℕ) → rest ≡ c ∷ behind → NoSpaceFirst rest → is_space c ≡ false
first_no_space c [] behind same n = absurd cc
first_no_space c (d ∷ ds) behind same n = let first : d ≡ c = cc in rw (sym first) n

pub byte_goes : (ts : List Task) (w : Wants) (k : Context) (c : ℕ) (n : Mode) (j : Context) (bytes rest behind : List ℕ) → Skips bytes rest → rest ≡ c ∷ behind → ((left : ℕ) → in_wants left w k c ≡ go n j) → run ts (between w) k bytes ≡ run ts n j behind
byte_goes ts w k c n j bytes rest behind h e is =
    skip_run ts w k bytes rest h ∙ ap (run ts (between w) k) e ∙ one ts (between w) k c behind n j (wanted (suc (length behind)) ts w k c (first_no_space c rest behind e h.stops) ∙ is (suc (length behind)))

pub byte_halts : (ts : List Task) (w : Wants) (k : Context) (c : ℕ) (bytes rest behind : List ℕ) → Skips bytes rest → rest ≡ c ∷ behind → ((left : ℕ) → in_wants left w k c ≡ stop) → run ts (between w) k bytes ≡ Err (length rest)
byte_halts ts w k c bytes rest behind h e is =
    skip_run ts w k bytes rest h ∙ ap (run ts (between w) k) e ∙ halts ts (between w) k c behind (wanted (suc (length behind)) ts w k c (first_no_space c rest behind e h.stops) ∙ is (suc (length behind))) ∙ ap (λ (x : List ℕ). Err (length x)) (sym e)

pub none_left : (ts : List Task) (w : Wants) (k : Context) (bytes rest : List ℕ) → Skips bytes rest → rest ≡ [] → run ts (between w) k bytes ≡ at_end (between w) k
none_left ts w k bytes rest h e = skip_run ts w k bytes rest h ∙ ap (run ts (between w) k) e ∙ over ts (between w) k

pub none_wanted : (ts : List Task) (w : Wants) (k : Context) (bytes rest : List ℕ) → Skips bytes rest → rest ≡ [] → at_end (between w) k ≡ Err 0 → run ts (between w) k bytes ≡ Err (length rest)
none_wanted ts w k bytes rest h e last = none_left ts w k bytes rest h e ∙ last ∙ ap (λ (x : List ℕ). Err (length x)) (sym e)

-- ---- numbers

pub figure_begins : (ts : List Task) (t : Task) (k : Context) (bytes rest behind : List ℕ) (n : ℕ) → Skips bytes rest → DigitFirst rest n behind → run ts (between (count t)) k bytes ≡ run ts (figure t n) k behind
unfolding in_wants
figure_begins ts t k bytes rest behind n h d =
    skip_run ts (count t) k bytes rest h ∙ ap (run ts (between (count t)) k) d.parts ∙ one ts (between (count t)) k d.byte behind (figure t n) k (wanted (suc (length behind)) ts (count t) k d.byte (no_space rest d.parts h.stops) ∙ rw (d.digit_is, d.value_is) refl)
  where
    no_space : (r : List ℕ) → r ≡ d.byte ∷ behind → NoSpaceFirst r → is_space d.byte ≡ false
    no_space [] same n = absurd cc
    no_space (c ∷ cs) same n = let first : c ≡ d.byte = cc in rw (sym first) n

pub no_figure : (ts : List Task) (t : Task) (k : Context) (bytes rest : List ℕ) → Skips bytes rest → NoDigitFirst rest → run ts (between (count t)) k bytes ≡ Err (length rest)
unfolding in_wants run
no_figure ts t k bytes rest h none = skip_run ts (count t) k bytes rest h ∙ by rest none h.stops
  where
    by : (r : List ℕ) → NoDigitFirst r → NoSpaceFirst r → run ts (between (count t)) k r ≡ Err (length r)
    by [] f g = refl
    by (c ∷ cs) f g = halts ts (between (count t)) k c cs (wanted (suc (length cs)) ts (count t) k c g ∙ rw f refl)

pub figure_grows : (ts : List Task) (t : Task) (k : Context) (n d more : ℕ) (rest behind : List ℕ) → DigitFirst rest d behind → Some more ≡ grown n d → run ts (figure t n) k rest ≡ run ts (figure t more) k behind
unfolding in_figure
figure_grows ts t k n d more rest behind h e =
    ap (run ts (figure t n) k) h.parts ∙ one ts (figure t n) k h.byte behind (figure t more) k (rw h.digit_is (ap (λ (x : ℕ). counts t k (grown n x)) (sym h.value_is) ∙ ap (counts t k) (sym e)))

pub figure_halts : (ts : List Task) (t : Task) (k : Context) (n d : ℕ) (rest behind : List ℕ) → DigitFirst rest d behind → None ≡ grown n d → run ts (figure t n) k rest ≡ Err (length rest)
unfolding in_figure
figure_halts ts t k n d rest behind h e =
    ap (run ts (figure t n) k) h.parts ∙ halts ts (figure t n) k h.byte behind (rw h.digit_is (ap (λ (x : ℕ). counts t k (grown n x)) (sym h.value_is) ∙ ap (counts t k) (sym e))) ∙ ap (λ (x : List ℕ). Err (length x)) (sym h.parts)

pub figure_ends : (ts : List Task) (t : Task) (k : Context) (n : ℕ) (rest : List ℕ) → NoDigitFirst rest → run ts (figure t n) k rest ≡ run ts (between (closing (Returned t n))) k rest
unfolding in_figure run
figure_ends ts t k n [] none = refl
figure_ends ts t k n (c ∷ cs) none = rw none refl

-- ---- names

-- what becomes of a name
abbrev pub chars_end : List Task → Asks → ℕ → Context → Textual → Read
chars_end ts a from k (closed s rest) = run ts (between (behind_name ts s a)) (cond (of_task a) (noted ts s from k) k) rest
chars_end ts a from k (broken f) = Err f.left

chars_further : (ts : List Task) (a : Asks) (from : ℕ) (s : List ℕ) (k : Context) (cs : List ℕ) (n : Inside) → ((q : Within) (x : List ℕ) → run ts (chars a from q x) k cs ≡ chars_end ts a from k (text_run q x cs))
    → onward (λ m j. run ts m j cs) (suc (length cs)) (chars_next ts a from s k n) ≡ chars_end ts a from k (text_onward (λ q x. text_run q x cs) s cs n)
chars_further ts a from s k cs (goes q x) h = h q x
chars_further ts a from s k cs ends h = refl
chars_further ts a from s k cs breaks h = refl
chars_further ts a from s k cs (lone back) h = refl

pub chars_run : (ts : List Task) (a : Asks) (from : ℕ) (q : Within) (s : List ℕ) (k : Context) (bytes : List ℕ) → run ts (chars a from q s) k bytes ≡ chars_end ts a from k (text_run q s bytes)
unfolding run text_run
chars_run ts a from q s k [] = refl
chars_run ts a from q s k (c ∷ cs) = chars_further ts a from s k cs (in_text q s c) (λ q' x. chars_run ts a from q' x k cs)

-- a name is wanted, and no status
abbrev pub WantsName : Asks → Type 0
WantsName a = (left : ℕ) (k : Context) (c : ℕ) → in_argument a left k c ≡ opens_name a left k c

pub name_begins : (ts : List Task) (a : Asks) (k : Context) (bytes rest inside : List ℕ) → WantsName a → Skips bytes rest → rest ≡ quote ∷ inside → run ts (between (argument a)) k bytes ≡ chars_end ts a (length rest) k (text_run bare [] inside)
unfolding in_wants is_space
name_begins ts a k bytes rest inside is h e =
    skip_run ts (argument a) k bytes rest h
    ∙ ap (run ts (between (argument a)) k) e
    ∙ one ts (between (argument a)) k quote inside (chars a (length (quote ∷ inside)) bare []) k (wanted (suc (length inside)) ts (argument a) k quote refl ∙ is (suc (length inside)) k quote)
    ∙ chars_run ts a (length (quote ∷ inside)) bare [] k inside
    ∙ ap (λ (n : ℕ). chars_end ts a n k (text_run bare [] inside)) (ap length (sym e))

pub name_read : (ts : List Task) (a : Asks) (k : Context) (bytes rest inside s behind : List ℕ) (from : ℕ) → WantsName a → Skips bytes rest → rest ≡ quote ∷ inside → from ≡ length rest → text_run bare [] inside ≡ closed s behind
    → run ts (between (argument a)) k bytes ≡ run ts (between (behind_name ts s a)) (cond (of_task a) (noted ts s from k) k) behind
name_read ts a k bytes rest inside s behind from is h e f r = name_begins ts a k bytes rest inside is h e ∙ ap (chars_end ts a (length rest) k) r ∙ ap (λ (n : ℕ). chars_end ts a n k (closed s behind)) (sym f)

pub name_fails : (ts : List Task) (a : Asks) (k : Context) (bytes rest inside : List ℕ) (e : Stop) → WantsName a → Skips bytes rest → rest ≡ quote ∷ inside → Breaks e (text_run bare [] inside) → Fails e (run ts (between (argument a)) k bytes)
name_fails ts a k bytes rest inside stops.Memory is h e b = tt
name_fails ts a k bytes rest inside (stops.Fault f) is h e b = name_begins ts a k bytes rest inside is h e ∙ ap (chars_end ts a (length rest) k) b

pub no_name : (ts : List Task) (a : Asks) (k : Context) (bytes rest : List ℕ) → WantsName a → Skips bytes rest → FirstIsNot quote rest → run ts (between (argument a)) k bytes ≡ Err (length rest)
unfolding in_wants run
no_name ts a k bytes rest is h none = skip_run ts (argument a) k bytes rest h ∙ by rest none h.stops
  where
    by : (r : List ℕ) → FirstIsNot quote r → NoSpaceFirst r → run ts (between (argument a)) k r ≡ Err (length r)
    by [] f g = refl
    by (c ∷ cs) f g = halts ts (between (argument a)) k c cs (wanted (suc (length cs)) ts (argument a) k c g ∙ is (suc (length cs)) k c ∙ rw f refl)

-- ---- atoms

-- no parenthesis and no `not` begins here
pub headed_by : (left : ℕ) (k : Context) (c : ℕ) (bytes behind : List ℕ) → bytes ≡ c ∷ behind → FirstIsNot 40 bytes → FirstIsNot 110 bytes → in_wants left operand k c ≡ headed (head_at c) k
unfolding in_wants in_operand
headed_by left k c [] behind e f g = absurd cc
headed_by left k c (d ∷ ds) behind e f g =
    let first : d ≡ c = cc in
    let no_group : (c == 40) ≡ false = rw (sym first) f in
    let no_not : (c == 110) ≡ false = rw (sym first) g in
    rw (no_group, no_not) refl

-- ---- what stands open

pub at_once : (bytes : List ℕ) → NoSpaceFirst bytes → Skips bytes bytes
at_once bytes n = record { spaces = []; parts = refl; spaces_are = tt; stops = n }

pub deep_halts : (os : List Open) (n : Next) → 64 ≤ length os → deepens os n ≡ stop
unfolding deepens
deep_halts os n le = let full : nat_le 64 (length os) ≡ true = grind (arith, le) in rw full refl

pub deep_goes : (os : List Open) (n : Next) → length os < 64 → deepens os n ≡ n
unfolding deepens
deep_goes os n lt = let full : nat_le 64 (length os) ≡ false = grind (arith, lt) in rw full refl

-- no operator begins here
pub no_operator : (ts : List Task) (o : Operand) (k : Context) (bytes : List ℕ) → 0 < length bytes → NoSpaceFirst bytes → FirstIsNot 97 bytes → FirstIsNot 111 bytes → FirstIsNot 61 bytes → FirstIsNot 41 bytes
    → run ts (between (operator o)) k bytes ≡ Err (length bytes)
unfolding in_wants in_operator
no_operator ts o k [] some n a b e f = absurd (omega arith)
no_operator ts o k (c ∷ cs) some n a b e f = halts ts (between (operator o)) k c cs (wanted (suc (length cs)) ts (operator o) k c n ∙ rw (a, b, e, f) refl)

pub ends_none : (o : Operand) (k : Context) (first : Option Open) (others : List Open) → MatchOption first ((k.opens ≡ []) × (others ≡ [])) (λ x. k.opens ≡ x ∷ others) → first ≡ None → at_end (between (operator o)) k ≡ Ok (Always (whole k.parts o), k.missing)
ends_none o k None others m e = ap (closes_all o k) m.0
ends_none o k (Some x) others m e = absurd cc

pub ends_some : (o : Operand) (k : Context) (first : Option Open) (others : List Open) (x : Open) → MatchOption first ((k.opens ≡ []) × (others ≡ [])) (λ y. k.opens ≡ y ∷ others) → first ≡ Some x → at_end (between (operator o)) k ≡ Err 0
ends_some o k None others x m e = absurd cc
ends_some o k (Some y) others x m e = ap (closes_all o k) m

-- ---- the end of two names

pub over_ends : (ts : List Task) (d u : Task) (k : Context) (bytes rest : List ℕ) → Skips bytes rest → length rest ≤ 0 → run ts (between (over_by d u)) k bytes ≡ Ok (Undo d u, k.missing)
over_ends ts d u k bytes rest h le = none_left ts (over_by d u) k bytes rest h (none rest le)
  where
    none : (r : List ℕ) → length r ≤ 0 → r ≡ []
    none [] le = refl
    none (c ∷ cs) le = absurd (omega arith)

pub over_more : (ts : List Task) (d u : Task) (k : Context) (bytes rest : List ℕ) → Skips bytes rest → 0 < length rest → run ts (between (over_by d u)) k bytes ≡ Err (length rest)
unfolding in_wants
over_more ts d u k bytes rest h some = skip_run ts (over_by d u) k bytes rest h ∙ by rest some h.stops
  where
    by : (r : List ℕ) → 0 < length r → NoSpaceFirst r → run ts (between (over_by d u)) k r ≡ Err (length r)
    by [] some n = absurd (omega arith)
    by (c ∷ cs) some n = halts ts (between (over_by d u)) k c cs (wanted (suc (length cs)) ts (over_by d u) k c n)
