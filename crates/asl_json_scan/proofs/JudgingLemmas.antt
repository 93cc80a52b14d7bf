-- What the machine answers is right: a value that the text spells within the limits, or a fault that is there.
use Rattle.std.proofs.Common.{◌≡◌, ℕ, suc, ◌+◌, ◌≤◌, Bool, true, false, cond, nat_le, ◌&&◌, ◌==◌, List, [], ◌∷◌, ◌++◌, length, Option, Some, None, Result, Ok, Err, refl, sym, ap, subst, ◌∙◌, append_assoc, arith}
use Rattle.std.proofs.lemmas.List.{append-nil, length-append}
use Rattle.asl_json_data.specs.Data.{Data, null, boolean, number, text, list, dict, Chain, no_items, item, chain, Pairs, no_members, member, pairs}
use Rattle.asl_json_data.specs.Grammar.{colon, open_bracket, close_bracket, open_brace, close_brace, null_word, is_space, Spells, IsText, IsPrefix}
use Rattle.asl_json_data.specs.Parts.{comma, Joined}
use Rattle.asl_json_data.specs.Text.{quote, SpellsText, lone_spelled}
use Rattle.asl_json_scan.specs.private.Chars.{Within, Inside, goes, ends, breaks, lone, in_text}
use Rattle.std.proofs.lemmas.Bool.{and_parts}
use Rattle.asl_json_scan.proofs.Texts.{OpenText, text_closes, no_chars}
use Rattle.asl_json_data.specs.Number.{is_over}
use Rattle.asl_json_data.specs.private.NumberParts.{next_part, may_end}
use Rattle.asl_json_scan.specs.private.Machine.{grown, Mode, value, word, chars, figure, after, first, key, key_chars, behind_key, Next, go, stop, deepens, closes, in_judged, in_value, in_word, chars_next, in_chars, in_figure, in_after, in_first, in_key, key_chars_next, in_key_chars, in_behind_key, fault, failed, step, ended, onward, finish, walk, judgement, run}
use Rattle.asl_json_data.specs.Distinct.{Members, has_key}
use Rattle.asl_json_data.specs.Limits.{max_depth, Allowed, AllowedItems, AllowedMembers}
use Rattle.asl_json_scan.specs.Open.{Frame, in_list, in_dict, IsOpen, AwaitsKey, EndsAt, DepthAt, LoneAt, DuplicateAt, FaultAt, IsFault, NumberAt}
use Rattle.asl_json_scan.specs.declared.fault.Fault.{Fault}
use Rattle.asl_json_scan.specs.declared.fault.Kind.{Kind}
use Rattle.asl_json_scan.specs.declared.fault.Kind.TheVariants.{Syntax, Duplicate, Depth, Number}
use Rattle.asl_json_scan.specs.declared.fault.Kind.TheVariants as kinds
use Rattle.asl_json_data.specs.declared.part.Part.{Part}
use Rattle.asl_json_data.specs.declared.part.Part.TheVariants.{Start}
use Rattle.asl_json_data.proofs.Numerals.{part_is_numeral, ending, part_goes_on}
use Rattle.asl_json_scan.proofs.Passing.{text_read}
use Rattle.asl_json_scan.proofs.Reaching.{Reached, Stopped, Holds, item_done, last_item_reaches, done_of, close_reaches, awaits_first, key_ends, number_done, step_reaches}

-- ---- each front that is reached goes on to a text

pub shorter_front : (t x : List ℕ) → IsPrefix (t ++ x) → IsPrefix t
shorter_front t x (more, v, h) = (x ++ more, v, subst (λ (b : List ℕ). IsText b v) (append_assoc t x more) h)

after_lives : (st : List Frame) (d : Data) (t : List ℕ) → Reached (after d) st t → IsPrefix t
after_lives [] d t h = ([], d, record { before = h.front; inner = h.back_is.front; behind = h.back_is.back; parts = append-nil t ∙ h.parts ∙ ap (λ (x : List ℕ). h.front ++ x) h.back_is.parts; before_is = h.front_is; inner_is = h.back_is.front_is; behind_is = h.back_is.back_is })
after_lives (in_list ds ∷ st) d t h = shorter_front t (close_bracket ∷ []) (after_lives st (list (chain (ds ++ d ∷ []))) (t ++ close_bracket ∷ []) (last_item_reaches ds d st t close_bracket refl (item_done ds d st t h)))
after_lives (in_dict ms k ∷ st) d t h = shorter_front t (close_brace ∷ []) (after_lives st (dict (pairs (ms ++ (k, d) ∷ []))) (t ++ close_brace ∷ []) (close_reaches ms k d st t close_brace refl (done_of ms k d st t h)))

ended_lives : (st : List Frame) (d : Data) (t x : List ℕ) → Joined (IsOpen st) (λ u. Spells d (u ++ x)) t → IsPrefix t
ended_lives st d t x h =
    shorter_front t x (after_lives st d (t ++ x) (record {
      front = h.front;
      back = h.back ++ x;
      parts = rw h.parts (append_assoc h.front h.back x);
      front_is = h.front_is;
      back_is = record { front = h.back ++ x; back = []; parts = sym (append-nil (h.back ++ x)); front_is = h.back_is; back_is = tt };
    }))

pub value_lives : (st : List Frame) (t : List ℕ) → IsOpen st t → IsPrefix t
value_lives st t h = ended_lives st null t null_word (record { front = t; back = []; parts = sym (append-nil t); front_is = h; back_is = refl })

behind_key_lives : (ms : Members) (k : List ℕ) (st : List Frame) (t : List ℕ) → Reached (behind_key ms k) st t → IsPrefix t
unfolding in_behind_key is_space
behind_key_lives ms k st t h = shorter_front t (colon ∷ []) (value_lives (in_dict ms k ∷ st) (t ++ colon ∷ []) (step_reaches false (behind_key ms k) st t colon h))

-- an open text goes on to its closing quote, and the front with it to a text
text_lives : (q : Within) (s t outer : List ℕ) → ((u : List ℕ) (r : List ℕ) → SpellsText r u → IsPrefix (outer ++ u)) → OpenText q s t → IsPrefix (outer ++ t)
text_lives q s t outer lives h = let e = text_closes q s t h in shorter_front (outer ++ t) e.0 (subst IsPrefix (sym (append_assoc outer t e.0)) (lives (t ++ e.0) e.1 e.2))

pub key_lives : (ms : Members) (st : List Frame) (t : List ℕ) → AwaitsKey st ms t → IsPrefix t
key_lives ms st t h = shorter_front t (quote ∷ quote ∷ []) (behind_key_lives ms [] st (t ++ quote ∷ quote ∷ []) (key_ends ms [] st t (quote ∷ quote ∷ []) h no_chars))

-- a number goes on to its end
figure_lives : (p : Part) (s : List ℕ) (st : List Frame) (t : List ℕ) → Reached (figure p s) st t → IsPrefix t
figure_lives p s st t h = ended_lives st (number (s ++ ending p)) t (ending p) (record { front = h.front; back = h.back; parts = h.parts; front_is = h.front_is; back_is = (ap (λ (x : List ℕ). x ++ ending p) h.back_is.parts, part_goes_on p s h.back_is.part_is) })

pub reached_lives : (m : Mode) (st : List Frame) (t : List ℕ) → Reached m st t → IsPrefix t
reached_lives value st t h = value_lives st t h
reached_lives (word ws d) st t h = ended_lives st d t ws h
reached_lives (chars q s) st t h = subst IsPrefix (sym h.parts) (text_lives q s h.back h.front (λ u r e. after_lives st (text r) (h.front ++ u) (record { front = h.front; back = u; parts = refl; front_is = h.front_is; back_is = record { front = u; back = []; parts = sym (append-nil u); front_is = e; back_is = tt } })) h.back_is)
reached_lives (figure p s) st t h = figure_lives p s st t h
reached_lives (after d) st t h = after_lives st d t h
reached_lives first st t h = key_lives [] st t (awaits_first st t h)
reached_lives (key ms) st t h = key_lives ms st t h
reached_lives (key_chars ms n q s) st t h = subst IsPrefix (sym h.0.parts) (text_lives q s h.0.back h.0.front (λ u r e. behind_key_lives ms r st (h.0.front ++ u) (key_ends ms r st h.0.front u h.0.front_is e)) h.0.back_is)
reached_lives (behind_key ms k) st t h = behind_key_lives ms k st t h

-- ---- what is found

-- the bytes up to there are a front that the machine has reached
pub record LivesTo (b : List ℕ) (left : ℕ) : Type 0 where
  pub pre : List ℕ
  pub post : List ℕ
  pub parts : b ≡ pre ++ post
  pub left_is : length post ≡ left
  pub alive : IsPrefix pre

abbrev pub JudgedAt : List ℕ → Kind → ℕ → Type 0
JudgedAt b Syntax left = LivesTo b left
JudgedAt b kinds.Lone left = LoneAt b left
JudgedAt b Duplicate left = DuplicateAt b left
JudgedAt b Depth left = DepthAt b left
JudgedAt b Number left = NumberAt b left

abbrev pub Judged : List ℕ → Result Data Fault → Type 0
Judged b (Ok v) = IsText b v
Judged b (Err f) = JudgedAt b f.kind f.left

lives_to_end : (m : Mode) (st : List Frame) (t : List ℕ) → Reached m st t → LivesTo t 0
lives_to_end m st t h = record { pre = t; post = []; parts = sym (append-nil t); left_is = refl; alive = reached_lives m st t h }

ended_judged : (d : Data) (st : List Frame) (t : List ℕ) → Reached (after d) st t → Judged t (ended d st)
ended_judged d [] t h = record { before = h.front; inner = h.back_is.front; behind = h.back_is.back; parts = h.parts ∙ ap (λ (x : List ℕ). h.front ++ x) h.back_is.parts; before_is = h.front_is; inner_is = h.back_is.front_is; behind_is = h.back_is.back_is }
ended_judged d (f ∷ st) t h = lives_to_end (after d) (f ∷ st) t h

number_judged : (lim : Bool) (p : Part) (s : List ℕ) (st : List Frame) (t : List ℕ) → may_end p ≡ true → Reached (figure p s) st t → Judged t (cond (lim && is_over s) (failed Number (length s)) (ended (number s) st))
number_judged lim p s st t may h = told (lim && is_over s) (λ e. (and_parts lim (is_over s) e).1)
  where
    told : (x : Bool) → (x ≡ true → is_over s ≡ true) → Judged t (cond x (failed Number (length s)) (ended (number s) st))
    told true over = record {
      pre = h.front;
      spelled = s;
      post = [];
      parts = h.parts ∙ ap (λ (x : List ℕ). h.front ++ x) (h.back_is.parts ∙ sym (append-nil s));
      left_is = ap length (append-nil s);
      within = st;
      open_is = h.front_is;
      number_is = part_is_numeral p s may h.back_is.part_is;
      longest = tt;
      over = over refl;
    }
    told false over = ended_judged (number s) st t (number_done p s st t may h)

figure_judged : (lim : Bool) (p : Part) (s : List ℕ) (st : List Frame) (t : List ℕ) (b : Bool) → may_end p ≡ b → Reached (figure p s) st t → Judged t (cond b (cond (lim && is_over s) (failed Number (length s)) (ended (number s) st)) (failed Syntax 0))
figure_judged lim p s st t true may h = number_judged lim p s st t may h
figure_judged lim p s st t false may h = lives_to_end (figure p s) st t h

ends_judged : (lim : Bool) (m : Mode) (st : List Frame) (t : List ℕ) → Reached m st t → Judged t (finish lim m st)
ends_judged lim value st t h = lives_to_end value st t h
ends_judged lim (word ws d) st t h = lives_to_end (word ws d) st t h
ends_judged lim (chars q s) st t h = lives_to_end (chars q s) st t h
ends_judged lim (figure p s) st t h = figure_judged lim p s st t (may_end p) refl h
ends_judged lim (after d) st t h = ended_judged d st t h
ends_judged lim first st t h = lives_to_end first st t h
ends_judged lim (key ms) st t h = lives_to_end (key ms) st t h
ends_judged lim (key_chars ms n q s) st t h = lives_to_end (key_chars ms n q s) st t h
ends_judged lim (behind_key ms k) st t h = lives_to_end (behind_key ms k) st t h

full_at : (a b : ℕ) → nat_le a b ≡ true → a ≤ b
full_at a b e = grind (arith, e)

stop_judged : (kind : Kind) (m : Mode) (st : List Frame) (t : List ℕ) (c : ℕ) (cs : List ℕ) (back : ℕ) → Reached m st t → Stopped kind st t c back → JudgedAt (t ++ c ∷ cs) kind (back + suc (length cs))
stop_judged Syntax m st t c cs back h e = record { pre = t; post = c ∷ cs; parts = refl; left_is = omega (arith, e); alive = reached_lives m st t h }
stop_judged Depth m st t c cs back h e = record { pre = t; opener = c; post = cs; parts = refl; opener_is = e.opener; left_is = omega (arith, e.here); within = st; open_is = e.open_is; full = full_at max_depth (length st) e.full }
stop_judged kinds.Lone m st t c cs back h e = record {
  pre = e.pre;
  half = e.half_is;
  post = cs;
  parts = sym (append_assoc t (c ∷ []) cs) ∙ ap (λ (x : List ℕ). x ++ cs) e.parts ∙ append_assoc e.pre (lone_spelled e.half_is) cs;
  left_is = omega (arith, e.back_is, length-append (lone_spelled e.half_is) cs);
  open_is = e.open_is;
  lone = e.lone;
}
stop_judged Duplicate m st t c cs back h e = record {
  pre = e.pre;
  key = e.key;
  inner = e.inner;
  post = cs;
  parts = sym (append_assoc t (c ∷ []) cs) ∙ ap (λ (x : List ℕ). x ++ cs) e.parts ∙ simp append_assoc;
  left_is = omega (arith, e.back_is, length-append e.inner (quote ∷ cs));
  within = st;
  members = e.members;
  awaits = e.before;
  key_is = e.key_is;
  known = e.known;
}
stop_judged Number m st t c cs back h e = record {
  pre = e.before.front;
  spelled = e.spelled;
  post = c ∷ cs;
  parts = rw (e.before.parts, e.before.back_is) (append_assoc e.before.front e.spelled (c ∷ cs));
  left_is = omega (arith, e.back_is, length-append e.spelled (c ∷ cs));
  within = st;
  open_is = e.before.front_is;
  number_is = e.number_is;
  longest = e.longest cs;
  over = e.over;
}

next_judged : (lim : Bool) (f : Mode → List Frame → Result Data Fault) (m : Mode) (st : List Frame) (t : List ℕ) (c : ℕ) (cs : List ℕ) (n : Next) → Reached m st t → Holds st t c n
    → ((m' : Mode) (st' : List Frame) → Reached m' st' (t ++ c ∷ []) → Judged ((t ++ c ∷ []) ++ cs) (f m' st')) → Judged (t ++ c ∷ cs) (onward (judgement lim) f (suc (length cs)) n)
next_judged lim f m st t c cs (go m' st') h g later = subst (λ (b : List ℕ). Judged b (f m' st')) (append_assoc t (c ∷ []) cs) (later m' st' g)
next_judged lim f m st t c cs (stop kind back) h g later = stop_judged kind m st t c cs back h g

pub run_judged : (lim : Bool) (m : Mode) (st : List Frame) (t rest : List ℕ) → Reached m st t → Judged (t ++ rest) (run lim m st rest)
unfolding walk
run_judged lim m st t [] h = rw append-nil (ends_judged lim m st t h)
run_judged lim m st t (c ∷ cs) h =
    next_judged lim (λ (o : Mode) (u : List Frame). run lim o u cs) m st t c cs (step lim m st c) h (step_reaches lim m st t c h) (λ m' st' g. run_judged lim m' st' (t ++ c ∷ []) cs g)

-- ---- a syntax fault is there whatever the limits, and whatever follows

-- the same but for the limits
abbrev pub Freer : Next → Next → Type 0
Freer (go m st) n = n ≡ go m st
Freer (stop Syntax back) n = (n ≡ stop Syntax back) × (back ≡ 0)
Freer (stop kinds.Lone back) n = Unit {0}
Freer (stop Duplicate back) n = Unit {0}
Freer (stop Depth back) n = Unit {0}
Freer (stop Number back) n = Unit {0}

freer_cond : (b : Bool) (x y u v : Next) → Freer x u → Freer y v → Freer (cond b x y) (cond b u v)
freer_cond true x y u v h g = h
freer_cond false x y u v h g = g

-- a test of the limits
freer_limit : (a : Bool) (x y : Next) → ((u : Next) → Freer x u) → Freer y y → Freer (cond (true && a) x y) (cond (false && a) x y)
freer_limit true x y h g = h y
freer_limit false x y h g = g

after_freer : (d : Data) (st : List Frame) (c : ℕ) → Freer (in_after d st c) (in_after d st c)
unfolding in_after
after_freer d [] c = freer_cond (is_space c) _ _ _ _ refl (refl, refl)
after_freer d (in_list ds ∷ st) c = freer_cond (is_space c) _ _ _ _ refl (freer_cond (c == comma) _ _ _ _ refl (freer_cond (c == close_bracket) _ _ _ _ refl (refl, refl)))
after_freer d (in_dict ms k ∷ st) c = freer_cond (is_space c) _ _ _ _ refl (freer_cond (c == comma) _ _ _ _ refl (freer_cond (c == close_brace) _ _ _ _ refl (refl, refl)))

deepens_freer : (m : Mode) (st u : List Frame) → Freer (deepens true st (go m u)) (deepens false st (go m u))
unfolding deepens
deepens_freer m st u = freer_limit (nat_le max_depth (length st)) _ _ (λ n. tt) refl

closes_freer : (st : List Frame) → Freer (closes st) (closes st)
unfolding closes
closes_freer [] = (refl, refl)
closes_freer (in_list [] ∷ st) = refl
closes_freer (in_list (d ∷ ds) ∷ st) = (refl, refl)
closes_freer (in_dict ms k ∷ st) = (refl, refl)

judged_freer : (s : List ℕ) (st : List Frame) (c : ℕ) → Freer (in_judged true s st c) (in_judged false s st c)
unfolding in_judged
judged_freer s st c = freer_limit (is_over s) _ _ (λ u. tt) (after_freer (number s) st c)

chars_freer : (s : List ℕ) (st : List Frame) (n : Inside) → Freer (chars_next s st n) (chars_next s st n)
chars_freer s st (goes q t) = refl
chars_freer s st ends = refl
chars_freer s st breaks = (refl, refl)
chars_freer s st (lone back) = tt

key_chars_freer : (ms : Members) (o : ℕ) (s : List ℕ) (st : List Frame) (n : Inside) → Freer (key_chars_next true ms o s st n) (key_chars_next false ms o s st n)
key_chars_freer ms o s st (goes q t) = refl
key_chars_freer ms o s st ends = freer_limit (has_key s ms) _ _ (λ u. tt) refl
key_chars_freer ms o s st breaks = (refl, refl)
key_chars_freer ms o s st (lone back) = tt

grown_freer : (o : Option Part) (x y : Next) (s : List ℕ) (st : List Frame) (c : ℕ) → Freer x y → Freer (grown o x s st c) (grown o y s st c)
grown_freer None x y s st c h = h
grown_freer (Some p) x y s st c h = refl

pub step_freer : (m : Mode) (st : List Frame) (c : ℕ) → Freer (step true m st c) (step false m st c)
unfolding in_value in_word in_chars in_figure in_first in_key in_key_chars in_behind_key
step_freer value st c =
    freer_cond (is_space c) _ _ _ _ refl
    (freer_cond (c == quote) _ _ _ _ refl
    (freer_cond (c == open_bracket) _ _ _ _ (deepens_freer value st (in_list [] ∷ st))
    (freer_cond (c == open_brace) _ _ _ _ (deepens_freer first st st)
    (freer_cond (c == 110) _ _ _ _ refl (freer_cond (c == 116) _ _ _ _ refl (freer_cond (c == 102) _ _ _ _ refl (freer_cond (c == close_bracket) _ _ _ _ (closes_freer st) (grown_freer (next_part Start c) _ _ [] st c (refl, refl)))))))))
step_freer (word [] d) st c = (refl, refl)
step_freer (word (w ∷ []) d) st c = freer_cond (c == w) _ _ _ _ refl (refl, refl)
step_freer (word (w ∷ x ∷ ws) d) st c = freer_cond (c == w) _ _ _ _ refl (refl, refl)
step_freer (chars q s) st c = chars_freer s st (in_text q s c)
step_freer (figure p s) st c = grown_freer (next_part p c) _ _ s st c (freer_cond (may_end p) _ _ _ _ (judged_freer s st c) (refl, refl))
step_freer (after d) st c = after_freer d st c
step_freer first st c = freer_cond (is_space c) _ _ _ _ refl (freer_cond (c == quote) _ _ _ _ refl (freer_cond (c == close_brace) _ _ _ _ refl (refl, refl)))
step_freer (key ms) st c = freer_cond (is_space c) _ _ _ _ refl (freer_cond (c == quote) _ _ _ _ refl (refl, refl))
step_freer (key_chars ms n q s) st c = key_chars_freer ms n s st (in_text q s c)
step_freer (behind_key ms k) st c = freer_cond (is_space c) _ _ _ _ refl (freer_cond (c == colon) _ _ _ _ refl (refl, refl))

fault_of : (k l : Kind) (a b : ℕ) → failed k a ≡ failed l b → fault k a ≡ fault l b
fault_of k l a b e = cc

pub left_of : (k l : Kind) (a b : ℕ) → failed k a ≡ failed l b → a ≡ b
left_of k l a b e = ap (λ (f : Fault). f.left) (fault_of k l a b e)

pub kind_of : (k l : Kind) (a b : ℕ) → failed k a ≡ failed l b → k ≡ l
kind_of k l a b e = ap (λ (f : Fault). f.kind) (fault_of k l a b e)

-- where the end is a syntax fault, it is so without limits, and nothing is left
abbrev EndsFree : Result Data Fault → Result Data Fault → Type 0
EndsFree r o = (left : ℕ) → r ≡ failed Syntax left → (o ≡ failed Syntax left) × (left ≡ 0)

breaks_off : EndsFree (failed Syntax 0) (failed Syntax 0)
breaks_off left e = (e, sym (left_of Syntax Syntax 0 left e))

ended_free : (d : Data) (st : List Frame) → EndsFree (ended d st) (ended d st)
ended_free d [] left e = absurd cc
ended_free d (f ∷ st) left e = breaks_off left e

number_free : (x : Bool) (n : ℕ) (d : Data) (st : List Frame) → EndsFree (cond x (failed Number n) (ended d st)) (ended d st)
number_free true n d st left e = absurd (let k = kind_of Number Syntax n left e in cc)
number_free false n d st left e = ended_free d st left e

free_cond : (b : Bool) (r o u v : Result Data Fault) → EndsFree r o → EndsFree u v → EndsFree (cond b r u) (cond b o v)
free_cond true r o u v h g = h
free_cond false r o u v h g = g

finish_free : (m : Mode) (st : List Frame) → EndsFree (finish true m st) (finish false m st)
finish_free value st = breaks_off
finish_free (word ws d) st = breaks_off
finish_free (chars q s) st = breaks_off
finish_free (figure p s) st = free_cond (may_end p) _ _ _ _ (number_free (is_over s) (length s) (number s) st) breaks_off
finish_free (after d) st = ended_free d st
finish_free first st = breaks_off
finish_free (key ms) st = breaks_off
finish_free (key_chars ms n q s) st = breaks_off
finish_free (behind_key ms k) st = breaks_off

-- a syntax fault stands on the bytes that are left
freer_run : (f g : Mode → List Frame → Result Data Fault) (left back : ℕ) (n o : Next) → Freer n o → ((m : Mode) (st : List Frame) → f m st ≡ failed Syntax left → g m st ≡ failed Syntax left)
    → onward (judgement true) f back n ≡ failed Syntax left → onward (judgement false) g back o ≡ failed Syntax left
freer_run f g left back (go m st) o h same e = rw h (same m st e)
freer_run f g left back (stop Syntax k) o h same e = rw h.0 e
freer_run f g left back (stop kinds.Lone k) o h same e = absurd (let x = kind_of kinds.Lone Syntax (k + back) left e in cc)
freer_run f g left back (stop Duplicate k) o h same e = absurd (let x = kind_of Duplicate Syntax (k + back) left e in cc)
freer_run f g left back (stop Depth k) o h same e = absurd (let x = kind_of Depth Syntax (k + back) left e in cc)
freer_run f g left back (stop Number k) o h same e = absurd (let x = kind_of Number Syntax (k + back) left e in cc)

pub run_freer : (m : Mode) (st : List Frame) (b : List ℕ) (left : ℕ) → run true m st b ≡ failed Syntax left → run false m st b ≡ failed Syntax left
unfolding walk
run_freer m st [] left e = (finish_free m st left e).0
run_freer m st (c ∷ cs) left e =
    freer_run (λ (o : Mode) (u : List Frame). run true o u cs) (λ (o : Mode) (u : List Frame). run false o u cs) left (suc (length cs)) (step true m st c) (step false m st c) (step_freer m st c) (λ m' st' d. run_freer m' st' cs left d) e

abbrev SyntaxBack : Next → Type 0
SyntaxBack (go m st) = Unit {0}
SyntaxBack (stop Syntax back) = back ≡ 0
SyntaxBack (stop kinds.Lone back) = Unit {0}
SyntaxBack (stop Duplicate back) = Unit {0}
SyntaxBack (stop Depth back) = Unit {0}
SyntaxBack (stop Number back) = Unit {0}

syntax_here : (n o : Next) → Freer n o → SyntaxBack n
syntax_here (go m st) o h = tt
syntax_here (stop Syntax back) o h = h.1
syntax_here (stop kinds.Lone back) o h = tt
syntax_here (stop Duplicate back) o h = tt
syntax_here (stop Depth back) o h = tt
syntax_here (stop Number back) o h = tt

left_next : (f : Mode → List Frame → Result Data Fault) (left len : ℕ) (n : Next) → SyntaxBack n → ((m : Mode) (st : List Frame) → f m st ≡ failed Syntax left → left ≤ len)
    → onward (judgement true) f (suc len) n ≡ failed Syntax left → left ≤ suc len
left_next f left len (go m st) h later e = let le = later m st e in omega arith
left_next f left len (stop Syntax back) h later e = let same = left_of Syntax Syntax (back + suc len) left e in omega arith
left_next f left len (stop kinds.Lone back) h later e = absurd (let x = kind_of kinds.Lone Syntax (back + suc len) left e in cc)
left_next f left len (stop Duplicate back) h later e = absurd (let x = kind_of Duplicate Syntax (back + suc len) left e in cc)
left_next f left len (stop Depth back) h later e = absurd (let x = kind_of Depth Syntax (back + suc len) left e in cc)
left_next f left len (stop Number back) h later e = absurd (let x = kind_of Number Syntax (back + suc len) left e in cc)

left_le : (m : Mode) (st : List Frame) (b : List ℕ) (left : ℕ) → run true m st b ≡ failed Syntax left → left ≤ length b
unfolding walk
left_le m st [] left e = let z = (finish_free m st left e).1 in omega arith
left_le m st (c ∷ cs) left e =
    left_next (λ (o : Mode) (u : List Frame). run true o u cs) left (length cs) (step true m st c) (syntax_here (step true m st c) (step false m st c) (step_freer m st c)) (λ m' st' d. left_le m' st' cs left d) e

-- the fault is on this byte, so it is there with whatever follows
here_next : (f g : Mode → List Frame → Result Data Fault) (len more : ℕ) (n : Next) → SyntaxBack n → ((m : Mode) (st : List Frame) → f m st ≡ failed Syntax (suc len) → suc len ≤ len)
    → onward (judgement true) f (suc len) n ≡ failed Syntax (suc len) → onward (judgement true) g (suc more) n ≡ failed Syntax (suc more)
here_next f g len more (go m st) h later e = absurd (let le = later m st e in omega arith)
here_next f g len more (stop Syntax back) h later e = let same : back + suc more ≡ suc more = omega arith in ap (failed Syntax) same
here_next f g len more (stop kinds.Lone back) h later e = absurd (let x = kind_of kinds.Lone Syntax (back + suc len) (suc len) e in cc)
here_next f g len more (stop Duplicate back) h later e = absurd (let x = kind_of Duplicate Syntax (back + suc len) (suc len) e in cc)
here_next f g len more (stop Depth back) h later e = absurd (let x = kind_of Depth Syntax (back + suc len) (suc len) e in cc)
here_next f g len more (stop Number back) h later e = absurd (let x = kind_of Number Syntax (back + suc len) (suc len) e in cc)

-- the fault is on a later byte
later_next : (f g : Mode → List Frame → Result Data Fault) (far len more there : ℕ) (n : Next) → SyntaxBack n → len ≤ far → ((m : Mode) (st : List Frame) → f m st ≡ failed Syntax len → g m st ≡ failed Syntax more)
    → onward (judgement true) f (suc far) n ≡ failed Syntax len → onward (judgement true) g there n ≡ failed Syntax more
later_next f g far len more there (go m st) h lt later e = later m st e
later_next f g far len more there (stop Syntax back) h lt later e = absurd (let same = left_of Syntax Syntax (back + suc far) len e in omega arith)
later_next f g far len more there (stop kinds.Lone back) h lt later e = absurd (let x = kind_of kinds.Lone Syntax (back + suc far) len e in cc)
later_next f g far len more there (stop Duplicate back) h lt later e = absurd (let x = kind_of Duplicate Syntax (back + suc far) len e in cc)
later_next f g far len more there (stop Depth back) h lt later e = absurd (let x = kind_of Depth Syntax (back + suc far) len e in cc)
later_next f g far len more there (stop Number back) h lt later e = absurd (let x = kind_of Number Syntax (back + suc far) len e in cc)

pub run_local : (m : Mode) (st : List Frame) (pre : List ℕ) (c : ℕ) (post more : List ℕ) → run true m st (pre ++ c ∷ post) ≡ failed Syntax (suc (length post)) → run true m st (pre ++ c ∷ more) ≡ failed Syntax (suc (length more))
unfolding walk
run_local m st [] c post more e =
    here_next (λ (o : Mode) (u : List Frame). run true o u post) (λ (o : Mode) (u : List Frame). run true o u more) (length post) (length more) (step true m st c) (syntax_here (step true m st c) (step false m st c) (step_freer m st c)) (λ m' st' d. left_le m' st' post (suc (length post)) d) e
run_local m st (p ∷ pre) c post more e =
    later_next (λ (o : Mode) (u : List Frame). run true o u (pre ++ c ∷ post)) (λ (o : Mode) (u : List Frame). run true o u (pre ++ c ∷ more)) (length (pre ++ c ∷ post)) (suc (length post)) (suc (length more)) (suc (length (pre ++ c ∷ more))) (step true m st p)
    (syntax_here (step true m st p) (step false m st p) (step_freer m st p)) (let len = length-append pre (c ∷ post) in omega arith) (λ m' st' d. run_local m' st' pre c post more d) e

-- without limits each value is allowed
mutual
  pub all_allowed : (n : ℕ) (v : Data) → Allowed false n v
  all_allowed n null = tt
  all_allowed n (boolean b) = tt
  all_allowed n (number s) = refl
  all_allowed n (text s) = tt
  all_allowed n (list ds) = (refl, all_items (suc n) ds)
  all_allowed n (dict ms) = (refl, all_members (suc n) [] ms)

  pub all_items : (n : ℕ) (ds : Chain) → AllowedItems false n ds
  all_items n no_items = tt
  all_items n (item d ds) = (all_allowed n d, all_items n ds)

  pub all_members : (n : ℕ) (seen : Members) (ms : Pairs) → AllowedMembers false n seen ms
  all_members n seen no_members = tt
  all_members n seen (member k d ms) = (refl, (all_allowed n d, all_members n (seen ++ (k, d) ∷ []) ms))

no_text : (b : List ℕ) (left : ℕ) (v : Data) → run true value [] b ≡ failed Syntax left → IsText b v → ⊥
no_text b left v e h =
    let read = text_read false v b h (all_allowed 0 v) in
    let fails = run_freer value [] b left e in
    cc

dead_at : (pre post : List ℕ) → run true value [] (pre ++ post) ≡ failed Syntax (length post) → EndsAt pre post
dead_at pre [] e = λ v h. no_text (pre ++ []) 0 v e (subst (λ (b : List ℕ). IsText b v) (sym (append-nil pre)) h)
dead_at pre (c ∷ post) e = λ (more, v, h). no_text (pre ++ c ∷ more) (suc (length more)) v (run_local value [] pre c post more e) (subst (λ (b : List ℕ). IsText b v) (append_assoc pre (c ∷ []) more) h)

-- each fault that the machine answers is there
pub is_fault : (b : List ℕ) (f : Fault) → run true value [] b ≡ Err f → IsFault b f
is_fault b f e = of_kind f.kind f.left e (subst (Judged b) e (run_judged true value [] [] b tt))
  where
    of_kind : (kind : Kind) (left : ℕ) → run true value [] b ≡ failed kind left → JudgedAt b kind left → FaultAt b kind left
    of_kind Syntax left e h = record { pre = h.pre; post = h.post; parts = h.parts; left_is = h.left_is; alive = h.alive; dead = dead_at h.pre h.post (subst (λ (x : List ℕ). run true value [] x ≡ failed Syntax (length h.post)) h.parts (rw h.left_is e)) }
    of_kind kinds.Lone left e h = h
    of_kind Duplicate left e h = h
    of_kind Depth left e h = h
    of_kind Number left e h = h
