-- The reader's steps, as stretches of the machine's run.
use Rattle.std.proofs.Common.{◌≡◌, ℕ, zero, suc, ◌+◌, ◌≤◌, ◌<◌, Bool, true, false, cond, nat_le, ◌==◌, ◌||◌, ◌&&◌, List, [], ◌∷◌, ◌++◌, length, get_or, take, drop, eq-eqb, Result, Err, refl, sym, ap, subst, ◌∙◌, arith}
use Rattle.std.proofs.lemmas.List.{length-drop, get_or-drop}
use Rattle.std.proofs.lemmas.Bool.{or_parts}
use Rattle.asl_json_data.specs.Data.{Data, null, boolean, text, list, dict, chain, pairs}
use Rattle.asl_json_data.specs.Grammar.{colon, open_bracket, close_bracket, open_brace, close_brace, is_space, AreSpaces}
use Rattle.asl_json_data.specs.Parts.{comma}
use Rattle.asl_json_data.specs.Text.{quote, SpellsChars}
use Rattle.asl_json_scan.specs.private.Chars.{Within, bare, Inside, goes, ends, breaks, lone, in_text, Textual, closed, broken, text_onward, text_run}
use Rattle.asl_json_scan.proofs.Texts.{chars_reach, run_reach, run_step}
use Rattle.asl_json_scan.specs.private.Machine.{Mode, value, word, chars, after, first, key, key_chars, behind_key, Next, go, stop, grown, deepens, closes, in_value, in_word, chars_next, in_chars, in_after, in_first, in_key, key_chars_next, in_key_chars, in_behind_key, fault, failed, step, onward, walk, judgement, run}
use Rattle.asl_json_data.specs.private.NumberParts.{leading, next_part}
use Rattle.asl_json_data.specs.Distinct.{Members, has_key}
use Rattle.asl_json_data.specs.Limits.{max_depth}
use Rattle.asl_json_scan.specs.Open.{Frame, in_list, in_dict}
use Rattle.asl_json_data.specs.Number.{is_digit}
use Rattle.asl_json_scan.specs.private.Leads.{Fails, Breaks, NoSpaceFirst, begins, FirstIsNot, NotClosed, WantsValue, Skips}
use Rattle.asl_json_data.specs.declared.part.Part.TheVariants.{Start}
use Rattle.asl_json_scan.specs.declared.fault.Fault.{Fault}
use Rattle.asl_json_scan.specs.declared.fault.Stop.{Stop}
use Rattle.asl_json_scan.specs.declared.fault.Stop.TheVariants as stops
use Rattle.asl_json_scan.specs.declared.fault.Kind.{Kind}
use Rattle.asl_json_scan.specs.declared.fault.Kind.TheVariants.{Syntax, Duplicate, Depth}
use Rattle.asl_json_scan.proofs.Passing.{one, IsSpaced, spaces_pass, quote_pass, not_zero, no_items_pass, last_item_pass, next_item_pass}

-- a step that stops
pub halts : (lim : Bool) (m : Mode) (st : List Frame) (c : ℕ) (cs : List ℕ) (kind : Kind) (back : ℕ) → step lim m st c ≡ stop kind back → run lim m st (c ∷ cs) ≡ Err (fault kind (back + suc (length cs)))
unfolding walk
halts lim m st c cs kind back e = ap (onward (judgement lim) (λ (n : Mode) (u : List Frame). run lim n u cs) (suc (length cs))) e

pub halts_here : (lim : Bool) (m : Mode) (st : List Frame) (c : ℕ) (cs : List ℕ) → step lim m st c ≡ stop Syntax 0 → run lim m st (c ∷ cs) ≡ Err (fault Syntax (length (c ∷ cs)))
halts_here lim m st c cs e = let same : 0 + suc (length cs) ≡ suc (length cs) = omega arith in halts lim m st c cs Syntax 0 e ∙ ap (λ (n : ℕ). Err (fault Syntax n)) same

pub skip_run : (lim : Bool) (m : Mode) (st : List Frame) (bytes rest : List ℕ) → IsSpaced m → Skips bytes rest → run lim m st bytes ≡ run lim m st rest
skip_run lim m st bytes rest spaced h = ap (run lim m st) h.parts ∙ spaces_pass (judgement lim) lim m st h.spaces rest spaced h.spaces_are

-- ---- within a text

-- what becomes of a text that is a value
abbrev pub chars_end : Bool → List Frame → Textual → Result Data Fault
chars_end lim st (closed s rest) = run lim (after (text s)) st rest
chars_end lim st (broken f) = Err f

chars_further : (lim : Bool) (s : List ℕ) (st : List Frame) (cs : List ℕ) (n : Inside) → ((q : Within) (x : List ℕ) → run lim (chars q x) st cs ≡ chars_end lim st (text_run q x cs))
    → onward (judgement lim) (λ m u. run lim m u cs) (suc (length cs)) (chars_next s st n) ≡ chars_end lim st (text_onward (λ q x. text_run q x cs) s cs n)
chars_further lim s st cs (goes q x) h = h q x
chars_further lim s st cs ends h = refl
chars_further lim s st cs breaks h = let same : 0 + suc (length cs) ≡ suc (length cs) = omega arith in ap (failed Syntax) same
chars_further lim s st cs (lone back) h = refl

pub chars_run : (lim : Bool) (q : Within) (s : List ℕ) (st : List Frame) (bytes : List ℕ) → run lim (chars q s) st bytes ≡ chars_end lim st (text_run q s bytes)
unfolding walk text_run in_chars
chars_run lim q s st [] = refl
chars_run lim q s st (c ∷ cs) = chars_further lim s st cs (in_text q s c) (λ q' x. chars_run lim q' x st cs)

-- what becomes of a key behind these members, with so many bytes from its opening quote on
abbrev pub key_end : Bool → Members → ℕ → List Frame → Textual → Result Data Fault
key_end lim ms n st (closed s rest) = cond (lim && has_key s ms) (failed Duplicate n) (run lim (behind_key ms s) st rest)
key_end lim ms n st (broken f) = Err f

key_decided : (lim : Bool) (ms : Members) (o : ℕ) (s : List ℕ) (st : List Frame) (cs : List ℕ) (b : Bool)
    → onward (judgement lim) (λ m u. run lim m u cs) (suc (length cs)) (cond b (stop Duplicate o) (go (behind_key ms s) st)) ≡ cond b (failed Duplicate (o + suc (length cs))) (run lim (behind_key ms s) st cs)
key_decided lim ms o s st cs true = refl
key_decided lim ms o s st cs false = refl

key_further : (lim : Bool) (ms : Members) (o : ℕ) (s : List ℕ) (st : List Frame) (cs : List ℕ) (n : Inside) → ((q : Within) (x : List ℕ) → run lim (key_chars ms (suc o) q x) st cs ≡ key_end lim ms (suc o + length cs) st (text_run q x cs))
    → onward (judgement lim) (λ m u. run lim m u cs) (suc (length cs)) (key_chars_next lim ms o s st n) ≡ key_end lim ms (o + suc (length cs)) st (text_onward (λ q x. text_run q x cs) s cs n)
key_further lim ms o s st cs (goes q x) h = let count : suc o + length cs ≡ o + suc (length cs) = omega arith in h q x ∙ ap (λ (n : ℕ). key_end lim ms n st (text_run q x cs)) count
key_further lim ms o s st cs ends h = key_decided lim ms o s st cs (lim && has_key s ms)
key_further lim ms o s st cs breaks h = let same : 0 + suc (length cs) ≡ suc (length cs) = omega arith in ap (failed Syntax) same
key_further lim ms o s st cs (lone back) h = refl

pub key_run : (lim : Bool) (ms : Members) (o : ℕ) (q : Within) (s : List ℕ) (st : List Frame) (bytes : List ℕ) → run lim (key_chars ms o q s) st bytes ≡ key_end lim ms (o + length bytes) st (text_run q s bytes)
unfolding walk text_run in_key_chars
key_run lim ms o q s st [] = refl
key_run lim ms o q s st (c ∷ cs) = key_further lim ms o s st cs (in_text q s c) (λ q' x. key_run lim ms (suc o) q' x st cs)

-- a key that its object has already
pub key_again : (ms : Members) (o : ℕ) (s u rest : List ℕ) (st : List Frame) → SpellsChars s u → has_key s ms ≡ true → run true (key_chars ms o bare []) st (u ++ quote ∷ rest) ≡ Err (fault Duplicate (o + length (u ++ quote ∷ rest)))
unfolding in_text
key_again ms o s u rest st h known =
    let text : text_run bare [] (u ++ quote ∷ rest) ≡ closed s rest = run_reach bare [] u (quote ∷ rest) bare s (chars_reach [] s u h) ∙ run_step bare s quote rest ends refl in
    key_run true ms o bare [] st (u ++ quote ∷ rest) ∙ ap (key_end true ms (o + length (u ++ quote ∷ rest)) st) text ∙ rw known refl

-- ---- a key

key_opens : (ms : Members) (st : List Frame) (inside : List ℕ) → run true (key ms) st (quote ∷ inside) ≡ run true (key_chars ms 1 bare []) st inside
unfolding in_key is_space
key_opens ms st inside = one (judgement true) true (key ms) st quote inside (key_chars ms 1 bare []) st refl

key_halts : (ms : Members) (st : List Frame) (xs : List ℕ) → NoSpaceFirst xs → FirstIsNot quote xs → run true (key ms) st xs ≡ Err (fault Syntax (length xs))
unfolding walk in_key
key_halts ms st [] s f = refl
key_halts ms st (c ∷ xs) s f = halts_here true (key ms) st c xs (rw (s, f) refl)

pub key_no_quote : (ms : Members) (st : List Frame) (bytes rest : List ℕ) → Skips bytes rest → FirstIsNot quote rest → run true (key ms) st bytes ≡ Err (fault Syntax (length rest))
key_no_quote ms st bytes rest h f = skip_run true (key ms) st bytes rest tt h ∙ key_halts ms st rest h.stops f

key_text : (ms : Members) (st : List Frame) (bytes rest inside : List ℕ) → Skips bytes rest → rest ≡ quote ∷ inside → run true (key ms) st bytes ≡ key_end true ms (1 + length inside) st (text_run bare [] inside)
key_text ms st bytes rest inside h e = skip_run true (key ms) st bytes rest tt h ∙ ap (run true (key ms) st) e ∙ key_opens ms st inside ∙ key_run true ms 1 bare [] st inside

pub key_known : (ms : Members) (st : List Frame) (bytes rest inside s behind : List ℕ) → Skips bytes rest → rest ≡ quote ∷ inside → text_run bare [] inside ≡ closed s behind → has_key s ms ≡ true → run true (key ms) st bytes ≡ Err (fault Duplicate (length rest))
key_known ms st bytes rest inside s behind h e t known =
    let count : 1 + length inside ≡ length rest = omega (arith, ap length e) in
    key_text ms st bytes rest inside h e ∙ ap (key_end true ms (1 + length inside) st) t ∙ rw (known, count) refl

key_ended : (ms : Members) (st : List Frame) (bytes rest inside s behind next : List ℕ) → Skips bytes rest → rest ≡ quote ∷ inside → text_run bare [] inside ≡ closed s behind → has_key s ms ≡ false → Skips behind next
    → run true (key ms) st bytes ≡ run true (behind_key ms s) st next
key_ended ms st bytes rest inside s behind next h e t new g =
    key_text ms st bytes rest inside h e ∙ ap (key_end true ms (1 + length inside) st) t ∙ rw new refl ∙ skip_run true (behind_key ms s) st behind next tt g

behind_key_halts : (ms : Members) (s : List ℕ) (st : List Frame) (xs : List ℕ) → NoSpaceFirst xs → FirstIsNot colon xs → run true (behind_key ms s) st xs ≡ Err (fault Syntax (length xs))
unfolding walk in_behind_key
behind_key_halts ms s st [] n f = refl
behind_key_halts ms s st (c ∷ xs) n f = halts_here true (behind_key ms s) st c xs (rw (n, f) refl)

pub key_no_colon : (ms : Members) (st : List Frame) (bytes rest inside s behind next : List ℕ) → Skips bytes rest → rest ≡ quote ∷ inside → text_run bare [] inside ≡ closed s behind → has_key s ms ≡ false → Skips behind next → FirstIsNot colon next
    → run true (key ms) st bytes ≡ Err (fault Syntax (length next))
key_no_colon ms st bytes rest inside s behind next h e t new g f = key_ended ms st bytes rest inside s behind next h e t new g ∙ behind_key_halts ms s st next g.stops f

pub key_read : (ms : Members) (st : List Frame) (bytes rest inside s behind next value_at : List ℕ) → Skips bytes rest → rest ≡ quote ∷ inside → text_run bare [] inside ≡ closed s behind → has_key s ms ≡ false → Skips behind next → next ≡ colon ∷ value_at
    → run true (key ms) st bytes ≡ run true value (in_dict ms s ∷ st) value_at
unfolding in_behind_key is_space
key_read ms st bytes rest inside s behind next value_at h e t new g f =
    key_ended ms st bytes rest inside s behind next h e t new g ∙ ap (run true (behind_key ms s) st) f ∙ one (judgement true) true (behind_key ms s) st colon value_at value (in_dict ms s ∷ st) refl

pub key_fails : (ms : Members) (st : List Frame) (bytes rest inside : List ℕ) (e : Stop) → Skips bytes rest → rest ≡ quote ∷ inside → Breaks e (text_run bare [] inside) → Fails e (run true (key ms) st bytes)
key_fails ms st bytes rest inside stops.Memory h e b = tt
key_fails ms st bytes rest inside (stops.Fault f) h e b = key_text ms st bytes rest inside h e ∙ ap (key_end true ms (1 + length inside) st) b

-- ---- a value

text_read : (st : List Frame) (bytes rest inside : List ℕ) → Skips bytes rest → rest ≡ quote ∷ inside → run true value st bytes ≡ chars_end true st (text_run bare [] inside)
text_read st bytes rest inside h e = skip_run true value st bytes rest tt h ∙ ap (run true value st) e ∙ quote_pass (judgement true) true st inside ∙ chars_run true bare [] st inside

pub text_fails : (st : List Frame) (bytes rest inside : List ℕ) (e : Stop) → Skips bytes rest → rest ≡ quote ∷ inside → Breaks e (text_run bare [] inside) → Fails e (run true value st bytes)
text_fails st bytes rest inside stops.Memory h e b = tt
text_fails st bytes rest inside (stops.Fault f) h e b = text_read st bytes rest inside h e ∙ ap (chars_end true st) b

pub text_reads : (st : List Frame) (bytes rest inside s behind : List ℕ) → Skips bytes rest → rest ≡ quote ∷ inside → text_run bare [] inside ≡ closed s behind → run true value st bytes ≡ run true (after (text s)) st behind
text_reads st bytes rest inside s behind h e t = text_read st bytes rest inside h e ∙ ap (chars_end true st) t

too_deep : (st : List Frame) (c : ℕ) (bytes rest inside : List ℕ) → Skips bytes rest → rest ≡ c ∷ inside → step true value st c ≡ stop Depth 0 → run true value st bytes ≡ Err (fault Depth (length rest))
too_deep st c bytes rest inside h e stops =
    let count : 0 + suc (length inside) ≡ length rest = omega (arith, ap length e) in
    skip_run true value st bytes rest tt h ∙ ap (run true value st) e ∙ halts true value st c inside Depth 0 stops ∙ ap (λ (n : ℕ). Err (fault Depth n)) count

pub bracket_deep : (st : List Frame) (bytes rest inside : List ℕ) (levels : ℕ) → Skips bytes rest → rest ≡ open_bracket ∷ inside → levels ≡ 0 → length st + levels ≡ max_depth → run true value st bytes ≡ Err (fault Depth (length rest))
unfolding in_value deepens is_space
bracket_deep st bytes rest inside levels h e z d =
    let full : nat_le max_depth (length st) ≡ true = grind (arith, z, d) in
    too_deep st open_bracket bytes rest inside h e (rw full refl)

pub bracket_reads : (st : List Frame) (bytes rest inside : List ℕ) (levels : ℕ) → Skips bytes rest → rest ≡ open_bracket ∷ inside → (levels ≡ 0 → ⊥) → length st + levels ≡ max_depth → run true value st bytes ≡ run true value (in_list [] ∷ st) inside
unfolding in_value deepens is_space
bracket_reads st bytes rest inside levels h e z d =
    let room : nat_le max_depth (length st) ≡ false = grind (arith, z, d) in
    skip_run true value st bytes rest tt h ∙ ap (run true value st) e ∙ one (judgement true) true value st open_bracket inside value (in_list [] ∷ st) (rw room refl)

pub brace_deep : (st : List Frame) (bytes rest inside : List ℕ) (levels : ℕ) → Skips bytes rest → rest ≡ open_brace ∷ inside → levels ≡ 0 → length st + levels ≡ max_depth → run true value st bytes ≡ Err (fault Depth (length rest))
unfolding in_value deepens is_space
brace_deep st bytes rest inside levels h e z d =
    let full : nat_le max_depth (length st) ≡ true = grind (arith, z, d) in
    too_deep st open_brace bytes rest inside h e (rw full refl)

pub brace_reads : (st : List Frame) (bytes rest inside : List ℕ) (levels : ℕ) → Skips bytes rest → rest ≡ open_brace ∷ inside → (levels ≡ 0 → ⊥) → length st + levels ≡ max_depth → run true value st bytes ≡ run true first st inside
unfolding in_value deepens is_space
brace_reads st bytes rest inside levels h e z d =
    let room : nat_le max_depth (length st) ≡ false = grind (arith, z, d) in
    skip_run true value st bytes rest tt h ∙ ap (run true value st) e ∙ one (judgement true) true value st open_brace inside first st (rw room refl)

either : {n : Next} (b : Bool) → n ≡ stop Syntax 0 → cond b (stop Syntax 0) n ≡ stop Syntax 0
either true e = refl
either false e = e

no_number : (x : ℕ) (st : List Frame) → (x == 45) ≡ false → is_digit x ≡ false → grown (next_part Start x) (stop Syntax 0) [] st x ≡ stop Syntax 0
unfolding next_part leading
no_number x st m n = rw (m, not_zero x n, n) refl

-- a closing bracket where no list without items ends
no_end : (st : List Frame) (x : ℕ) (xs : List ℕ) → NotClosed st (x ∷ xs) → (x == 45) ≡ false → is_digit x ≡ false → cond (x == close_bracket) (closes st) (grown (next_part Start x) (stop Syntax 0) [] st x) ≡ stop Syntax 0
unfolding closes
no_end [] x xs h m n = either (x == close_bracket) (no_number x [] m n)
no_end (in_list [] ∷ st) x xs h m n = rw h (no_number x (in_list [] ∷ st) m n)
no_end (in_list (d ∷ ds) ∷ st) x xs h m n = either (x == close_bracket) (no_number x (in_list (d ∷ ds) ∷ st) m n)
no_end (in_dict ms k ∷ st) x xs h m n = either (x == close_bracket) (no_number x (in_dict ms k ∷ st) m n)

pub value_halts : (st : List Frame) (xs : List ℕ) → NoSpaceFirst xs → FirstIsNot quote xs → FirstIsNot open_bracket xs → FirstIsNot open_brace xs → begins xs ≡ false → NotClosed st xs → FirstIsNot 110 xs → FirstIsNot 116 xs → FirstIsNot 102 xs → run true value st xs ≡ Err (fault Syntax (length xs))
unfolding walk in_value
value_halts st [] s a l b n w c d e = refl
value_halts st (x ∷ xs) s a l b n w c d e =
    let none = or_parts (x == 45) (is_digit x) n in
    halts_here true value st x xs (rw (s, a, l, b, c, d, e) (no_end st x xs w none.0 none.1))

-- ---- a word

pub word_goes : (ws bytes : List ℕ) (i : ℕ) (d : Data) (st : List Frame) → i < length ws → i ≤ length bytes → take i bytes ≡ take i ws → run true (word ws d) st bytes ≡ run true (word (drop i ws) d) st (drop i bytes)
unfolding in_word
word_goes ws bytes zero d st lt le e = refl
word_goes [] bytes (suc i) d st lt le e = absurd (omega arith)
word_goes (w ∷ ws) [] (suc i) d st lt le e = absurd (omega arith)
word_goes (w ∷ []) (b ∷ bytes) (suc i) d st lt le e = absurd (omega arith)
word_goes (w ∷ x ∷ ws) (b ∷ bytes) (suc i) d st lt le e =
    let same : (b == w) ≡ true = eq-eqb b w (let h : b ≡ w = cc in h) in
    let more : take i bytes ≡ take i (x ∷ ws) = cc in
    one (judgement true) true (word (w ∷ x ∷ ws) d) st b bytes (word (x ∷ ws) d) st (rw same refl) ∙ word_goes (x ∷ ws) bytes i d st (omega arith) (omega arith) more

pub word_ends : (ws bytes : List ℕ) (d : Data) (st : List Frame) → 0 < length ws → length ws ≤ length bytes → take (length ws) bytes ≡ ws → run true (word ws d) st bytes ≡ run true (after d) st (drop (length ws) bytes)
unfolding in_word
word_ends [] bytes d st lt le e = absurd (omega arith)
word_ends (w ∷ ws) [] d st lt le e = absurd (omega arith)
word_ends (w ∷ []) (b ∷ bytes) d st lt le e =
    let same : (b == w) ≡ true = eq-eqb b w (let h : b ≡ w = cc in h) in
    one (judgement true) true (word (w ∷ []) d) st b bytes (after d) st (rw same refl)
word_ends (w ∷ x ∷ ws) (b ∷ bytes) d st lt le e =
    let same : (b == w) ≡ true = eq-eqb b w (let h : b ≡ w = cc in h) in
    let more : take (length (x ∷ ws)) bytes ≡ x ∷ ws = cc in
    one (judgement true) true (word (w ∷ x ∷ ws) d) st b bytes (word (x ∷ ws) d) st (rw same refl) ∙ word_ends (x ∷ ws) bytes d st (omega arith) (omega arith) more

word_halts : (ws bytes : List ℕ) (d : Data) (st : List Frame) → 0 < length ws → (0 < length bytes → (get_or bytes 0 0 == get_or ws 0 0) ≡ false) → run true (word ws d) st bytes ≡ Err (fault Syntax (length bytes))
unfolding walk in_word
word_halts [] bytes d st lt h = absurd (omega arith)
word_halts (w ∷ ws) [] d st lt h = refl
word_halts (w ∷ []) (b ∷ bytes) d st lt h = halts_here true (word (w ∷ []) d) st b bytes (rw (h (omega arith)) refl)
word_halts (w ∷ x ∷ ws) (b ∷ bytes) d st lt h = halts_here true (word (w ∷ x ∷ ws) d) st b bytes (rw (h (omega arith)) refl)

pub word_breaks : (ws bytes : List ℕ) (i : ℕ) (d : Data) (st : List Frame) → i < length ws → i ≤ length bytes → take i bytes ≡ take i ws → (i < length bytes → (get_or bytes i 0 == get_or ws i 0) ≡ false)
    → run true (word ws d) st bytes ≡ Err (fault Syntax (length (drop i bytes)))
word_breaks ws bytes i d st lt le e h =
    word_goes ws bytes i d st lt le e ∙ word_halts (drop i ws) (drop i bytes) d st (omega (arith, length-drop i ws)) (λ p. rw (get_or-drop, get_or-drop) (let same : i + 0 ≡ i = omega arith in rw same (h (omega (arith, length-drop i bytes, p)))))

pub fails_along : (e : Stop) (r s : Result Data Fault) → r ≡ s → Fails e s → Fails e r
fails_along stops.Memory r s same f = tt
fails_along (stops.Fault g) r s same f = same ∙ f

pub null_begins : (st : List Frame) (bytes inside : List ℕ) → bytes ≡ 110 ∷ inside → run true value st bytes ≡ run true (word (117 ∷ 108 ∷ 108 ∷ []) null) st inside
unfolding in_value is_space
null_begins st bytes inside e = ap (run true value st) e ∙ one (judgement true) true value st 110 inside (word (117 ∷ 108 ∷ 108 ∷ []) null) st refl

pub true_begins : (st : List Frame) (bytes inside : List ℕ) → bytes ≡ 116 ∷ inside → run true value st bytes ≡ run true (word (114 ∷ 117 ∷ 101 ∷ []) (boolean true)) st inside
unfolding in_value is_space
true_begins st bytes inside e = ap (run true value st) e ∙ one (judgement true) true value st 116 inside (word (114 ∷ 117 ∷ 101 ∷ []) (boolean true)) st refl

pub false_begins : (st : List Frame) (bytes inside : List ℕ) → bytes ≡ 102 ∷ inside → run true value st bytes ≡ run true (word (97 ∷ 108 ∷ 115 ∷ 101 ∷ []) (boolean false)) st inside
unfolding in_value is_space
false_begins st bytes inside e = ap (run true value st) e ∙ one (judgement true) true value st 102 inside (word (97 ∷ 108 ∷ 115 ∷ 101 ∷ []) (boolean false)) st refl

-- ---- items

skips_nothing : (bytes rest : List ℕ) → NoSpaceFirst bytes → Skips bytes rest → rest ≡ bytes
skips_nothing bytes rest n h = none h.spaces h.spaces_are h.parts
  where
    none : (ws : List ℕ) → AreSpaces ws → bytes ≡ ws ++ rest → rest ≡ bytes
    none [] a e = sym e
    none (w ∷ ws) a e = absurd (let c : NoSpaceFirst (w ∷ (ws ++ rest)) = subst NoSpaceFirst e n in let yes = a.0 in cc)

-- behind the spaces of a list without items stands no closing bracket
pub first_item : (st : List Frame) (bytes rest : List ℕ) → Skips bytes rest → FirstIsNot close_bracket rest → (run true value (in_list [] ∷ st) bytes ≡ run true value (in_list [] ∷ st) rest) × WantsValue (in_list [] ∷ st) rest
first_item st bytes rest h f = (skip_run true value (in_list [] ∷ st) bytes rest tt h, λ more g. subst (FirstIsNot close_bracket) (sym (skips_nothing rest more h.stops g)) f)

pub no_items : (st : List Frame) (bytes rest behind : List ℕ) → Skips bytes rest → rest ≡ close_bracket ∷ behind → run true value (in_list [] ∷ st) bytes ≡ run true (after (list (chain []))) st behind
no_items st bytes rest behind h e = skip_run true value (in_list [] ∷ st) bytes rest tt h ∙ ap (run true value (in_list [] ∷ st)) e ∙ no_items_pass (judgement true) true st behind

pub last_item : (ds : List Data) (d : Data) (st : List Frame) (bytes rest behind : List ℕ) → Skips bytes rest → rest ≡ close_bracket ∷ behind → run true (after d) (in_list ds ∷ st) bytes ≡ run true (after (list (chain (ds ++ d ∷ [])))) st behind
last_item ds d st bytes rest behind h e = skip_run true (after d) (in_list ds ∷ st) bytes rest tt h ∙ ap (run true (after d) (in_list ds ∷ st)) e ∙ last_item_pass (judgement true) true ds d st behind

pub next_item : (ds : List Data) (d : Data) (st : List Frame) (bytes rest behind : List ℕ) → Skips bytes rest → rest ≡ comma ∷ behind → run true (after d) (in_list ds ∷ st) bytes ≡ run true value (in_list (ds ++ d ∷ []) ∷ st) behind
next_item ds d st bytes rest behind h e = skip_run true (after d) (in_list ds ∷ st) bytes rest tt h ∙ ap (run true (after d) (in_list ds ∷ st)) e ∙ next_item_pass (judgement true) true ds d st behind

item_stops : (ds : List Data) (d : Data) (st : List Frame) (xs : List ℕ) → NoSpaceFirst xs → FirstIsNot close_bracket xs → FirstIsNot comma xs → run true (after d) (in_list ds ∷ st) xs ≡ Err (fault Syntax (length xs))
unfolding walk in_after
item_stops ds d st [] n f g = refl
item_stops ds d st (c ∷ xs) n f g = halts_here true (after d) (in_list ds ∷ st) c xs (rw (n, g, f) refl)

pub item_halts : (ds : List Data) (d : Data) (st : List Frame) (bytes rest : List ℕ) → Skips bytes rest → FirstIsNot close_bracket rest → FirstIsNot comma rest → run true (after d) (in_list ds ∷ st) bytes ≡ Err (fault Syntax (length rest))
item_halts ds d st bytes rest h f g = skip_run true (after d) (in_list ds ∷ st) bytes rest tt h ∙ item_stops ds d st rest h.stops f g

-- behind an item another one is wanted, not the end
pub wants_more : (ds : List Data) (d : Data) (st : List Frame) (bytes : List ℕ) → WantsValue (in_list (ds ++ d ∷ []) ∷ st) bytes
wants_more [] d st bytes rest h = tt
wants_more (e ∷ ds) d st bytes rest h = tt

-- ---- members

first_as_key : (st : List Frame) (xs : List ℕ) → NoSpaceFirst xs → FirstIsNot close_brace xs → run true first st xs ≡ run true (key []) st xs
unfolding walk in_first in_key
first_as_key st [] n f = refl
first_as_key st (c ∷ xs) n f = rw (n, f) refl

pub first_key : (st : List Frame) (bytes rest : List ℕ) → Skips bytes rest → FirstIsNot close_brace rest → run true first st bytes ≡ run true (key []) st rest
first_key st bytes rest h f = skip_run true first st bytes rest tt h ∙ first_as_key st rest h.stops f

pub first_closes : (st : List Frame) (bytes rest behind : List ℕ) → Skips bytes rest → rest ≡ close_brace ∷ behind → run true first st bytes ≡ run true (after (dict (pairs []))) st behind
unfolding in_first is_space
first_closes st bytes rest behind h e = skip_run true first st bytes rest tt h ∙ ap (run true first st) e ∙ one (judgement true) true first st close_brace behind (after (dict (pairs []))) st refl

pub after_closes : (ms : Members) (k : List ℕ) (d : Data) (st : List Frame) (bytes rest behind : List ℕ) → Skips bytes rest → rest ≡ close_brace ∷ behind → run true (after d) (in_dict ms k ∷ st) bytes ≡ run true (after (dict (pairs (ms ++ (k, d) ∷ [])))) st behind
unfolding in_after is_space
after_closes ms k d st bytes rest behind h e = skip_run true (after d) (in_dict ms k ∷ st) bytes rest tt h ∙ ap (run true (after d) (in_dict ms k ∷ st)) e ∙ one (judgement true) true (after d) (in_dict ms k ∷ st) close_brace behind (after (dict (pairs (ms ++ (k, d) ∷ [])))) st refl

pub after_goes_on : (ms : Members) (k : List ℕ) (d : Data) (st : List Frame) (bytes rest behind : List ℕ) → Skips bytes rest → rest ≡ comma ∷ behind → run true (after d) (in_dict ms k ∷ st) bytes ≡ run true (key (ms ++ (k, d) ∷ [])) st behind
unfolding in_after is_space
after_goes_on ms k d st bytes rest behind h e = skip_run true (after d) (in_dict ms k ∷ st) bytes rest tt h ∙ ap (run true (after d) (in_dict ms k ∷ st)) e ∙ one (judgement true) true (after d) (in_dict ms k ∷ st) comma behind (key (ms ++ (k, d) ∷ [])) st refl

after_stops : (ms : Members) (k : List ℕ) (d : Data) (st : List Frame) (xs : List ℕ) → NoSpaceFirst xs → FirstIsNot close_brace xs → FirstIsNot comma xs → run true (after d) (in_dict ms k ∷ st) xs ≡ Err (fault Syntax (length xs))
unfolding walk in_after
after_stops ms k d st [] n f g = refl
after_stops ms k d st (c ∷ xs) n f g = halts_here true (after d) (in_dict ms k ∷ st) c xs (rw (n, g, f) refl)

pub after_halts : (ms : Members) (k : List ℕ) (d : Data) (st : List Frame) (bytes rest : List ℕ) → Skips bytes rest → FirstIsNot close_brace rest → FirstIsNot comma rest → run true (after d) (in_dict ms k ∷ st) bytes ≡ Err (fault Syntax (length rest))
after_halts ms k d st bytes rest h f g = skip_run true (after d) (in_dict ms k ∷ st) bytes rest tt h ∙ after_stops ms k d st rest h.stops f g
