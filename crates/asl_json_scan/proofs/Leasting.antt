-- No fault of a text comes before the one that the machine answers.
use Rattle.std.proofs.Common.{◌≡◌, ℕ, suc, ◌+◌, ◌≤◌, ◌<◌, true, false, nat_le, List, [], ◌∷◌, ◌++◌, length, Result, Ok, Err, refl, sym, ap, subst, ◌∙◌, append_assoc, arith, ◌⊎◌, inl, inr, Bool, ◌==◌, ◌||◌}
use Rattle.std.proofs.lemmas.List.{append-nil, length-append}
use Rattle.std.proofs.lemmas.Bool.{cases_lt, eqb-true}
use Rattle.asl_json_data.specs.Data.{Data, number}
use Rattle.asl_json_data.specs.Distinct.{Members, has_key}
use Rattle.asl_json_data.specs.Grammar.{open_bracket, open_brace, is_space, IsText, IsPrefix}
use Rattle.asl_json_data.specs.Text.{quote, backslash, letter_u, quad, SpellsChars, Lone, low, high, high_letter, high_first, high_second, lone_spelled}
use Rattle.asl_json_scan.specs.private.Chars.{bare, slash, in_text, broken, text_run}
use Rattle.asl_json_scan.proofs.Texts.{OpenText, chars_reach, run_lone}
use Rattle.asl_json_data.specs.Limits.{max_depth}
use Rattle.asl_json_scan.specs.private.Machine.{Mode, value, chars, after, first, key, key_chars, Next, go, stop, deepens, in_value, in_chars, in_key, in_key_chars, fault, failed, step, onward, walk, judgement, run, reach}
use Rattle.asl_json_data.specs.Number.{IsNumeral}
use Rattle.asl_json_scan.specs.Open.{Frame, in_list, IsOpen, opens, EndsAt, SyntaxAt, DepthAt, IsInString, LoneAt, DuplicateAt, NumberAt, FaultAt, AwaitsKey}
use Rattle.asl_json_scan.specs.declared.fault.Fault.{Fault}
use Rattle.asl_json_scan.specs.declared.fault.Kind.{Kind}
use Rattle.asl_json_scan.specs.declared.fault.Kind.TheVariants.{Syntax, Duplicate, Depth, Number}
use Rattle.asl_json_scan.specs.declared.fault.Kind.TheVariants as kinds
use Rattle.asl_json_data.proofs.Numerals.{numeral_some}
use Rattle.asl_json_scan.proofs.Stretches.{halts, chars_end, chars_run, key_end, key_run, key_again}
use Rattle.asl_json_scan.proofs.Passing.{one, quote_pass, chars_go, key_chars_go}
use Rattle.asl_json_scan.proofs.Reaching.{step_reaches}
use Rattle.asl_json_scan.proofs.JudgingLemmas.{Freer, step_freer, left_of, kind_of, is_fault, shorter_front, reached_lives}
use Rattle.asl_json_scan.proofs.Documents.{reads_of}
use Rattle.asl_json_scan.proofs.Numbers.{number_over}
use Rattle.asl_json_scan.proofs.Arriving.{state, asking, asking_asks, open_pass, awaits_pass}

-- what is reached with limits is reached without
next_free : (f g : Mode → List Frame → Next) (left : ℕ) (n o : Next) (m' : Mode) (st' : List Frame) → Freer n o → ((m : Mode) (st : List Frame) → f m st ≡ go m' st' → g m st ≡ go m' st') → onward state f left n ≡ go m' st' → onward state g left o ≡ go m' st'
next_free f g left (go m st) o m' st' h later e = rw h (later m st e)
next_free f g left (stop kind back) o m' st' h later e = absurd cc

reach_free : (m : Mode) (st : List Frame) (b : List ℕ) (m' : Mode) (st' : List Frame) → reach true m st b ≡ go m' st' → reach false m st b ≡ go m' st'
unfolding walk
reach_free m st [] m' st' e = e
reach_free m st (c ∷ cs) m' st' e =
    next_free (λ (o : Mode) (u : List Frame). reach true o u cs) (λ (o : Mode) (u : List Frame). reach false o u cs) (suc (length cs)) (step true m st c) (step false m st c) m' st' (step_freer m st c) (λ o u d. reach_free o u cs m' st' d) e

-- either the machine goes over a front, or it stops within
abbrev Over : List ℕ → Next → Result Data Fault → Type 0
Over rest (go m st) r = r ≡ run true m st rest
Over rest (stop kind left) r = (r ≡ failed kind (left + length rest)) × (0 < left)

next_over : (rest cs : List ℕ) (n : Next) → ((m : Mode) (st : List Frame) → Over rest (reach true m st cs) (run true m st (cs ++ rest)))
    → Over rest (onward state (λ (o : Mode) (u : List Frame). reach true o u cs) (suc (length cs)) n) (onward (judgement true) (λ (o : Mode) (u : List Frame). run true o u (cs ++ rest)) (suc (length (cs ++ rest))) n)
next_over rest cs (go m st) later = later m st
next_over rest cs (stop kind back) later =
    let same : back + suc (length (cs ++ rest)) ≡ (back + suc (length cs)) + length rest = omega (arith, length-append cs rest) in
    (ap (failed kind) same, omega arith)

run_over : (m : Mode) (st : List Frame) (b rest : List ℕ) → Over rest (reach true m st b) (run true m st (b ++ rest))
unfolding walk
run_over m st [] rest = refl
run_over m st (c ∷ cs) rest = next_over rest cs (step true m st c) (λ o u. run_over o u cs rest)

go_is : (m n : Mode) (st u : List Frame) → go m st ≡ go n u → (m ≡ n) × (st ≡ u)
go_is m n st u e = (cc, cc)

-- a fault of this kind with so many left doesn't come before the other one, and at its place it is of its kind
abbrev pub NotBefore : Kind → ℕ → Kind → ℕ → Type 0
NotBefore kind there k left = (there ≤ left) × (there ≡ left → kind ≡ k)

-- where the machine would stop at the rest, it has stopped there or before
stops_by : (pre rest : List ℕ) (m : Mode) (st : List Frame) (kind k : Kind) (left : ℕ) (n : Next) → reach false value [] pre ≡ go m st → run true m st rest ≡ failed kind (length rest) → reach true value [] pre ≡ n
    → Over rest n (run true value [] (pre ++ rest)) → run true value [] (pre ++ rest) ≡ failed k left → NotBefore kind (length rest) k left
stops_by pre rest m st kind k left (go m' st') free here e over answer =
    let same = go_is m' m st' st (sym (reach_free value [] pre m' st' e) ∙ free) in
    let moved : run true m' st' rest ≡ failed kind (length rest) = subst (λ (x : Mode). run true x st' rest ≡ failed kind (length rest)) (sym same.0) (subst (λ (u : List Frame). run true m u rest ≡ failed kind (length rest)) (sym same.1) here) in
    let both = sym moved ∙ sym over ∙ answer in
    (let lefts = left_of kind k (length rest) left both in omega arith, λ _. kind_of kind k (length rest) left both)
stops_by pre rest m st kind k left (stop sk l) free here e over answer =
    let lefts = left_of sk k (l + length rest) left (sym over.0 ∙ answer) in
    (omega (arith, lefts, over.1), λ same. absurd (omega (arith, lefts, over.1, same)))

not_ok : (pre rest : List ℕ) (m : Mode) (st : List Frame) (kind : Kind) (v : Data) (n : Next) → reach false value [] pre ≡ go m st → run true m st rest ≡ failed kind (length rest) → reach true value [] pre ≡ n
    → Over rest n (run true value [] (pre ++ rest)) → run true value [] (pre ++ rest) ≡ Ok v → ⊥
not_ok pre rest m st kind v (go m' st') free here e over answer =
    let same = go_is m' m st' st (sym (reach_free value [] pre m' st' e) ∙ free) in
    let moved : run true m' st' rest ≡ failed kind (length rest) = subst (λ (x : Mode). run true x st' rest ≡ failed kind (length rest)) (sym same.0) (subst (λ (u : List Frame). run true m u rest ≡ failed kind (length rest)) (sym same.1) here) in
    cc
not_ok pre rest m st kind v (stop sk l) free here e over answer = let o = over.0 in cc

full_is : (n : ℕ) → max_depth ≤ n → nat_le max_depth n ≡ true
full_is n h = grind (arith, h)

opener_is : (c : ℕ) → opens c ≡ true → (c ≡ open_bracket) ⊎ (c ≡ open_brace)
unfolding opens
opener_is c e = told (c == open_bracket) refl e
  where
    told : (x : Bool) → (c == open_bracket) ≡ x → (x || (c == open_brace)) ≡ true → (c ≡ open_bracket) ⊎ (c ≡ open_brace)
    told true e h = inl (eqb-true c open_bracket e)
    told false e h = inr (eqb-true c open_brace h)

opener_stops : (st : List Frame) (c : ℕ) (post : List ℕ) → opens c ≡ true → max_depth ≤ length st → run true value st (c ∷ post) ≡ failed Depth (length (c ∷ post))
unfolding in_value deepens is_space
opener_stops st c post e h =
    let count : 0 + suc (length post) ≡ suc (length post) = omega arith in
    halts true value st c post Depth 0 (stops (opener_is c e)) ∙ ap (failed Depth) count
  where
    stops : (c ≡ open_bracket) ⊎ (c ≡ open_brace) → step true value st c ≡ stop Depth 0
    stops (inl is) = let full = full_is (length st) h in rw (is, full) refl
    stops (inr is) = let full = full_is (length st) h in rw (is, full) refl

key_stops : (ms : Members) (st : List Frame) (k u post : List ℕ) → SpellsChars k u → has_key k ms ≡ true → run true (asking ms) st (quote ∷ (u ++ quote ∷ post)) ≡ failed Duplicate (length (quote ∷ (u ++ quote ∷ post)))
unfolding in_key is_space
key_stops [] st k u post spells known = absurd cc
key_stops (m ∷ ms) st k u post spells known =
    let count : 1 + length (u ++ quote ∷ post) ≡ suc (length (u ++ quote ∷ post)) = omega arith in
    one (judgement true) true (key (m ∷ ms)) st quote (u ++ quote ∷ post) (key_chars (m ∷ ms) 1 bare []) st refl ∙ key_again (m ∷ ms) 1 k u post st spells known ∙ ap (failed Duplicate) count

free_reach : (pre : List ℕ) (m : Mode) (st : List Frame) → reach false value [] (pre ++ []) ≡ reach false m st [] → reach false value [] pre ≡ go m st
unfolding walk
free_reach pre m st e = subst (λ (x : List ℕ). reach false value [] x ≡ go m st) (append-nil pre) e

at_end : (m : Mode) (st : List Frame) → reach false m st [] ≡ go m st
unfolding walk
at_end m st = refl

-- ---- faults of the limits, and halves without partners: the machine stops where they stand

-- a front at which the machine stops
record Halts (b : List ℕ) (kind : Kind) (left : ℕ) : Type 0 where
  pub pre : List ℕ
  pub rest : List ℕ
  pub parts : b ≡ pre ++ rest
  pub left_is : length rest ≡ left
  pub mode : Mode
  pub within : List Frame
  pub comes : reach false value [] pre ≡ go mode within
  pub stops : run true mode within rest ≡ failed kind (length rest)

depth_halts : (b : List ℕ) (left : ℕ) → DepthAt b left → Halts b Depth left
depth_halts b left h = record { pre = h.pre; rest = h.opener ∷ h.post; parts = h.parts; left_is = h.left_is; mode = value; within = h.within; comes = free_reach h.pre value h.within (open_pass h.within h.pre [] h.open_is); stops = opener_stops h.within h.opener h.post h.opener_is h.full }

duplicate_halts : (b : List ℕ) (left : ℕ) → DuplicateAt b left → Halts b Duplicate left
duplicate_halts b left h = record {
  pre = h.pre;
  rest = quote ∷ (h.inner ++ quote ∷ h.post);
  parts = h.parts;
  left_is = h.left_is;
  mode = asking h.members;
  within = h.within;
  comes = free_reach h.pre (asking h.members) h.within (awaits_pass h.within h.members h.pre [] h.awaits);
  stops = key_stops h.members h.within h.key h.inner h.post h.key_is h.known;
}

-- the mode between the characters of a string
in_string : (b : List ℕ) (h : IsInString b) → (m : Mode) × (reach false value [] b ≡ go m h.within) × ((r : List ℕ) (f : Fault) → text_run bare h.means r ≡ broken f → run true m h.within r ≡ Err f)
in_string b h = told h.outer_is
  where
    regrouped : b ≡ h.outer ++ (quote ∷ (h.inner ++ []))
    regrouped = rw append-nil h.parts

    told : IsOpen h.within h.outer ⊎ ((ms : Members) × AwaitsKey h.within ms h.outer) → (m : Mode) × (reach false value [] b ≡ go m h.within) × ((r : List ℕ) (f : Fault) → text_run bare h.means r ≡ broken f → run true m h.within r ≡ Err f)
    told (inl o) = (
      chars bare h.means,
      ap (reach false value []) regrouped ∙ open_pass h.within h.outer (quote ∷ (h.inner ++ [])) o ∙ quote_pass state false h.within (h.inner ++ []) ∙ chars_go state false h.within bare [] h.inner [] bare h.means (chars_reach [] h.means h.inner h.inner_is) ∙ at_end (chars bare h.means) h.within,
      λ r f e. chars_run true bare h.means h.within r ∙ ap (chars_end true h.within) e,
    )
    told (inr (ms, a)) = (
      key_chars ms (1 + length h.inner) bare h.means,
      ap (reach false value []) regrouped ∙ awaits_pass h.within ms h.outer (quote ∷ (h.inner ++ [])) a ∙ one state false (asking ms) h.within quote (h.inner ++ []) (key_chars ms 1 bare []) h.within ((asking_asks ms).opens h.within)
          ∙ key_chars_go state false ms 1 h.within bare [] h.inner [] bare h.means (chars_reach [] h.means h.inner h.inner_is) ∙ at_end (key_chars ms (1 + length h.inner) bare h.means) h.within,
      λ r f e. key_run true ms (1 + length h.inner) bare h.means h.within r ∙ ap (key_end true ms ((1 + length h.inner) + length r) h.within) e,
    )

lone_halts : (b : List ℕ) (left : ℕ) → LoneAt b left → Halts b kinds.Lone left
lone_halts b left h =
    let m = in_string h.pre h.open_is in
    record {
      pre = h.pre;
      rest = lone_spelled h.half ++ h.post;
      parts = h.parts;
      left_is = h.left_is;
      mode = m.0;
      within = h.open_is.within;
      comes = m.1;
      stops = m.2 (lone_spelled h.half ++ h.post) (fault kinds.Lone (length (lone_spelled h.half ++ h.post))) (run_lone h.open_is.means h.half h.post h.lone);
    }

number_halts : (b : List ℕ) (left : ℕ) → NumberAt b left → Halts b Number left
number_halts b left h = record {
  pre = h.pre;
  rest = h.spelled ++ h.post;
  parts = h.parts;
  left_is = h.left_is;
  mode = value;
  within = h.within;
  comes = free_reach h.pre value h.within (open_pass h.within h.pre [] h.open_is);
  stops = number_over h.spelled h.within h.post h.number_is h.longest h.over;
}

halts_by : (b : List ℕ) (kind k : Kind) (there left : ℕ) → run true value [] b ≡ failed k left → Halts b kind there → NotBefore kind there k left
halts_by b kind k there left answer h =
    subst (λ (n : ℕ). NotBefore kind n k left) h.left_is
    (stops_by h.pre h.rest h.mode h.within kind k left (reach true value [] h.pre) h.comes h.stops refl (run_over value [] h.pre h.rest) (subst (λ (x : List ℕ). run true value [] x ≡ failed k left) h.parts answer))

halts_not_ok : (b : List ℕ) (kind : Kind) (there : ℕ) (v : Data) → run true value [] b ≡ Ok v → Halts b kind there → ⊥
halts_not_ok b kind there v answer h =
    not_ok h.pre h.rest h.mode h.within kind v (reach true value [] h.pre) h.comes h.stops refl (run_over value [] h.pre h.rest) (subst (λ (x : List ℕ). run true value [] x ≡ Ok v) h.parts answer)

-- ---- syntax: what lives to a later place lives to each before it

front_of : (a b c d : List ℕ) → a ++ b ≡ c ++ d → length c ≤ length a → (x : List ℕ) × (a ≡ c ++ x)
front_of a b [] d e le = (a, refl)
front_of [] b (y ∷ c) d e le = absurd (omega arith)
front_of (x ∷ a) b (y ∷ c) d e le =
    let head : x ≡ y = cc in
    let tails : a ++ b ≡ c ++ d = cc in
    let f = front_of a b c d tails (omega arith) in
    (f.0, rw (head, ← f.1) refl)

lives_before : (a x : List ℕ) → IsPrefix (a ++ x) → IsPrefix a
lives_before a x (more, v, h) = (x ++ more, v, subst (λ (b : List ℕ). IsText b v) (append_assoc a x more) h)

later_dead : (pre post there_pre p : List ℕ) (c : ℕ) → there_pre ++ (c ∷ p) ≡ pre ++ post → IsPrefix pre → (IsPrefix (there_pre ++ c ∷ []) → ⊥) → length post < length (c ∷ p) → ⊥
later_dead pre post there_pre p c same alive dead lt =
    let e : pre ++ post ≡ (there_pre ++ c ∷ []) ++ p = sym same ∙ sym (append_assoc there_pre (c ∷ []) p) in
    let lengths = ap length e in
    let f = front_of pre post (there_pre ++ c ∷ []) p e (omega (arith, lengths, length-append pre post, length-append (there_pre ++ c ∷ []) p, length-append there_pre (c ∷ []))) in
    dead (lives_before (there_pre ++ c ∷ []) f.0 (subst IsPrefix f.1 alive))

not_more : (a b : ℕ) → (a < b → ⊥) → b ≤ a
not_more a b h = elim (cases_lt a b) [ inl lt ↦ absurd (h lt) | inr le ↦ le ]

-- what lives to the place with so many left has no syntax fault with more left
pub syntax_by : (b pre post : List ℕ) (there : ℕ) → b ≡ pre ++ post → IsPrefix pre → SyntaxAt b there → there ≤ length post
syntax_by b pre post there parts alive h = subst (λ (n : ℕ). n ≤ length post) h.left_is (at_post h.pre h.post h.dead (sym h.parts ∙ parts))
  where
    at_post : (q p : List ℕ) → EndsAt q p → q ++ p ≡ pre ++ post → length p ≤ length post
    at_post q [] dead e = omega arith
    at_post q (c ∷ p) dead e = not_more (length post) (length (c ∷ p)) (λ lt. later_dead pre post q p c e alive dead lt)

-- ---- a fault of the limits stands on a byte over which a text goes on

record LivesOver (b : List ℕ) (left : ℕ) : Type 0 where
  pub pre : List ℕ
  pub post : List ℕ
  pub parts : b ≡ pre ++ post
  pub left_is : suc (length post) ≡ left
  pub alive : IsPrefix pre

opener_lives : (st : List Frame) (t : List ℕ) (c : ℕ) → IsOpen st t → (c ≡ open_bracket) ⊎ (c ≡ open_brace) → IsPrefix (t ++ c ∷ [])
unfolding in_value deepens is_space
opener_lives st t c h (inl is) = rw is (reached_lives value (in_list [] ∷ st) (t ++ open_bracket ∷ []) (step_reaches false value st t open_bracket h))
opener_lives st t c h (inr is) = rw is (reached_lives first st (t ++ open_brace ∷ []) (step_reaches false value st t open_brace h))

depth_lives : (b : List ℕ) (left : ℕ) → DepthAt b left → LivesOver b left
depth_lives b left h = record { pre = h.pre ++ h.opener ∷ []; post = h.post; parts = h.parts ∙ sym (append_assoc h.pre (h.opener ∷ []) h.post); left_is = h.left_is; alive = opener_lives h.within h.pre h.opener h.open_is (opener_is h.opener h.opener_is) }

duplicate_lives : (b : List ℕ) (left : ℕ) → DuplicateAt b left → LivesOver b left
unfolding in_key is_space
duplicate_lives b left h = record {
  pre = h.pre ++ quote ∷ [];
  post = h.inner ++ quote ∷ h.post;
  parts = h.parts ∙ sym (append_assoc h.pre (quote ∷ []) (h.inner ++ quote ∷ h.post));
  left_is = h.left_is;
  alive = reached_lives (key_chars h.members 1 bare []) h.within (h.pre ++ quote ∷ []) (step_reaches false (key h.members) h.within h.pre quote h.awaits);
}

lone_begins : (l : Lone) → (more : List ℕ) × (lone_spelled l ≡ backslash ∷ more)
lone_begins (low a b) = (letter_u ∷ a ∷ b ∷ [], refl)
lone_begins (high (quad w x y z) c) = (letter_u ∷ w ∷ x ∷ y ∷ z ∷ c ∷ [], refl)
lone_begins (high_letter (quad w x y z) c) = (letter_u ∷ w ∷ x ∷ y ∷ z ∷ backslash ∷ c ∷ [], refl)
lone_begins (high_first (quad w x y z) a) = (letter_u ∷ w ∷ x ∷ y ∷ z ∷ backslash ∷ letter_u ∷ a ∷ [], refl)
lone_begins (high_second (quad w x y z) a b) = (letter_u ∷ w ∷ x ∷ y ∷ z ∷ backslash ∷ letter_u ∷ a ∷ b ∷ [], refl)

-- behind the backslash
string_lives : (t : List ℕ) → IsInString t → IsPrefix (t ++ backslash ∷ [])
unfolding in_chars in_key_chars in_text
string_lives t h = told h.outer_is
  where
    opened : OpenText bare h.means (quote ∷ h.inner)
    opened = record { inner = h.inner; parts = ap (λ (x : List ℕ). quote ∷ x) (sym (append-nil h.inner)); inner_is = h.inner_is; partial_is = tt }

    told : IsOpen h.within h.outer ⊎ ((ms : Members) × AwaitsKey h.within ms h.outer) → IsPrefix (t ++ backslash ∷ [])
    told (inl o) = reached_lives (chars slash h.means) h.within (t ++ backslash ∷ []) (step_reaches false (chars bare h.means) h.within t backslash (record { front = h.outer; back = quote ∷ h.inner; parts = h.parts; front_is = o; back_is = opened }))
    told (inr (ms, a)) =
        reached_lives (key_chars ms (suc (suc (length h.inner))) slash h.means) h.within (t ++ backslash ∷ [])
        (step_reaches false (key_chars ms (suc (length h.inner)) bare h.means) h.within t backslash (record { front = h.outer; back = quote ∷ h.inner; parts = h.parts; front_is = a; back_is = opened }, refl))

lone_lives : (b : List ℕ) (left : ℕ) → LoneAt b left → LivesOver b left
lone_lives b left h =
    let more = lone_begins h.half in
    record {
      pre = h.pre ++ backslash ∷ [];
      post = more.0 ++ h.post;
      parts = h.parts ∙ ap (λ (x : List ℕ). h.pre ++ (x ++ h.post)) more.1 ∙ sym (append_assoc h.pre (backslash ∷ []) (more.0 ++ h.post));
      left_is = sym (ap (λ (x : List ℕ). length (x ++ h.post)) more.1) ∙ h.left_is;
      alive = string_lives h.pre h.open_is;
    }

number_lives : (b : List ℕ) (left : ℕ) → NumberAt b left → LivesOver b left
number_lives b left h = first_byte h.spelled h.number_is h.parts h.left_is
  where
    whole_lives : (s : List ℕ) → IsNumeral s → IsPrefix (h.pre ++ s)
    whole_lives s w = reached_lives (after (number s)) h.within (h.pre ++ s) (record { front = h.pre; back = s; parts = refl; front_is = h.open_is; back_is = record { front = s; back = []; parts = sym (append-nil s); front_is = (refl, w); back_is = tt } })

    first_byte : (s : List ℕ) → IsNumeral s → b ≡ h.pre ++ (s ++ h.post) → length (s ++ h.post) ≡ left → LivesOver b left
    first_byte [] w e l = absurd (numeral_some [] w refl)
    first_byte (c ∷ s) w e l = record { pre = h.pre ++ c ∷ []; post = s ++ h.post; parts = e ∙ sym (append_assoc h.pre (c ∷ []) (s ++ h.post)); left_is = l; alive = shorter_front (h.pre ++ c ∷ []) s (subst IsPrefix (sym (append_assoc h.pre (c ∷ []) s)) (whole_lives (c ∷ s) w)) }

lives_first : (b : List ℕ) (k : Kind) (left there : ℕ) → LivesOver b left → SyntaxAt b there → NotBefore Syntax there k left
lives_first b k left there l h =
    let by = syntax_by b l.pre l.post there l.parts l.alive h in
    (omega (arith, by, l.left_is), λ same. absurd (omega (arith, by, l.left_is, same)))

-- each fault of the text comes at the one that is answered or behind it
pub is_first : (b : List ℕ) (k : Kind) (left : ℕ) → run true value [] b ≡ failed k left → (kind : Kind) (there : ℕ) → FaultAt b kind there → NotBefore kind there k left
is_first b k left answer Depth there h = halts_by b Depth k there left answer (depth_halts b there h)
is_first b k left answer kinds.Lone there h = halts_by b kinds.Lone k there left answer (lone_halts b there h)
is_first b k left answer Duplicate there h = halts_by b Duplicate k there left answer (duplicate_halts b there h)
is_first b k left answer Number there h = halts_by b Number k there left answer (number_halts b there h)
is_first b k left answer Syntax there h = at_kind k (is_fault b (record { kind = k; left = left }) answer)
  where
    at_kind : (k : Kind) → FaultAt b k left → NotBefore Syntax there k left
    at_kind Syntax f = (subst (λ (n : ℕ). there ≤ n) f.left_is (syntax_by b f.pre f.post there f.parts f.alive h), λ _. refl)
    at_kind kinds.Lone f = lives_first b kinds.Lone left there (lone_lives b left f) h
    at_kind Depth f = lives_first b Depth left there (depth_lives b left f) h
    at_kind Duplicate f = lives_first b Duplicate left there (duplicate_lives b left f) h
    at_kind Number f = lives_first b Number left there (number_lives b left f) h

-- where there is a fault, no value is read
pub no_fault : (b : List ℕ) (v : Data) → run true value [] b ≡ Ok v → (kind : Kind) (there : ℕ) → FaultAt b kind there → ⊥
no_fault b v answer Syntax there h = ended h.pre h.post h.dead h.parts
  where
    ended : (pre post : List ℕ) → EndsAt pre post → b ≡ pre ++ post → ⊥
    ended pre [] dead e = dead v (subst (λ (x : List ℕ). IsText x v) (e ∙ append-nil pre) (reads_of b v answer).0)
    ended pre (c ∷ post) dead e = dead (post, v, subst (λ (x : List ℕ). IsText x v) (e ∙ sym (append_assoc pre (c ∷ []) post)) (reads_of b v answer).0)
no_fault b v answer kinds.Lone there h = halts_not_ok b kinds.Lone there v answer (lone_halts b there h)
no_fault b v answer Depth there h = halts_not_ok b Depth there v answer (depth_halts b there h)
no_fault b v answer Duplicate there h = halts_not_ok b Duplicate there v answer (duplicate_halts b there h)
no_fault b v answer Number there h = halts_not_ok b Number there v answer (number_halts b there h)
