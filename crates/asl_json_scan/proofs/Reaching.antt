-- What the machine has read up to a place, in each of its modes.
use Rattle.std.proofs.Common.{◌≡◌, ℕ, suc, Bool, true, false, cond, nat_le, ◌&&◌, ◌==◌, ◌||◌, List, [], ◌∷◌, ◌++◌, length, Option, Some, None, refl, sym, ap, subst, ◌∙◌, append_assoc, arith, ◌⊎◌, inl, inr}
use Rattle.std.proofs.lemmas.List.{append-nil, length-append}
use Rattle.std.proofs.lemmas.Bool.{and_parts, eqb-true}
use Rattle.asl_json_data.specs.Data.{Data, null, boolean, number, text, list, dict, no_items, no_members, chain, pairs}
use Rattle.asl_json_data.specs.Number.{IsNumeral, is_over, EndsNumber}
use Rattle.asl_json_data.specs.Grammar.{colon, open_bracket, close_bracket, open_brace, close_brace, is_space, AreSpaces, SpellsKey, Padded, IsMember, Spells}
use Rattle.asl_json_data.specs.Parts.{comma, Joined, Behind}
use Rattle.asl_json_data.specs.private.Lists.{SpellsItems, SpellsMoreItems, SpellsMembers, SpellsMore}
use Rattle.asl_json_data.specs.Text.{quote, SpellsChars, SpellsText, Lone, IsLone, lone_spelled}
use Rattle.asl_json_scan.specs.private.Chars.{Within, bare, Inside, goes, ends, breaks, lone, in_text}
use Rattle.asl_json_scan.proofs.Texts.{OpenText, TextHolds, LoneEnd, text_opens, text_step}
use Rattle.asl_json_data.specs.private.NumberParts.{next_part, may_end}
use Rattle.asl_json_scan.specs.private.Machine.{grown, Mode, value, word, chars, figure, after, first, key, key_chars, behind_key, Next, go, stop, deepens, closes, in_judged, in_value, in_word, chars_next, in_chars, in_figure, in_after, in_first, in_key, key_chars_next, in_key_chars, in_behind_key, step}
use Rattle.asl_json_data.specs.Distinct.{Members, has_key}
use Rattle.asl_json_data.specs.Limits.{max_depth}
use Rattle.asl_json_scan.specs.Open.{Frame, in_list, in_dict, SpellsFrontItems, OpensItem, SpellsFront, Opened, OpensMember, IsOpen, AwaitsKey, IsInString, opens}
use Rattle.asl_json_scan.specs.declared.fault.Kind.{Kind}
use Rattle.asl_json_scan.specs.declared.fault.Kind.TheVariants.{Syntax, Duplicate, Depth, Number}
use Rattle.asl_json_scan.specs.declared.fault.Kind.TheVariants as kinds
use Rattle.asl_json_data.specs.declared.part.Part.{Part}
use Rattle.asl_json_data.specs.declared.part.Part.TheVariants.{Start}
use Rattle.asl_json_data.proofs.Numerals.{IsPart, part_push, part_is_numeral, part_longest}

-- a number that is open
pub record OpenNumber (p : Part) (s t : List ℕ) : Type 0 where
  pub parts : t ≡ s
  pub part_is : IsPart p s

abbrev pub Reached : Mode → List Frame → List ℕ → Type 0
Reached value st t = IsOpen st t
Reached (word ws d) st t = Joined (IsOpen st) (λ u. Spells d (u ++ ws)) t
Reached (chars q s) st t = Joined (IsOpen st) (OpenText q s) t
Reached (figure p s) st t = Joined (IsOpen st) (OpenNumber p s) t
Reached (after d) st t = Joined (IsOpen st) (Joined (Spells d) AreSpaces) t
Reached first st t = Joined (IsOpen st) (Behind open_brace AreSpaces) t
Reached (key ms) st t = AwaitsKey st ms t
Reached (key_chars ms n q s) st t = (h : Joined (AwaitsKey st ms) (OpenText q s) t) × (n ≡ length h.back)
Reached (behind_key ms k) st t = Joined (IsOpen st) (Opened ms (SpellsKey k)) t

-- what a stop tells, on the byte c behind t
pub record TooDeep (st : List Frame) (t : List ℕ) (c back : ℕ) : Type 0 where
  pub here : back ≡ 0
  pub opener : opens c ≡ true
  pub open_is : IsOpen st t
  pub full : nat_le max_depth (length st) ≡ true

pub record Twice (st : List Frame) (t : List ℕ) (c back : ℕ) : Type 0 where
  pub members : Members
  pub key : List ℕ
  pub inner : List ℕ
  pub pre : List ℕ
  pub parts : t ++ c ∷ [] ≡ pre ++ quote ∷ (inner ++ quote ∷ [])
  pub before : AwaitsKey st members pre
  pub key_is : SpellsChars key inner
  pub back_is : back ≡ suc (length inner)
  pub known : has_key key members ≡ true

pub record Alone (t : List ℕ) (c back : ℕ) : Type 0 where
  pub pre : List ℕ
  pub half_is : Lone
  pub parts : t ++ c ∷ [] ≡ pre ++ lone_spelled half_is
  pub open_is : IsInString pre
  pub lone : IsLone half_is
  pub back_is : length (lone_spelled half_is) ≡ suc back

pub record TooLarge (st : List Frame) (t : List ℕ) (c back : ℕ) : Type 0 where
  pub spelled : List ℕ
  pub before : Joined (IsOpen st) (λ u. u ≡ spelled) t
  pub number_is : IsNumeral spelled
  pub back_is : back ≡ length spelled
  pub longest : (cs : List ℕ) → EndsNumber spelled (c ∷ cs)
  pub over : is_over spelled ≡ true

abbrev pub Stopped : Kind → List Frame → List ℕ → ℕ → ℕ → Type 0
Stopped Syntax st t c back = back ≡ 0
Stopped kinds.Lone st t c back = Alone t c back
Stopped Duplicate st t c back = Twice st t c back
Stopped Depth st t c back = TooDeep st t c back
Stopped Number st t c back = TooLarge st t c back

abbrev pub Holds : List Frame → List ℕ → ℕ → Next → Type 0
Holds st t c (go m' st') = Reached m' st' (t ++ c ∷ [])
Holds st t c (stop kind back) = Stopped kind st t c back

pub holds_cond : (st : List Frame) (t : List ℕ) (c : ℕ) (b : Bool) (x y : Next) → (b ≡ true → Holds st t c x) → (b ≡ false → Holds st t c y) → Holds st t c (cond b x y)
holds_cond st t c true x y p q = p refl
holds_cond st t c false x y p q = q refl

-- ---- one more byte

spaces_push : (ws : List ℕ) (c : ℕ) → is_space c ≡ true → AreSpaces ws → AreSpaces (ws ++ c ∷ [])
spaces_push [] c e h = (e, tt)
spaces_push (w ∷ ws) c e h = (h.0, spaces_push ws c e h.1)

joined_push : (A B D : List ℕ → Type 0) (t : List ℕ) (c : ℕ) → ((u : List ℕ) → B u → D (u ++ c ∷ [])) → Joined A B t → Joined A D (t ++ c ∷ [])
joined_push A B D t c f h = record { front = h.front; back = h.back ++ c ∷ []; parts = rw h.parts (append_assoc h.front h.back (c ∷ [])); front_is = h.front_is; back_is = f h.back h.back_is }

joined_new : (A B : List ℕ → Type 0) (t : List ℕ) (c : ℕ) → A t → B (c ∷ []) → Joined A B (t ++ c ∷ [])
joined_new A B t c a b = record { front = t; back = c ∷ []; parts = refl; front_is = a; back_is = b }

joined_end : (A B : List ℕ → Type 0) (t : List ℕ) → A t → B [] → Joined A B t
joined_end A B t a b = record { front = t; back = []; parts = sym (append-nil t); front_is = a; back_is = b }

behind_push : (x : ℕ) (A D : List ℕ → Type 0) (t : List ℕ) (c : ℕ) → ((u : List ℕ) → A u → D (u ++ c ∷ [])) → Behind x A t → Behind x D (t ++ c ∷ [])
behind_push x A D t c f h = record { tail = h.tail ++ c ∷ []; parts = ap (λ (u : List ℕ). u ++ c ∷ []) h.parts; tail_is = f h.tail h.tail_is }

behind_new : (x : ℕ) (A : List ℕ → Type 0) (c : ℕ) → (c == x) ≡ true → A [] → Behind x A (c ∷ [])
behind_new x A c e a = record { tail = []; parts = ap (λ (y : ℕ). y ∷ []) (eqb-true c x e); tail_is = a }

opened_push : (ms : Members) (A D : List ℕ → Type 0) (t : List ℕ) (c : ℕ) → ((u : List ℕ) → A u → D (u ++ c ∷ [])) → Opened ms A t → Opened ms D (t ++ c ∷ [])
opened_push ms A D t c f h = behind_push open_brace (Joined (SpellsFront ms) A) (Joined (SpellsFront ms) D) t c (λ u g. joined_push (SpellsFront ms) A D u c f g) h

key_push : (k t : List ℕ) (c : ℕ) → is_space c ≡ true → SpellsKey k t → SpellsKey k (t ++ c ∷ [])
key_push k t c e h = record {
  before = h.before;
  quoted = h.quoted;
  behind = h.behind ++ c ∷ [];
  parts = rw h.parts (simp append_assoc);
  before_is = h.before_is;
  quoted_is = h.quoted_is;
  behind_is = spaces_push h.behind c e h.behind_is;
}

open_push : (st : List Frame) (t : List ℕ) (c : ℕ) → is_space c ≡ true → IsOpen st t → IsOpen st (t ++ c ∷ [])
open_push [] t c e h = spaces_push t c e h
open_push (in_list ds ∷ st) t c e h =
    joined_push (IsOpen st) (OpensItem ds) (OpensItem ds) t c
    (λ u. behind_push open_bracket (Joined (SpellsFrontItems ds) AreSpaces) (Joined (SpellsFrontItems ds) AreSpaces) u c
    (λ w. joined_push (SpellsFrontItems ds) AreSpaces AreSpaces w c (λ x. spaces_push x c e))) h
open_push (in_dict ms k ∷ st) t c e h =
    joined_push (IsOpen st) (OpensMember ms k) (OpensMember ms k) t c
    (λ u. opened_push ms (Joined (SpellsKey k) (Behind colon AreSpaces)) (Joined (SpellsKey k) (Behind colon AreSpaces)) u c
    (λ w. joined_push (SpellsKey k) (Behind colon AreSpaces) (Behind colon AreSpaces) w c
    (λ x. behind_push colon AreSpaces AreSpaces x c (λ y. spaces_push y c e)))) h

after_push : (d : Data) (st : List Frame) (t : List ℕ) (c : ℕ) → is_space c ≡ true → Reached (after d) st t → Reached (after d) st (t ++ c ∷ [])
after_push d st t c e h =
    joined_push (IsOpen st) (Joined (Spells d) AreSpaces) (Joined (Spells d) AreSpaces) t c (λ u. joined_push (Spells d) AreSpaces AreSpaces u c (λ w. spaces_push w c e)) h

-- ---- numbers

holds_grown : (st : List Frame) (t : List ℕ) (c : ℕ) (o : Option Part) (n : Next) (s : List ℕ) → (o ≡ None → Holds st t c n) → ((q : Part) → o ≡ Some q → Reached (figure q (s ++ c ∷ [])) st (t ++ c ∷ [])) → Holds st t c (grown o n s st c)
holds_grown st t c None n s p q = p refl
holds_grown st t c (Some r) n s p q = q r refl

number_push : (p q : Part) (s : List ℕ) (st : List Frame) (t : List ℕ) (c : ℕ) → next_part p c ≡ Some q → Reached (figure p s) st t → Reached (figure q (s ++ c ∷ [])) st (t ++ c ∷ [])
number_push p q s st t c e h = joined_push (IsOpen st) (OpenNumber p s) (OpenNumber q (s ++ c ∷ [])) t c (λ u o. record { parts = ap (λ (x : List ℕ). x ++ c ∷ []) o.parts; part_is = part_push p q s c e o.part_is }) h

-- ---- a value ends

ended : (d : Data) (st : List Frame) (t : List ℕ) (c : ℕ) (B : List ℕ → Type 0) → ((u : List ℕ) → B u → Spells d (u ++ c ∷ [])) → Joined (IsOpen st) B t → Reached (after d) st (t ++ c ∷ [])
ended d st t c B f h = joined_push (IsOpen st) B (Joined (Spells d) AreSpaces) t c (λ u b. joined_end (Spells d) AreSpaces (u ++ c ∷ []) (f u b) tt) h

-- the member whose value has ended
pub member_done : (k : List ℕ) (d : Data) (t w : List ℕ) → Joined (SpellsKey k) (Behind colon AreSpaces) t → Joined (Spells d) AreSpaces w → IsMember k (Spells d) (t ++ w)
member_done k d t w h g = record {
  key = h.front;
  value = h.back_is.tail ++ (g.front ++ g.back);
  parts = rw (h.parts, h.back_is.parts, g.parts) (simp append_assoc);
  key_is = h.front_is;
  value_is = record { before = h.back_is.tail; inner = g.front; behind = g.back; parts = refl; before_is = h.back_is.tail_is; inner_is = g.front_is; behind_is = g.back_is };
}

pub front_push : (ms : Members) (k : List ℕ) (d : Data) (t w : List ℕ) → SpellsFront ms t → IsMember k (Spells d) w → SpellsFront (ms ++ (k, d) ∷ []) (t ++ (w ++ comma ∷ []))
front_push [] k d t w h g = record { front = w; back = comma ∷ []; parts = rw h refl; front_is = g; back_is = record { tail = []; parts = refl; tail_is = refl } }
front_push (m ∷ ms) k d t w h g = record {
  front = h.front;
  back = comma ∷ (h.back_is.tail ++ (w ++ comma ∷ []));
  parts = rw (h.parts, h.back_is.parts) (simp append_assoc);
  front_is = h.front_is;
  back_is = record { tail = h.back_is.tail ++ (w ++ comma ∷ []); parts = refl; tail_is = front_push ms k d h.back_is.tail w h.back_is.tail_is g };
}

more_close : (ms : Members) (k : List ℕ) (d : Data) (t w : List ℕ) → SpellsFront ms t → IsMember k (Spells d) w → SpellsMore (pairs (ms ++ (k, d) ∷ [])) (comma ∷ (t ++ (w ++ close_brace ∷ [])))
more_close [] k d t w h g = record { tail = w ++ close_brace ∷ []; parts = rw h refl; tail_is = record { front = w; back = close_brace ∷ []; parts = refl; front_is = g; back_is = refl } }
more_close (m ∷ ms) k d t w h g =
    let rest = comma ∷ (h.back_is.tail ++ (w ++ close_brace ∷ [])) in
    record { tail = h.front ++ rest; parts = rw (h.parts, h.back_is.parts) (simp append_assoc); tail_is = record { front = h.front; back = rest; parts = refl; front_is = h.front_is; back_is = more_close ms k d h.back_is.tail w h.back_is.tail_is g } }

pub front_close : (ms : Members) (k : List ℕ) (d : Data) (t w : List ℕ) → SpellsFront ms t → IsMember k (Spells d) w → SpellsMembers (pairs (ms ++ (k, d) ∷ [])) (t ++ (w ++ close_brace ∷ []))
front_close [] k d t w h g = record { front = w; back = close_brace ∷ []; parts = rw h refl; front_is = g; back_is = refl }
front_close (m ∷ ms) k d t w h g = record {
  front = h.front;
  back = comma ∷ (h.back_is.tail ++ (w ++ close_brace ∷ []));
  parts = rw (h.parts, h.back_is.parts) (simp append_assoc);
  front_is = h.front_is;
  back_is = more_close ms k d h.back_is.tail w h.back_is.tail_is g;
}

-- a list up to the end of an item
pub record ItemDone (ds : List Data) (d : Data) (st : List Frame) (t : List ℕ) : Type 0 where
  pub outer : List ℕ
  pub front : List ℕ
  pub last : List ℕ
  pub parts : t ≡ outer ++ (open_bracket ∷ (front ++ last))
  pub outer_is : IsOpen st outer
  pub front_is : SpellsFrontItems ds front
  pub last_is : Padded (Spells d) last

pub item_done : (ds : List Data) (d : Data) (st : List Frame) (t : List ℕ) → Reached (after d) (in_list ds ∷ st) t → ItemDone ds d st t
item_done ds d st t h =
    let o = h.front_is in
    let b = o.back_is in
    let j = b.tail_is in
    let v = h.back_is in
    record {
      outer = o.front;
      front = j.front;
      last = j.back ++ (v.front ++ v.back);
      parts = rw (h.parts, o.parts, b.parts, j.parts, v.parts) (simp append_assoc);
      outer_is = o.front_is;
      front_is = j.front_is;
      last_is = record { before = j.back; inner = v.front; behind = v.back; parts = refl; before_is = j.back_is; inner_is = v.front_is; behind_is = v.back_is };
    }

items_push : (ds : List Data) (d : Data) (t w : List ℕ) → SpellsFrontItems ds t → Padded (Spells d) w → SpellsFrontItems (ds ++ d ∷ []) (t ++ (w ++ comma ∷ []))
items_push [] d t w h g = record { front = w; back = comma ∷ []; parts = rw h refl; front_is = g; back_is = record { tail = []; parts = refl; tail_is = refl } }
items_push (e ∷ ds) d t w h g = record {
  front = h.front;
  back = comma ∷ (h.back_is.tail ++ (w ++ comma ∷ []));
  parts = rw (h.parts, h.back_is.parts) (simp append_assoc);
  front_is = h.front_is;
  back_is = record { tail = h.back_is.tail ++ (w ++ comma ∷ []); parts = refl; tail_is = items_push ds d h.back_is.tail w h.back_is.tail_is g };
}

more_items_close : (ds : List Data) (d : Data) (t w : List ℕ) → SpellsFrontItems ds t → Padded (Spells d) w → SpellsMoreItems (chain (ds ++ d ∷ [])) (comma ∷ (t ++ (w ++ close_bracket ∷ [])))
more_items_close [] d t w h g = record { tail = w ++ close_bracket ∷ []; parts = rw h refl; tail_is = record { front = w; back = close_bracket ∷ []; parts = refl; front_is = g; back_is = refl } }
more_items_close (e ∷ ds) d t w h g =
    let rest = comma ∷ (h.back_is.tail ++ (w ++ close_bracket ∷ [])) in
    record { tail = h.front ++ rest; parts = rw (h.parts, h.back_is.parts) (simp append_assoc); tail_is = record { front = h.front; back = rest; parts = refl; front_is = h.front_is; back_is = more_items_close ds d h.back_is.tail w h.back_is.tail_is g } }

items_close : (ds : List Data) (d : Data) (t w : List ℕ) → SpellsFrontItems ds t → Padded (Spells d) w → SpellsItems (chain (ds ++ d ∷ [])) (t ++ (w ++ close_bracket ∷ []))
items_close [] d t w h g = record { front = w; back = close_bracket ∷ []; parts = rw h refl; front_is = g; back_is = refl }
items_close (e ∷ ds) d t w h g = record {
  front = h.front;
  back = comma ∷ (h.back_is.tail ++ (w ++ close_bracket ∷ []));
  parts = rw (h.parts, h.back_is.parts) (simp append_assoc);
  front_is = h.front_is;
  back_is = more_items_close ds d h.back_is.tail w h.back_is.tail_is g;
}

next_item_reaches : (ds : List Data) (d : Data) (st : List Frame) (t : List ℕ) (c : ℕ) → (c == comma) ≡ true → ItemDone ds d st t → Reached value (in_list (ds ++ d ∷ []) ∷ st) (t ++ c ∷ [])
next_item_reaches ds d st t c e g =
    let fr = g.front ++ (g.last ++ comma ∷ []) in
    record {
      front = g.outer;
      back = open_bracket ∷ fr;
      parts = rw (g.parts, eqb-true c comma e) (simp append_assoc);
      front_is = g.outer_is;
      back_is = record { tail = fr; parts = refl; tail_is = joined_end (SpellsFrontItems (ds ++ d ∷ [])) AreSpaces fr (items_push ds d g.front g.last g.front_is g.last_is) tt };
    }

pub last_item_reaches : (ds : List Data) (d : Data) (st : List Frame) (t : List ℕ) (c : ℕ) → (c == close_bracket) ≡ true → ItemDone ds d st t → Reached (after (list (chain (ds ++ d ∷ [])))) st (t ++ c ∷ [])
last_item_reaches ds d st t c e g =
    let body = g.front ++ (g.last ++ close_bracket ∷ []) in
    let v = list (chain (ds ++ d ∷ [])) in
    record {
      front = g.outer;
      back = open_bracket ∷ body;
      parts = rw (g.parts, eqb-true c close_bracket e) (simp append_assoc);
      front_is = g.outer_is;
      back_is = joined_end (Spells v) AreSpaces (open_bracket ∷ body) (record { tail = body; parts = refl; tail_is = items_close ds d g.front g.last g.front_is g.last_is }) tt;
    }

-- an object up to the end of a member's value
pub record MemberDone (ms : Members) (k : List ℕ) (d : Data) (st : List Frame) (t : List ℕ) : Type 0 where
  pub outer : List ℕ
  pub front : List ℕ
  pub last : List ℕ
  pub parts : t ≡ outer ++ (open_brace ∷ (front ++ last))
  pub outer_is : IsOpen st outer
  pub front_is : SpellsFront ms front
  pub last_is : IsMember k (Spells d) last

pub done_of : (ms : Members) (k : List ℕ) (d : Data) (st : List Frame) (t : List ℕ) → Reached (after d) (in_dict ms k ∷ st) t → MemberDone ms k d st t
done_of ms k d st t h =
    let o = h.front_is in
    let b = o.back_is in
    let j = b.tail_is in
    record { outer = o.front; front = j.front; last = j.back ++ h.back; parts = rw (h.parts, o.parts, b.parts, j.parts) (simp append_assoc); outer_is = o.front_is; front_is = j.front_is; last_is = member_done k d j.back h.back j.back_is h.back_is }

pub comma_reaches : (ms : Members) (k : List ℕ) (d : Data) (st : List Frame) (t : List ℕ) (c : ℕ) → (c == comma) ≡ true → MemberDone ms k d st t → Reached (key (ms ++ (k, d) ∷ [])) st (t ++ c ∷ [])
comma_reaches ms k d st t c e g =
    let fr = g.front ++ (g.last ++ comma ∷ []) in
    record {
      front = g.outer;
      back = open_brace ∷ fr;
      parts = rw (g.parts, eqb-true c comma e) (simp append_assoc);
      front_is = g.outer_is;
      back_is = record { tail = fr; parts = refl; tail_is = joined_end (SpellsFront (ms ++ (k, d) ∷ [])) AreSpaces fr (front_push ms k d g.front g.last g.front_is g.last_is) tt };
    }

pub close_reaches : (ms : Members) (k : List ℕ) (d : Data) (st : List Frame) (t : List ℕ) (c : ℕ) → (c == close_brace) ≡ true → MemberDone ms k d st t → Reached (after (dict (pairs (ms ++ (k, d) ∷ [])))) st (t ++ c ∷ [])
close_reaches ms k d st t c e g =
    let body = g.front ++ (g.last ++ close_brace ∷ []) in
    let v = dict (pairs (ms ++ (k, d) ∷ [])) in
    record {
      front = g.outer;
      back = open_brace ∷ body;
      parts = rw (g.parts, eqb-true c close_brace e) (simp append_assoc);
      front_is = g.outer_is;
      back_is = joined_end (Spells v) AreSpaces (open_brace ∷ body) (record { tail = body; parts = refl; tail_is = front_close ms k d g.front g.last g.front_is g.last_is }) tt;
    }

-- ---- each mode

word_new : (c x : ℕ) (ws : List ℕ) → (c == x) ≡ true → (c ∷ []) ++ ws ≡ x ∷ ws
word_new c x ws e = ap (λ (y : ℕ). y ∷ ws) (eqb-true c x e)

opens_true : (a b : Bool) → b ≡ true → (a || b) ≡ true
opens_true true b e = refl
opens_true false b e = e

pub opens_bracket : (c : ℕ) → (c == open_bracket) ≡ true → opens c ≡ true
unfolding opens
opens_bracket c e = rw e refl

pub opens_brace : (c : ℕ) → (c == open_brace) ≡ true → opens c ≡ true
unfolding opens
opens_brace c e = opens_true (c == open_bracket) (c == open_brace) e

deepens_reaches : (lim : Bool) (st : List Frame) (t : List ℕ) (c : ℕ) (n : Next) → opens c ≡ true → IsOpen st t → Holds st t c n → Holds st t c (deepens lim st n)
unfolding deepens
deepens_reaches lim st t c n e h g =
    holds_cond st t c (lim && nat_le max_depth (length st)) _ _ (λ d. record { here = refl; opener = e; open_is = h; full = (and_parts lim (nat_le max_depth (length st)) d).1 }) (λ _. g)

-- a list without items
no_items_reach : (u : List ℕ) (c : ℕ) → (c == close_bracket) ≡ true → Joined (SpellsFrontItems []) AreSpaces u → SpellsItems no_items (u ++ c ∷ [])
no_items_reach u c e g = record { front = g.back; back = c ∷ []; parts = rw (g.parts, g.front_is) refl; front_is = g.back_is; back_is = ap (λ (y : ℕ). y ∷ []) (eqb-true c close_bracket e) }

closes_reaches : (st : List Frame) (t : List ℕ) (c : ℕ) → (c == close_bracket) ≡ true → IsOpen st t → Holds st t c (closes st)
unfolding closes
closes_reaches [] t c e h = refl
closes_reaches (in_list [] ∷ st) t c e h = ended (list no_items) st t c (OpensItem []) (λ u. behind_push open_bracket (Joined (SpellsFrontItems []) AreSpaces) (SpellsItems no_items) u c (λ w g. no_items_reach w c e g)) h
closes_reaches (in_list (d ∷ ds) ∷ st) t c e h = refl
closes_reaches (in_dict ms k ∷ st) t c e h = refl

value_reaches : (lim : Bool) (st : List Frame) (t : List ℕ) (c : ℕ) → Reached value st t → Holds st t c (in_value lim st c)
unfolding in_value
value_reaches lim st t c h =
    holds_cond st t c (is_space c) _ _ (λ e. open_push st t c e h) (λ _.
    holds_cond st t c (c == quote) _ _ (λ e. joined_new (IsOpen st) (OpenText bare []) t c h (text_opens c e)) (λ _.
    holds_cond st t c (c == open_bracket) _ _ (λ e. deepens_reaches lim st t c (go value (in_list [] ∷ st)) (opens_bracket c e) h (joined_new (IsOpen st) (OpensItem []) t c h (behind_new open_bracket (Joined (SpellsFrontItems []) AreSpaces) c e (record { front = []; back = []; parts = refl; front_is = refl; back_is = tt })))) (λ _.
    holds_cond st t c (c == open_brace) _ _ (λ e. deepens_reaches lim st t c (go first st) (opens_brace c e) h (joined_new (IsOpen st) (Behind open_brace AreSpaces) t c h (behind_new open_brace AreSpaces c e tt))) (λ _.
    holds_cond st t c (c == 110) _ _ (λ e. joined_new (IsOpen st) (λ u. Spells null (u ++ 117 ∷ 108 ∷ 108 ∷ [])) t c h (word_new c 110 (117 ∷ 108 ∷ 108 ∷ []) e)) (λ _.
    holds_cond st t c (c == 116) _ _ (λ e. joined_new (IsOpen st) (λ u. Spells (boolean true) (u ++ 114 ∷ 117 ∷ 101 ∷ [])) t c h (word_new c 116 (114 ∷ 117 ∷ 101 ∷ []) e)) (λ _.
    holds_cond st t c (c == 102) _ _ (λ e. joined_new (IsOpen st) (λ u. Spells (boolean false) (u ++ 97 ∷ 108 ∷ 115 ∷ 101 ∷ [])) t c h (word_new c 102 (97 ∷ 108 ∷ 115 ∷ 101 ∷ []) e)) (λ _.
    holds_cond st t c (c == close_bracket) _ _ (λ e. closes_reaches st t c e h) (λ _.
    holds_grown st t c (next_part Start c) (stop Syntax 0) [] (λ _. refl) (λ q e. joined_new (IsOpen st) (OpenNumber q (c ∷ [])) t c h (record { parts = refl; part_is = e }))))))))))

word_reaches : (ws : List ℕ) (d : Data) (st : List Frame) (t : List ℕ) (c : ℕ) → Reached (word ws d) st t → Holds st t c (in_word ws d st c)
unfolding in_word
word_reaches [] d st t c h = refl
word_reaches (w ∷ []) d st t c h =
    holds_cond st t c (c == w) _ _ (λ e. ended d st t c (λ u. Spells d (u ++ w ∷ [])) (λ u s. subst (λ (x : ℕ). Spells d (u ++ x ∷ [])) (sym (eqb-true c w e)) s) h) (λ _. refl)
word_reaches (w ∷ x ∷ ws) d st t c h =
    holds_cond st t c (c == w) _ _ (λ e. joined_push (IsOpen st) (λ u. Spells d (u ++ (w ∷ x ∷ ws))) (λ u. Spells d (u ++ (x ∷ ws))) t c (λ u s. subst (Spells d) (ap (λ (y : ℕ). u ++ (y ∷ x ∷ ws)) (sym (eqb-true c w e)) ∙ sym (append_assoc u (c ∷ []) (x ∷ ws))) s) h) (λ _. refl)

-- a half without a partner in a string
lone_stops : (st : List Frame) (t outer inner s : List ℕ) (c back : ℕ) → t ≡ outer ++ inner → IsOpen st outer ⊎ ((ms : Members) × AwaitsKey st ms outer) → LoneEnd s inner c back → Alone t c back
lone_stops st t outer inner s c back e o h = record {
  pre = outer ++ quote ∷ h.inner;
  half_is = h.half_is;
  parts = rw (e, append_assoc outer inner (c ∷ []), h.parts) (simp append_assoc);
  open_is = record { outer = outer; inner = h.inner; parts = refl; within = st; outer_is = o; means = s; inner_is = h.inner_is };
  lone = h.lone;
  back_is = h.back_is;
}

chars_told : (s : List ℕ) (st : List Frame) (t : List ℕ) (c : ℕ) (q : Within) (n : Inside) → (h : Joined (IsOpen st) (OpenText q s) t) → TextHolds s h.back c n → Holds st t c (chars_next s st n)
chars_told s st t c q (goes r x) h g = record { front = h.front; back = h.back ++ c ∷ []; parts = rw h.parts (append_assoc h.front h.back (c ∷ [])); front_is = h.front_is; back_is = g }
chars_told s st t c q ends h g = record { front = h.front; back = h.back ++ c ∷ []; parts = rw h.parts (append_assoc h.front h.back (c ∷ [])); front_is = h.front_is; back_is = joined_end (Spells (text s)) AreSpaces (h.back ++ c ∷ []) g tt }
chars_told s st t c q breaks h g = refl
chars_told s st t c q (lone back) h g = lone_stops st t h.front h.back s c back h.parts (inl h.front_is) g

chars_reaches : (q : Within) (s : List ℕ) (st : List Frame) (t : List ℕ) (c : ℕ) → Reached (chars q s) st t → Holds st t c (in_chars q s st c)
unfolding in_chars
chars_reaches q s st t c h = chars_told s st t c q (in_text q s c) h (text_step q s h.back c h.back_is)

after_reaches : (d : Data) (st : List Frame) (t : List ℕ) (c : ℕ) → Reached (after d) st t → Holds st t c (in_after d st c)
unfolding in_after
after_reaches d [] t c h = holds_cond [] t c (is_space c) _ _ (λ e. after_push d [] t c e h) (λ _. refl)
after_reaches d (in_list ds ∷ st) t c h =
    let st' = in_list ds ∷ st in
    holds_cond st' t c (is_space c) _ _ (λ e. after_push d st' t c e h) (λ _.
    holds_cond st' t c (c == comma) _ _ (λ e. next_item_reaches ds d st t c e (item_done ds d st t h)) (λ _.
    holds_cond st' t c (c == close_bracket) _ _ (λ e. last_item_reaches ds d st t c e (item_done ds d st t h)) (λ _. refl)))
after_reaches d (in_dict ms k ∷ st) t c h =
    let st' = in_dict ms k ∷ st in
    holds_cond st' t c (is_space c) _ _ (λ e. after_push d st' t c e h) (λ _.
    holds_cond st' t c (c == comma) _ _ (λ e. comma_reaches ms k d st t c e (done_of ms k d st t h)) (λ _.
    holds_cond st' t c (c == close_brace) _ _ (λ e. close_reaches ms k d st t c e (done_of ms k d st t h)) (λ _. refl)))

-- the number has ended
pub number_done : (p : Part) (s : List ℕ) (st : List Frame) (t : List ℕ) → may_end p ≡ true → Reached (figure p s) st t → Reached (after (number s)) st t
number_done p s st t may h = record {
  front = h.front;
  back = h.back;
  parts = h.parts;
  front_is = h.front_is;
  back_is = joined_end (Spells (number s)) AreSpaces h.back (h.back_is.parts, part_is_numeral p s may h.back_is.part_is) tt;
}

judged_reaches : (lim : Bool) (p : Part) (s : List ℕ) (st : List Frame) (t : List ℕ) (c : ℕ) → may_end p ≡ true → ((cs : List ℕ) → EndsNumber s (c ∷ cs)) → Reached (figure p s) st t → Holds st t c (in_judged lim s st c)
unfolding in_judged
judged_reaches lim p s st t c may longest h =
    holds_cond st t c (lim && is_over s) _ _
    (λ e. record {
      spelled = s;
      before = record { front = h.front; back = h.back; parts = h.parts; front_is = h.front_is; back_is = h.back_is.parts };
      number_is = part_is_numeral p s may h.back_is.part_is;
      back_is = refl;
      longest = longest;
      over = (and_parts lim (is_over s) e).1;
    })
    (λ _. after_reaches (number s) st t c (number_done p s st t may h))

figure_reaches : (lim : Bool) (p : Part) (s : List ℕ) (st : List Frame) (t : List ℕ) (c : ℕ) → Reached (figure p s) st t → Holds st t c (in_figure lim p s st c)
unfolding in_figure
figure_reaches lim p s st t c h =
    holds_grown st t c (next_part p c) _ s
    (λ n. holds_cond st t c (may_end p) _ _ (λ may. judged_reaches lim p s st t c may (λ cs. part_longest p s c cs h.back_is.part_is n) h) (λ _. refl))
    (λ q e. number_push p q s st t c e h)

-- an opening brace and spaces await a key, with no members yet
pub awaits_first : (st : List Frame) (t : List ℕ) → Reached first st t → AwaitsKey st [] t
awaits_first st t h = record {
  front = h.front;
  back = h.back;
  parts = h.parts;
  front_is = h.front_is;
  back_is = record { tail = h.back_is.tail; parts = h.back_is.parts; tail_is = record { front = []; back = h.back_is.tail; parts = refl; front_is = refl; back_is = h.back_is.tail_is } };
}

quote_reaches : (ms : Members) (st : List Frame) (t : List ℕ) (c : ℕ) → (c == quote) ≡ true → AwaitsKey st ms t → Reached (key_chars ms 1 bare []) st (t ++ c ∷ [])
quote_reaches ms st t c e h = (record { front = t; back = c ∷ []; parts = refl; front_is = h; back_is = text_opens c e }, refl)

first_reaches : (st : List Frame) (t : List ℕ) (c : ℕ) → Reached first st t → Holds st t c (in_first st c)
unfolding in_first
first_reaches st t c h =
    holds_cond st t c (is_space c) _ _ (λ e. joined_push (IsOpen st) (Behind open_brace AreSpaces) (Behind open_brace AreSpaces) t c (λ u. behind_push open_brace AreSpaces AreSpaces u c (λ w. spaces_push w c e)) h) (λ _.
    holds_cond st t c (c == quote) _ _ (λ e. quote_reaches [] st t c e (awaits_first st t h)) (λ _.
    holds_cond st t c (c == close_brace) _ _ (λ e. ended (dict no_members) st t c (Behind open_brace AreSpaces) (λ u. behind_push open_brace AreSpaces (SpellsMembers no_members) u c (λ w g. joined_new AreSpaces (λ x. x ≡ close_brace ∷ []) w c g (ap (λ (y : ℕ). y ∷ []) (eqb-true c close_brace e)))) h) (λ _. refl)))

key_reaches : (ms : Members) (st : List Frame) (t : List ℕ) (c : ℕ) → Reached (key ms) st t → Holds st t c (in_key ms st c)
unfolding in_key
key_reaches ms st t c h =
    holds_cond st t c (is_space c) _ _ (λ e. joined_push (IsOpen st) (Opened ms AreSpaces) (Opened ms AreSpaces) t c (λ u. opened_push ms AreSpaces AreSpaces u c (λ w. spaces_push w c e)) h) (λ _.
    holds_cond st t c (c == quote) _ _ (λ e. quote_reaches ms st t c e h) (λ _. refl))

-- the key has ended
pub key_ends : (ms : Members) (s : List ℕ) (st : List Frame) (t quoted : List ℕ) → AwaitsKey st ms t → SpellsText s quoted → Reached (behind_key ms s) st (t ++ quoted)
key_ends ms s st t quoted a e =
    let b = a.back_is in
    let j = b.tail_is in
    record {
      front = a.front;
      back = open_brace ∷ (j.front ++ (j.back ++ quoted));
      parts = rw (a.parts, b.parts, j.parts) (simp append_assoc);
      front_is = a.front_is;
      back_is = record {
        tail = j.front ++ (j.back ++ quoted);
        parts = refl;
        tail_is = record {
          front = j.front;
          back = j.back ++ quoted;
          parts = refl;
          front_is = j.front_is;
          back_is = record { before = j.back; quoted = quoted; behind = []; parts = ap (λ (x : List ℕ). j.back ++ x) (sym (append-nil quoted)); before_is = j.back_is; quoted_is = e; behind_is = tt };
        };
      };
    }

key_told : (lim : Bool) (ms : Members) (n : ℕ) (q : Within) (s : List ℕ) (st : List Frame) (t : List ℕ) (c : ℕ) (i : Inside) → (h : Reached (key_chars ms n q s) st t) → TextHolds s h.0.back c i → Holds st t c (key_chars_next lim ms n s st i)
key_told lim ms n q s st t c (goes r x) h g = (record { front = h.0.front; back = h.0.back ++ c ∷ []; parts = rw h.0.parts (append_assoc h.0.front h.0.back (c ∷ [])); front_is = h.0.front_is; back_is = g }, omega (arith, h.1, length-append h.0.back (c ∷ [])))
key_told lim ms n q s st t c ends h g =
    let same : t ++ c ∷ [] ≡ h.0.front ++ (h.0.back ++ c ∷ []) = rw h.0.parts (append_assoc h.0.front h.0.back (c ∷ [])) in
    holds_cond st t c (lim && has_key s ms) _ _
    (λ d. record {
      members = ms;
      key = s;
      inner = g.inner;
      pre = h.0.front;
      parts = same ∙ ap (λ (x : List ℕ). h.0.front ++ x) g.parts;
      before = h.0.front_is;
      key_is = g.inner_is;
      back_is = omega (arith, h.1, ap length g.parts, length-append h.0.back (c ∷ []), length-append g.inner (quote ∷ []));
      known = (and_parts lim (has_key s ms) d).1;
    })
    (λ _. subst (λ (x : List ℕ). Reached (behind_key ms s) st x) (sym same) (key_ends ms s st h.0.front (h.0.back ++ c ∷ []) h.0.front_is g))
key_told lim ms n q s st t c breaks h g = refl
key_told lim ms n q s st t c (lone back) h g = lone_stops st t h.0.front h.0.back s c back h.0.parts (inr (ms, h.0.front_is)) g

key_chars_reaches : (lim : Bool) (ms : Members) (n : ℕ) (q : Within) (s : List ℕ) (st : List Frame) (t : List ℕ) (c : ℕ) → Reached (key_chars ms n q s) st t → Holds st t c (in_key_chars lim ms n q s st c)
unfolding in_key_chars
key_chars_reaches lim ms n q s st t c h = key_told lim ms n q s st t c (in_text q s c) h (text_step q s h.0.back c h.0.back_is)

behind_key_reaches : (ms : Members) (k : List ℕ) (st : List Frame) (t : List ℕ) (c : ℕ) → Reached (behind_key ms k) st t → Holds st t c (in_behind_key ms k st c)
unfolding in_behind_key
behind_key_reaches ms k st t c h =
    holds_cond st t c (is_space c) _ _ (λ e. joined_push (IsOpen st) (Opened ms (SpellsKey k)) (Opened ms (SpellsKey k)) t c (λ u. opened_push ms (SpellsKey k) (SpellsKey k) u c (λ w. key_push k w c e)) h) (λ _.
    holds_cond st t c (c == colon) _ _ (λ e. joined_push (IsOpen st) (Opened ms (SpellsKey k)) (OpensMember ms k) t c (λ u. opened_push ms (SpellsKey k) (Joined (SpellsKey k) (Behind colon AreSpaces)) u c (λ w g. joined_new (SpellsKey k) (Behind colon AreSpaces) w c g (behind_new colon AreSpaces c e tt))) h) (λ _. refl))

pub step_reaches : (lim : Bool) (m : Mode) (st : List Frame) (t : List ℕ) (c : ℕ) → Reached m st t → Holds st t c (step lim m st c)
step_reaches lim value st t c h = value_reaches lim st t c h
step_reaches lim (word ws d) st t c h = word_reaches ws d st t c h
step_reaches lim (chars q s) st t c h = chars_reaches q s st t c h
step_reaches lim (figure p s) st t c h = figure_reaches lim p s st t c h
step_reaches lim (after d) st t c h = after_reaches d st t c h
step_reaches lim first st t c h = first_reaches st t c h
step_reaches lim (key ms) st t c h = key_reaches ms st t c h
step_reaches lim (key_chars ms n q s) st t c h = key_chars_reaches lim ms n q s st t c h
step_reaches lim (behind_key ms k) st t c h = behind_key_reaches ms k st t c h
