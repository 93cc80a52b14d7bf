-- The outline that the code makes of a text of a value says where each value in it stands.
use Rattle.std.proofs.Common.{◌≡◌, ℕ, suc, List, [], ◌∷◌, ◌++◌, length, drop, refl, sym, ap, subst, ◌∙◌, append_assoc, arith}
use Rattle.std.proofs.lemmas.List.{length-append}
use Rattle.asl_json_data.specs.Data.{Data, null, boolean, number, text, list, dict, Chain, no_items, item, Pairs, no_members, member}
use Rattle.asl_json_data.specs.Distinct.{Members}
use Rattle.asl_json_data.specs.Grammar.{colon, open_bracket, close_bracket, open_brace, close_brace, AreSpaces, Padded, IsMember, Spells, IsText, item_parts, member_parts}
use Rattle.asl_json_data.specs.Parts.{comma, Joined, MoreParts, Parts}
use Rattle.asl_json_data.specs.Text.{SpellsText}
use Rattle.asl_json_scan.specs.Open.{Frame, in_list, in_dict, SpellsFrontItems, SpellsFront, IsOpen, AwaitsKey}
use Rattle.asl_json_scan.proofs.Reaching.{front_push}
use Rattle.asl_json_spans.specs.declared.span.Span.{Span}
use Rattle.asl_json_spans.specs.declared.span.Node.{Node}
use Rattle.asl_json_spans.specs.Places.{Place, place, places, item_places, member_places}
use Rattle.asl_json_spans.specs.Standing.{Between, KeyStands, Stands, AllStand, IsOutline}
use Rattle.asl_json_spans.specs.private.Marks.{behind_spaces, behind_text, behind_mark, at_value, behind, span_of, key_span, no_key, marks, item_marks, member_marks}
use Rattle.asl_json_spans.proofs.Skipping.{spaces_skipped, value_stays, Left, marked, bracket_no_space, brace_no_space}
use Rattle.asl_json_spans.proofs.Behind.{item_begins, item_ends, key_begins, key_ends, member_begins, member_ends, value_ends}
use Rattle.asl_json_spans.proofs.Opening.{item_opens, key_awaited, member_opens, items_push}

pub all_append : (b : List ℕ) (ps qs : List Place) (ns ms : List Node) → AllStand b ps ns → AllStand b qs ms → AllStand b (ps ++ qs) (ns ++ ms)
all_append b [] qs [] ms h k = k
all_append b [] qs (n ∷ ns) ms h k = absurd h
all_append b (p ∷ ps) qs [] ms h k = absurd h
all_append b (p ∷ ps) qs (n ∷ ns) ms h k = (h.0, all_append b ps qs ns ms h.1 k)

pub all_length : (b : List ℕ) (ps : List Place) (ns : List Node) → AllStand b ps ns → length ns ≡ length ps
all_length b [] [] h = refl
all_length b [] (n ∷ ns) h = absurd h
all_length b (p ∷ ps) [] h = absurd h
all_length b (p ∷ ps) (n ∷ ns) h = ap suc (all_length b ps ns h.1)

between : (A B : List ℕ → Type 0) (b before inner rest from to : List ℕ) (len : ℕ) → len ≡ length b → b ≡ before ++ (inner ++ rest) → from ≡ inner ++ rest → to ≡ rest → A before → B inner → Between A B b (span_of len from to)
between A B b before inner rest from to len l e f t a h = record {
  before = before;
  inner = inner;
  behind = rest;
  parts = e;
  begin_is = omega (arith, l, ap length e, ap length f, length-append before (inner ++ rest));
  end_is = omega (arith, l, ap length e, ap length t, length-append before (inner ++ rest), length-append inner rest);
  before_is = a;
  inner_is = h;
}

-- a value by itself
own : (d : Data) (b pre inner rest : List ℕ) (st : List Frame) (key : Span) (len : ℕ) (parts : List Place) (inside : List Node) → len ≡ length b → b ≡ pre ++ (inner ++ rest) → IsOpen st pre → Spells d inner → KeyStands b st key
    → places st d ≡ place st d ∷ parts → length inside ≡ length parts
    → Stands b (place st d) (record { key = key; value = span_of len (inner ++ rest) (behind d (inner ++ rest)); size = suc (length inside) })
own d b pre inner rest st key len parts inside l e o s k is n = record {
  key = k;
  value = between (IsOpen st) (Spells d) b pre inner rest (inner ++ rest) (behind d (inner ++ rest)) len l e refl (value_ends d inner rest s) o s;
  size = ap suc n ∙ sym (ap length is);
}

-- the items behind one, where there are any
items_more : (ds : Chain) (d : Data) (b pre front padded back rest : List ℕ) (st : List Frame) (seen : List Data) (len : ℕ) → b ≡ pre ++ open_bracket ∷ (front ++ (padded ++ (back ++ rest))) → SpellsFrontItems seen front → Padded (Spells d) padded → (h : MoreParts close_bracket (item_parts ds) back)
    → ((front' left' : List ℕ) → b ≡ pre ++ open_bracket ∷ (front' ++ (left' ++ rest)) → SpellsFrontItems (seen ++ d ∷ []) front' → Left close_bracket (item_parts ds) left' → AllStand b (item_places st (seen ++ d ∷ []) ds) (item_marks len ds (left' ++ rest)))
    → AllStand b (item_places st (seen ++ d ∷ []) ds) (item_marks len ds ((marked close_bracket (item_parts ds) back bracket_no_space h).tail ++ rest))
items_more no_items d b pre front padded back rest st seen len e f p h more = tt
items_more (item x xs) d b pre front padded back rest st seen len e f p h more =
    let e2 : b ≡ pre ++ open_bracket ∷ ((front ++ (padded ++ comma ∷ [])) ++ (h.tail ++ rest)) = e ∙ rw h.parts (simp append_assoc) in
    more (front ++ (padded ++ comma ∷ [])) h.tail e2 (items_push seen d front padded f p) h.tail_is

members_more : (ms : Pairs) (k : List ℕ) (d : Data) (b pre front whole back rest : List ℕ) (st : List Frame) (seen : Members) (len : ℕ) → b ≡ pre ++ open_brace ∷ (front ++ (whole ++ (back ++ rest))) → SpellsFront seen front → IsMember k (Spells d) whole → (h : MoreParts close_brace (member_parts ms) back)
    → ((front' left' : List ℕ) → b ≡ pre ++ open_brace ∷ (front' ++ (left' ++ rest)) → SpellsFront (seen ++ (k, d) ∷ []) front' → Left close_brace (member_parts ms) left' → AllStand b (member_places st (seen ++ (k, d) ∷ []) ms) (member_marks len ms (left' ++ rest)))
    → AllStand b (member_places st (seen ++ (k, d) ∷ []) ms) (member_marks len ms ((marked close_brace (member_parts ms) back brace_no_space h).tail ++ rest))
members_more no_members k d b pre front whole back rest st seen len e f p h more = tt
members_more (member l x xs) k d b pre front whole back rest st seen len e f p h more =
    let e2 : b ≡ pre ++ open_brace ∷ ((front ++ (whole ++ comma ∷ [])) ++ (h.tail ++ rest)) = e ∙ rw h.parts (simp append_assoc) in
    more (front ++ (whole ++ comma ∷ [])) h.tail e2 (front_push seen k d front whole f p) h.tail_is

-- the key of a member
key_stands : (k : List ℕ) (d : Data) (Ps : List (List ℕ → Type 0)) (b pre front left rest : List ℕ) (st : List Frame) (seen : Members) (len : ℕ) → len ≡ length b → b ≡ pre ++ open_brace ∷ (front ++ (left ++ rest)) → IsOpen st pre → SpellsFront seen front
    → (j : Joined (IsMember k (Spells d)) (MoreParts close_brace Ps) left) → KeyStands b (in_dict seen k ∷ st) (key_span len (left ++ rest))
key_stands k d Ps b pre front left rest st seen len l e o f j =
    let m = j.front_is in
    let q = m.key_is in
    let more = q.behind ++ colon ∷ (m.value ++ (j.back ++ rest)) in
    let e2 : b ≡ (pre ++ open_brace ∷ (front ++ q.before)) ++ (q.quoted ++ more) = e ∙ rw (j.parts, m.parts, q.parts) (simp append_assoc) in
    between (AwaitsKey st seen) (SpellsText k) b (pre ++ open_brace ∷ (front ++ q.before)) q.quoted more (behind_spaces (left ++ rest)) (behind_text (behind_spaces (left ++ rest))) len l e2 (key_begins k d Ps left rest j) (key_ends k d Ps left rest j) (key_awaited st seen pre front q.before o f q.before_is) q.quoted_is

-- where a value stands wherever it is spelled
abbrev Marks : Data → Type 0
Marks d = (b pre inner rest : List ℕ) (st : List Frame) (key : Span) (len : ℕ) → len ≡ length b → b ≡ pre ++ (inner ++ rest) → IsOpen st pre → Spells d inner → KeyStands b st key → AllStand b (places st d) (marks len key d (inner ++ rest))

item_marked : (d : Data) (ds : Chain) (b pre front left rest : List ℕ) (st : List Frame) (seen : List Data) (len : ℕ) → len ≡ length b → b ≡ pre ++ open_bracket ∷ (front ++ (left ++ rest)) → IsOpen st pre → SpellsFrontItems seen front → (j : Joined (Padded (Spells d)) (MoreParts close_bracket (item_parts ds)) left) → Marks d
    → ((front' left' : List ℕ) → b ≡ pre ++ open_bracket ∷ (front' ++ (left' ++ rest)) → SpellsFrontItems (seen ++ d ∷ []) front' → Left close_bracket (item_parts ds) left' → AllStand b (item_places st (seen ++ d ∷ []) ds) (item_marks len ds (left' ++ rest)))
    → AllStand b (item_places st seen (item d ds)) (item_marks len (item d ds) (left ++ rest))
item_marked d ds b pre front left rest st seen len l e o f j value more =
    let p = j.front_is in
    let tail = p.behind ++ (j.back ++ rest) in
    let e2 : b ≡ (pre ++ open_bracket ∷ (front ++ p.before)) ++ (p.inner ++ tail) = e ∙ rw (j.parts, p.parts) (simp append_assoc) in
    let e3 : b ≡ pre ++ open_bracket ∷ (front ++ (j.front ++ (j.back ++ rest))) = e ∙ rw j.parts (simp append_assoc) in
    let one = value b (pre ++ open_bracket ∷ (front ++ p.before)) p.inner tail (in_list seen ∷ st) (no_key len (p.inner ++ tail)) len l e2 (item_opens st seen pre front p.before o f p.before_is) p.inner_is tt in
    let others = items_more ds d b pre front j.front j.back rest st seen len e3 f p j.back_is more in
    all_append b (places (in_list seen ∷ st) d) (item_places st (seen ++ d ∷ []) ds) (marks len (no_key len (behind_spaces (left ++ rest))) d (behind_spaces (left ++ rest))) (item_marks len ds (behind_mark (behind d (behind_spaces (left ++ rest)))))
    (subst (λ (x : List ℕ). AllStand b (places (in_list seen ∷ st) d) (marks len (no_key len x) d x)) (sym (item_begins d (item_parts ds) left rest j)) one)
    (subst (λ (x : List ℕ). AllStand b (item_places st (seen ++ d ∷ []) ds) (item_marks len ds x)) (sym (item_ends d (item_parts ds) left rest j (value_ends d))) others)

member_marked : (k : List ℕ) (d : Data) (ms : Pairs) (b pre front left rest : List ℕ) (st : List Frame) (seen : Members) (len : ℕ) → len ≡ length b → b ≡ pre ++ open_brace ∷ (front ++ (left ++ rest)) → IsOpen st pre → SpellsFront seen front → (j : Joined (IsMember k (Spells d)) (MoreParts close_brace (member_parts ms)) left) → Marks d
    → ((front' left' : List ℕ) → b ≡ pre ++ open_brace ∷ (front' ++ (left' ++ rest)) → SpellsFront (seen ++ (k, d) ∷ []) front' → Left close_brace (member_parts ms) left' → AllStand b (member_places st (seen ++ (k, d) ∷ []) ms) (member_marks len ms (left' ++ rest)))
    → AllStand b (member_places st seen (member k d ms)) (member_marks len (member k d ms) (left ++ rest))
member_marked k d ms b pre front left rest st seen len l e o f j value more =
    let m = j.front_is in
    let p = m.value_is in
    let tail = p.behind ++ (j.back ++ rest) in
    let pre2 = pre ++ open_brace ∷ (front ++ (m.key ++ colon ∷ p.before)) in
    let e2 : b ≡ pre2 ++ (p.inner ++ tail) = e ∙ rw (j.parts, m.parts, p.parts) (simp append_assoc) in
    let e3 : b ≡ pre ++ open_brace ∷ (front ++ (j.front ++ (j.back ++ rest))) = e ∙ rw j.parts (simp append_assoc) in
    let key = key_stands k d (member_parts ms) b pre front left rest st seen len l e o f j in
    let one = value b pre2 p.inner tail (in_dict seen k ∷ st) (key_span len (left ++ rest)) len l e2 (member_opens st seen k pre front m.key p.before o f m.key_is p.before_is) p.inner_is key in
    let others = members_more ms k d b pre front j.front j.back rest st seen len e3 f m j.back_is more in
    all_append b (places (in_dict seen k ∷ st) d) (member_places st (seen ++ (k, d) ∷ []) ms) (marks len (key_span len (left ++ rest)) d (at_value (left ++ rest))) (member_marks len ms (behind_mark (behind d (at_value (left ++ rest)))))
    (subst (λ (x : List ℕ). AllStand b (places (in_dict seen k ∷ st) d) (marks len (key_span len (left ++ rest)) d x)) (sym (member_begins k d (member_parts ms) left rest j)) one)
    (subst (λ (x : List ℕ). AllStand b (member_places st (seen ++ (k, d) ∷ []) ms) (member_marks len ms x)) (sym (member_ends k d (member_parts ms) left rest j (value_ends d))) others)

mutual
  pub value_marked : (d : Data) (b pre inner rest : List ℕ) (st : List Frame) (key : Span) (len : ℕ) → len ≡ length b → b ≡ pre ++ (inner ++ rest) → IsOpen st pre → Spells d inner → KeyStands b st key → AllStand b (places st d) (marks len key d (inner ++ rest))
  value_marked null b pre inner rest st key len l e o s k = (own null b pre inner rest st key len [] [] l e o s k refl refl, tt)
  value_marked (boolean x) b pre inner rest st key len l e o s k = (own (boolean x) b pre inner rest st key len [] [] l e o s k refl refl, tt)
  value_marked (number n) b pre inner rest st key len l e o s k = (own (number n) b pre inner rest st key len [] [] l e o s k refl refl, tt)
  value_marked (text t) b pre inner rest st key len l e o s k = (own (text t) b pre inner rest st key len [] [] l e o s k refl refl, tt)
  value_marked (list ds) b pre inner rest st key len l e o s k =
      let e2 : b ≡ pre ++ open_bracket ∷ (s.tail ++ rest) = e ∙ ap (λ (x : List ℕ). pre ++ (x ++ rest)) s.parts in
      let inside = list_marked ds b pre s.tail rest st len l e2 o s.tail_is in
      let there : AllStand b (item_places st [] ds) (item_marks len ds (drop 1 (inner ++ rest))) = subst (λ (x : List ℕ). AllStand b (item_places st [] ds) (item_marks len ds (drop 1 (x ++ rest)))) (sym s.parts) inside in
      (own (list ds) b pre inner rest st key len (item_places st [] ds) (item_marks len ds (drop 1 (inner ++ rest))) l e o s k refl (all_length b (item_places st [] ds) (item_marks len ds (drop 1 (inner ++ rest))) there), there)
  value_marked (dict ms) b pre inner rest st key len l e o s k =
      let e2 : b ≡ pre ++ open_brace ∷ (s.tail ++ rest) = e ∙ ap (λ (x : List ℕ). pre ++ (x ++ rest)) s.parts in
      let inside = dict_marked ms b pre s.tail rest st len l e2 o s.tail_is in
      let there : AllStand b (member_places st [] ms) (member_marks len ms (drop 1 (inner ++ rest))) = subst (λ (x : List ℕ). AllStand b (member_places st [] ms) (member_marks len ms (drop 1 (x ++ rest)))) (sym s.parts) inside in
      (own (dict ms) b pre inner rest st key len (member_places st [] ms) (member_marks len ms (drop 1 (inner ++ rest))) l e o s k refl (all_length b (member_places st [] ms) (member_marks len ms (drop 1 (inner ++ rest))) there), there)

  list_marked : (ds : Chain) (b pre left rest : List ℕ) (st : List Frame) (len : ℕ) → len ≡ length b → b ≡ pre ++ open_bracket ∷ (left ++ rest) → IsOpen st pre → Parts AreSpaces close_bracket (item_parts ds) left → AllStand b (item_places st [] ds) (item_marks len ds (left ++ rest))
  list_marked no_items b pre left rest st len l e o h = tt
  list_marked (item d ds) b pre left rest st len l e o h = item_marked d ds b pre [] left rest st [] len l e o refl h (value_marked d) (λ front' left' e' f' h'. items_marked ds b pre front' left' rest st (d ∷ []) len l e' o f' h')

  items_marked : (ds : Chain) (b pre front left rest : List ℕ) (st : List Frame) (seen : List Data) (len : ℕ) → len ≡ length b → b ≡ pre ++ open_bracket ∷ (front ++ (left ++ rest)) → IsOpen st pre → SpellsFrontItems seen front → Left close_bracket (item_parts ds) left → AllStand b (item_places st seen ds) (item_marks len ds (left ++ rest))
  items_marked no_items b pre front left rest st seen len l e o f h = tt
  items_marked (item d ds) b pre front left rest st seen len l e o f h = item_marked d ds b pre front left rest st seen len l e o f h (value_marked d) (λ front' left' e' f' h'. items_marked ds b pre front' left' rest st (seen ++ d ∷ []) len l e' o f' h')

  dict_marked : (ms : Pairs) (b pre left rest : List ℕ) (st : List Frame) (len : ℕ) → len ≡ length b → b ≡ pre ++ open_brace ∷ (left ++ rest) → IsOpen st pre → Parts AreSpaces close_brace (member_parts ms) left → AllStand b (member_places st [] ms) (member_marks len ms (left ++ rest))
  dict_marked no_members b pre left rest st len l e o h = tt
  dict_marked (member k d ms) b pre left rest st len l e o h = member_marked k d ms b pre [] left rest st [] len l e o refl h (value_marked d) (λ front' left' e' f' h'. members_marked ms b pre front' left' rest st ((k, d) ∷ []) len l e' o f' h')

  members_marked : (ms : Pairs) (b pre front left rest : List ℕ) (st : List Frame) (seen : Members) (len : ℕ) → len ≡ length b → b ≡ pre ++ open_brace ∷ (front ++ (left ++ rest)) → IsOpen st pre → SpellsFront seen front → Left close_brace (member_parts ms) left → AllStand b (member_places st seen ms) (member_marks len ms (left ++ rest))
  members_marked no_members b pre front left rest st seen len l e o f h = tt
  members_marked (member k d ms) b pre front left rest st seen len l e o f h = member_marked k d ms b pre front left rest st seen len l e o f h (value_marked d) (λ front' left' e' f' h'. members_marked ms b pre front' left' rest st (seen ++ (k, d) ∷ []) len l e' o f' h')

pub text_marked : (d : Data) (b : List ℕ) → IsText b d → IsOutline b d (marks (length b) (no_key (length b) (behind_spaces b)) d (behind_spaces b))
text_marked d b h =
    let begin : behind_spaces b ≡ h.inner ++ h.behind = ap behind_spaces h.parts ∙ spaces_skipped h.before (h.inner ++ h.behind) h.before_is ∙ value_stays d h.inner h.behind h.inner_is in
    subst (λ (x : List ℕ). AllStand b (places [] d) (marks (length b) (no_key (length b) x) d x)) (sym begin) (value_marked d b h.before h.inner h.behind [] (no_key (length b) (h.inner ++ h.behind)) (length b) refl h.parts h.before_is h.inner_is tt)
