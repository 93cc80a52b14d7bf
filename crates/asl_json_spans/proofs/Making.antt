-- What the code adds, part by part, is the outline.
use Rattle.std.proofs.Common.{◌≡◌, ℕ, zero, suc, ◌+◌, ◌-◌, ◌<◌, ◌≤◌, true, false, List, [], ◌∷◌, ◌++◌, length, get_or, set, drop, refl, sym, ap, ◌∙◌, append_assoc, arith}
use Rattle.std.proofs.lemmas.List.{drop_more, drop_all, append-nil}
use Rattle.asl_json_data.specs.Data.{Data, null, boolean, number, text, list, dict, chain, pairs}
use Rattle.asl_json.specs.View.{data_of, items_of, members_of}
use Rattle.asl_json_data.specs.Grammar.{is_space}
use Rattle.asl_json.specs.declared.value.Json.{Json}
use Rattle.asl_json.specs.declared.value.Member.{Member}
use Rattle.asl_json_spans.specs.declared.span.Span.{Span}
use Rattle.asl_json_spans.specs.declared.span.Node.{Node}
use Rattle.asl_json_spans.specs.private.Marks.{behind_spaces, behind_mark, at_value, behind, behind_list, behind_items, behind_dict, behind_members, span_of, key_span, no_key, node, marks, inner_marks, item_marks, member_marks, closed}

-- ---- bytes

pub space_steps : (xs : List ℕ) (i : ℕ) → i < length xs → is_space (get_or xs i 0) ≡ true → behind_spaces (drop i xs) ≡ behind_spaces (drop (i + 1) xs)
space_steps xs i lt e = ap behind_spaces (drop_more xs i 0 lt) ∙ rw e refl

pub space_stops : (xs : List ℕ) (i : ℕ) → i < length xs → is_space (get_or xs i 0) ≡ false → behind_spaces (drop i xs) ≡ drop i xs
space_stops xs i lt e = ap behind_spaces (drop_more xs i 0 lt) ∙ rw e (sym (drop_more xs i 0 lt))

pub spaces_out : (xs : List ℕ) (i : ℕ) → length xs ≤ i → behind_spaces (drop i xs) ≡ drop i xs
spaces_out xs i le = ap behind_spaces (drop_all i xs le) ∙ sym (drop_all i xs le)

-- ---- nodes

marks_is : (len : ℕ) (key : Span) (d : Data) (bs : List ℕ) → marks len key d bs ≡ node key (span_of len bs (behind d bs)) (inner_marks len d bs)
marks_is len key null bs = refl
marks_is len key (boolean b) bs = refl
marks_is len key (number s) bs = refl
marks_is len key (text s) bs = refl
marks_is len key (list ds) bs = refl
marks_is len key (dict ms) bs = refl

closed_seam : (xs : List Node) (n : Node) (ns : List Node) (end : ℕ) → closed ((xs ++ n ∷ []) ++ ns) (length xs) end ≡ xs ++ (record { key = n.key; value = record { begin = n.value.begin; end = end }; size = suc (length ns) } ∷ ns)
closed_seam [] n ns end = refl
closed_seam (x ∷ xs) n ns end = ap (λ (ys : List Node). x ∷ ys) (closed_seam xs n ns end)

pub value_closed : (len : ℕ) (key : Span) (d : Data) (bs rest : List ℕ) (old pushed now new : List Node) (at end size : ℕ) → at ≡ length old → pushed ≡ old ++ record { key = key; value = span_of len bs bs; size = size } ∷ [] → now ≡ pushed ++ inner_marks len d bs → rest ≡ behind d bs → end ≡ len - length rest → new ≡ closed now at end → new ≡ old ++ marks len key d bs
value_closed len key d bs rest old pushed now new at end size is_number is_pushed is_now is_rest is_end is_new =
    is_new
    ∙ ap (λ (k : ℕ). closed now k end) is_number
    ∙ ap (λ (xs : List Node). closed xs (length old) end) (is_now ∙ ap (λ (xs : List Node). xs ++ inner_marks len d bs) is_pushed)
    ∙ closed_seam old (record { key = key; value = span_of len bs bs; size = size }) (inner_marks len d bs) end
    ∙ ap (λ (k : ℕ). old ++ (record { key = key; value = record { begin = len - length bs; end = k }; size = suc (length (inner_marks len d bs)) } ∷ inner_marks len d bs)) (is_end ∙ ap (λ (xs : List ℕ). len - length xs) is_rest)
    ∙ ap (λ (xs : List Node). old ++ xs) (sym (marks_is len key d bs))

set_closed : (ns : List Node) (i : ℕ) (n : Node) (end size : ℕ) → i < length ns → get_or ns i n ≡ n → size ≡ length ns - i → set ns i (record { key = n.key; value = record { begin = n.value.begin; end = end }; size = size }) ≡ closed ns i end
set_closed [] i n end size lt e s = absurd (omega arith)
set_closed (m ∷ ns) zero n end size lt e s =
    let same : m ≡ n = e in
    let all : size ≡ suc (length ns) = omega arith in
    rw (same, all) refl
set_closed (m ∷ ns) (suc i) n end size lt e s = ap (λ (ys : List Node). m ∷ ys) (set_closed ns i n end size (omega arith) e (omega arith))

pub node_closed : (ns : List Node) (i : ℕ) (n m : Node) (end size : ℕ) → i < length ns → n ≡ get_or ns i n → size ≡ length ns - i → m ≡ record { key = n.key; value = record { begin = n.value.begin; end = end }; size = size } → set ns i m ≡ closed ns i end
node_closed ns i n m end size lt e s is = ap (set ns i) is ∙ set_closed ns i n end size lt (sym e) s

pub closed_past : (ns : List Node) (i end : ℕ) → length ns ≤ i → ns ≡ closed ns i end
closed_past [] i end le = refl
closed_past (n ∷ ns) zero end le = absurd (omega arith)
closed_past (n ∷ ns) (suc i) end le = ap (λ (ys : List Node). n ∷ ys) (closed_past ns i end (omega arith))

-- ---- items

pub some_items : (vs : List Json) (bs : List ℕ) → (length vs ≡ 0 → ⊥) → behind_items (chain (items_of vs)) bs ≡ behind_list (chain (items_of vs)) bs
some_items [] bs h = absurd (h refl)
some_items (v ∷ vs) bs h = refl

pub no_items_left : (vs : List Json) (bs rest : List ℕ) → length vs ≡ 0 → rest ≡ behind_mark bs → rest ≡ behind_list (chain (items_of vs)) bs
no_items_left [] bs rest h e = e
no_items_left (v ∷ vs) bs rest h e = absurd (omega arith)

pub no_items_marked : (len : ℕ) (vs : List Json) (bs : List ℕ) (ns : List Node) → length vs ≡ 0 → ns ≡ ns ++ item_marks len (chain (items_of vs)) bs
no_items_marked len [] bs ns h = sym (append-nil ns)
no_items_marked len (v ∷ vs) bs ns h = absurd (omega arith)

pub item_left : (vs : List Json) (i : ℕ) (v : Json) (rest next all : List ℕ) → i < length vs → v ≡ get_or vs i v → behind_items (chain (items_of (drop i vs))) rest ≡ all → next ≡ behind_mark (behind (data_of v) (behind_spaces rest)) → behind_items (chain (items_of (drop (i + 1) vs))) next ≡ all
item_left vs i v rest next all lt e h is =
    let d : drop i vs ≡ v ∷ drop (i + 1) vs = drop_more vs i v lt ∙ ap (λ (x : Json). x ∷ drop (i + 1) vs) (sym e) in
    ap (behind_items (chain (items_of (drop (i + 1) vs)))) is ∙ sym (ap (λ (xs : List Json). behind_items (chain (items_of xs)) rest) d) ∙ h

pub item_added : (len : ℕ) (vs : List Json) (i : ℕ) (v : Json) (rest next : List ℕ) (now new all : List Node) → i < length vs → v ≡ get_or vs i v → now ++ item_marks len (chain (items_of (drop i vs))) rest ≡ all
    → new ≡ now ++ marks len (no_key len (behind_spaces rest)) (data_of v) (behind_spaces rest) → next ≡ behind_mark (behind (data_of v) (behind_spaces rest)) → new ++ item_marks len (chain (items_of (drop (i + 1) vs))) next ≡ all
item_added len vs i v rest next now new all lt e h is is_next =
    let d : drop i vs ≡ v ∷ drop (i + 1) vs = drop_more vs i v lt ∙ ap (λ (x : Json). x ∷ drop (i + 1) vs) (sym e) in
    let more = item_marks len (chain (items_of (drop (i + 1) vs))) in
    ap (λ (ns : List Node). ns ++ more next) is ∙ ap (λ (x : List ℕ). (now ++ marks len (no_key len (behind_spaces rest)) (data_of v) (behind_spaces rest)) ++ more x) is_next
    ∙ append_assoc now (marks len (no_key len (behind_spaces rest)) (data_of v) (behind_spaces rest)) (more (behind_mark (behind (data_of v) (behind_spaces rest))))
    ∙ sym (ap (λ (xs : List Json). now ++ item_marks len (chain (items_of xs)) rest) d) ∙ h

pub items_left_none : (vs : List Json) (i : ℕ) (rest all : List ℕ) → length vs ≤ i → behind_items (chain (items_of (drop i vs))) rest ≡ all → rest ≡ all
items_left_none vs i rest all le h = sym (ap (λ (xs : List Json). behind_items (chain (items_of xs)) rest) (drop_all i vs le)) ∙ h

pub items_all_added : (len : ℕ) (vs : List Json) (i : ℕ) (rest : List ℕ) (now all : List Node) → length vs ≤ i → now ++ item_marks len (chain (items_of (drop i vs))) rest ≡ all → now ≡ all
items_all_added len vs i rest now all le h = sym (append-nil now) ∙ sym (ap (λ (xs : List Json). now ++ item_marks len (chain (items_of xs)) rest) (drop_all i vs le)) ∙ h

-- ---- members

pub some_members : (ms : List Member) (bs : List ℕ) → (length ms ≡ 0 → ⊥) → behind_members (pairs (members_of ms)) bs ≡ behind_dict (pairs (members_of ms)) bs
some_members [] bs h = absurd (h refl)
some_members (m ∷ ms) bs h = refl

pub no_members_left : (ms : List Member) (bs rest : List ℕ) → length ms ≡ 0 → rest ≡ behind_mark bs → rest ≡ behind_dict (pairs (members_of ms)) bs
no_members_left [] bs rest h e = e
no_members_left (m ∷ ms) bs rest h e = absurd (omega arith)

pub no_members_marked : (len : ℕ) (ms : List Member) (bs : List ℕ) (ns : List Node) → length ms ≡ 0 → ns ≡ ns ++ member_marks len (pairs (members_of ms)) bs
no_members_marked len [] bs ns h = sym (append-nil ns)
no_members_marked len (m ∷ ms) bs ns h = absurd (omega arith)

pub member_left : (ms : List Member) (i : ℕ) (m : Member) (rest next all : List ℕ) → i < length ms → m ≡ get_or ms i m → behind_members (pairs (members_of (drop i ms))) rest ≡ all → next ≡ behind_mark (behind (data_of m.value) (at_value rest)) → behind_members (pairs (members_of (drop (i + 1) ms))) next ≡ all
member_left ms i m rest next all lt e h is =
    let d : drop i ms ≡ m ∷ drop (i + 1) ms = drop_more ms i m lt ∙ ap (λ (x : Member). x ∷ drop (i + 1) ms) (sym e) in
    ap (behind_members (pairs (members_of (drop (i + 1) ms)))) is ∙ sym (ap (λ (xs : List Member). behind_members (pairs (members_of xs)) rest) d) ∙ h

pub member_added : (len : ℕ) (ms : List Member) (i : ℕ) (m : Member) (rest next : List ℕ) (now new all : List Node) → i < length ms → m ≡ get_or ms i m → now ++ member_marks len (pairs (members_of (drop i ms))) rest ≡ all
    → new ≡ now ++ marks len (key_span len rest) (data_of m.value) (at_value rest) → next ≡ behind_mark (behind (data_of m.value) (at_value rest)) → new ++ member_marks len (pairs (members_of (drop (i + 1) ms))) next ≡ all
member_added len ms i m rest next now new all lt e h is is_next =
    let d : drop i ms ≡ m ∷ drop (i + 1) ms = drop_more ms i m lt ∙ ap (λ (x : Member). x ∷ drop (i + 1) ms) (sym e) in
    let more = member_marks len (pairs (members_of (drop (i + 1) ms))) in
    ap (λ (ns : List Node). ns ++ more next) is ∙ ap (λ (x : List ℕ). (now ++ marks len (key_span len rest) (data_of m.value) (at_value rest)) ++ more x) is_next
    ∙ append_assoc now (marks len (key_span len rest) (data_of m.value) (at_value rest)) (more (behind_mark (behind (data_of m.value) (at_value rest))))
    ∙ sym (ap (λ (xs : List Member). now ++ member_marks len (pairs (members_of xs)) rest) d) ∙ h

pub members_left_none : (ms : List Member) (i : ℕ) (rest all : List ℕ) → length ms ≤ i → behind_members (pairs (members_of (drop i ms))) rest ≡ all → rest ≡ all
members_left_none ms i rest all le h = sym (ap (λ (xs : List Member). behind_members (pairs (members_of xs)) rest) (drop_all i ms le)) ∙ h

pub members_all_added : (len : ℕ) (ms : List Member) (i : ℕ) (rest : List ℕ) (now all : List Node) → length ms ≤ i → now ++ member_marks len (pairs (members_of (drop i ms))) rest ≡ all → now ≡ all
members_all_added len ms i rest now all le h = sym (append-nil now) ∙ sym (ap (λ (xs : List Member). now ++ member_marks len (pairs (members_of xs)) rest) (drop_all i ms le)) ∙ h
