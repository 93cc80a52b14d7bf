-- What is met from the latest item of a mark backwards.
use Rattle.std.proofs.Common.{◌≡◌, ℕ, suc, ◌<◌, ◌≤◌, Bool, true, false, cond, ◌||◌, ◌==◌, nat_eq, List, [], ◌∷◌, ◌++◌, length, refl, sym, ◌∙◌, subst, ap, arith, get_or}
use Rattle.std.specs.Prelude.{Option, Some, None, if◌then◌else◌}
use Rattle.std.specs.List.{list_any}
use Rattle.std.proofs.lemmas.List.{append_assoc, append-nil}
use Rattle.asl_json_data.specs.Data.{Data, chain}
use Rattle.asl_json.specs.Meaning.{same}
use Rattle.asl_json.specs.View.{data_of, items_of}
use Rattle.asl_json.specs.declared.value.Json.{Json}
use Rattle.asl_intrinsic_functions.specs.private.Marks.{mark, IsApart, AreApart}
use Rattle.asl_intrinsic_functions.specs.private.Links.{later, latest_of, links_behind, AreLinked}
use Rattle.asl_intrinsic_functions.proofs.Marking.{unlike_marks}

-- ---- the latest item of a mark

-- it stands between items before it and items of other marks
pub record IsLatest (m : ℕ) (at : ℕ) (ds : List Data) : Type 0 where
  pub front : List Data
  pub one : Data
  pub back : List Data
  pub split : ds ≡ front ++ one ∷ back
  pub is_at : at ≡ length front
  pub has : mark one ≡ m
  pub none : latest_of m back ≡ None

pub latest_is : (m at : ℕ) (ds : List Data) → latest_of m ds ≡ Some at → IsLatest m at ds
latest_is m at [] e = absurd cc
latest_is m at (d ∷ ds) e = by (latest_of m ds) (m == mark d) refl refl (λ i. latest_is m i ds)
  where
    by : (o : Option ℕ) (b : Bool) → latest_of m ds ≡ o → (m == mark d) ≡ b → ((i : ℕ) → latest_of m ds ≡ Some i → IsLatest m i ds) → IsLatest m at (d ∷ ds)
    by (Some i) b p q rest =
        let behind = rest i p in
        let same : Some (suc i) ≡ Some at = rw p at e in
        let is : suc i ≡ at = cc in
        record { front = d ∷ behind.front; one = behind.one; back = behind.back; split = ap (λ (xs : List Data). d ∷ xs) behind.split; is_at = sym is ∙ ap suc behind.is_at; has = behind.has; none = behind.none }
    by None true p q rest =
        let same : Some 0 ≡ Some at = rw (p, q) at e in
        let is : 0 ≡ at = cc in
        record { front = []; one = d; back = ds; split = refl; is_at = sym is; has = grind (arith, q); none = p }
    by None false p q rest = absurd (let none : None ≡ Some at = rw (p, q) at e in cc)

-- where there is none, no item is the same as one of this mark
pub none_alike : (m : ℕ) (x : Data) (ds : List Data) → m ≡ mark x → AreApart (chain ds) → latest_of m ds ≡ None → list_any (λ y. same y x) ds ≡ false
none_alike m x [] is apart e = refl
none_alike m x (d ∷ ds) is apart e = by (latest_of m ds) (m == mark d) refl refl (λ f. none_alike m x ds is apart.1 f)
  where
    by : (o : Option ℕ) (b : Bool) → latest_of m ds ≡ o → (m == mark d) ≡ b → (latest_of m ds ≡ None → list_any (λ y. same y x) ds ≡ false) → (same d x || list_any (λ y. same y x) ds) ≡ false
    by (Some i) b p q rest = absurd (let none : Some (suc i) ≡ None = rw p at e in cc)
    by None true p q rest = absurd (let none : Some 0 ≡ None = rw (p, q) at e in cc)
    by None false p q rest = rw (unlike_marks d x (mark d) m refl is apart.0 (λ f. grind (arith, f, q))) (rest p)

-- ---- the walk from it backwards

-- those that are left to be met: behind them none is the same
pub record IsLeft (x : Data) (next : Option ℕ) (ds : List Data) : Type 0 where
  pub front : List Data
  pub back : List Data
  pub split : ds ≡ front ++ back
  pub at : next ≡ latest_of (mark x) front
  pub none : list_any (λ y. same y x) back ≡ false

-- how many there may be
abbrev pub left_count : Option ℕ → ℕ
left_count None = 0
left_count (Some i) = suc i

pub left_start : (x : Data) (next : Option ℕ) (ds : List Data) → next ≡ latest_of (mark x) ds → IsLeft x next ds
left_start x next ds e = record { front = ds; back = []; split = sym (append-nil ds); at = e; none = refl }

any_both : (f : Data → Bool) (ds es : List Data) → list_any f es ≡ false → list_any f (ds ++ es) ≡ list_any f ds
any_both f [] es h = h
any_both f (d ∷ ds) es h = ap (λ (b : Bool). f d || b) (any_both f ds es h)

apart_front : (ds es : List Data) → AreApart (chain (ds ++ es)) → AreApart (chain ds)
apart_front [] es h = tt
apart_front (d ∷ ds) es h = (h.0, apart_front ds es h.1)

apart_back : (ds es : List Data) → AreApart (chain (ds ++ es)) → AreApart (chain es)
apart_back [] es h = h
apart_back (d ∷ ds) es h = apart_back ds es h.1

pub left_none : (x : Data) (next : Option ℕ) (ds : List Data) → next ≡ None → AreApart (chain ds) → IsLeft x next ds → list_any (λ y. same y x) ds ≡ false
left_none x next ds e apart l =
    let whole : AreApart (chain (l.front ++ l.back)) = subst (λ (xs : List Data). AreApart (chain xs)) l.split apart in
    ap (list_any (λ y. same y x)) l.split ∙ any_both (λ y. same y x) l.front l.back l.none ∙ none_alike (mark x) x l.front refl (apart_front l.front l.back whole) (sym l.at ∙ e)

-- where it stands among all
pub record IsMet (x : Data) (at : ℕ) (ds : List Data) : Type 0 where
  pub front : List Data
  pub one : Data
  pub back : List Data
  pub split : ds ≡ front ++ one ∷ back
  pub is_at : at ≡ length front
  pub has : mark one ≡ mark x
  pub none : list_any (λ y. same y x) back ≡ false

pub met : (x : Data) (next : Option ℕ) (at : ℕ) (ds : List Data) → next ≡ Some at → AreApart (chain ds) → IsLeft x next ds → IsMet x at ds
met x next at ds e apart l =
    let it = latest_is (mark x) at l.front (sym l.at ∙ e) in
    let split : ds ≡ it.front ++ it.one ∷ (it.back ++ l.back) = l.split ∙ ap (λ (xs : List Data). xs ++ l.back) it.split ∙ append_assoc it.front (it.one ∷ it.back) l.back in
    let whole : AreApart (chain (it.front ++ it.one ∷ (it.back ++ l.back))) = subst (λ (xs : List Data). AreApart (chain xs)) split apart in
    let behind : AreApart (chain (it.one ∷ (it.back ++ l.back))) = apart_back it.front (it.one ∷ (it.back ++ l.back)) whole in
    record {
      front = it.front;
      one = it.one;
      back = it.back ++ l.back;
      split = split;
      is_at = it.is_at;
      has = it.has;
      none = any_both (λ y. same y x) it.back l.back l.none ∙ none_alike (mark x) x it.back refl (apart_front it.back l.back behind.1) it.none;
    }

count_middle : (front : List Data) (d : Data) (back : List Data) → length front < length (front ++ d ∷ back)
count_middle [] d back = omega arith
count_middle (e ∷ front) d back = omega (arith, count_middle front d back)

-- the item with its number
item_is : (vs : List Json) (front back : List Data) (d : Data) (v : Json) → items_of vs ≡ front ++ d ∷ back → v ≡ get_or vs (length front) v → data_of v ≡ d
item_is [] [] back d v e is = absurd cc
item_is [] (x ∷ front) back d v e is = absurd cc
item_is (w ∷ vs) [] back d v e is = ap data_of is ∙ head_is e
  where
    head_is : data_of w ∷ items_of vs ≡ d ∷ back → data_of w ≡ d
    head_is h = cc
item_is (w ∷ vs) (x ∷ front) back d v e is = item_is vs front back d v (tail_is e) is
  where
    tail_is : data_of w ∷ items_of vs ≡ x ∷ (front ++ d ∷ back) → items_of vs ≡ front ++ d ∷ back
    tail_is h = cc

-- and its link
link_is : (before front back : List Data) (d : Data) (o : Option ℕ) → o ≡ get_or (links_behind before (front ++ d ∷ back)) (length front) o → o ≡ latest_of (mark d) (before ++ front)
link_is before [] back d o e = e ∙ ap (latest_of (mark d)) (sym (append-nil before))
link_is before (x ∷ front) back d o e = link_is (before ++ x ∷ []) front back d o e ∙ ap (latest_of (mark d)) (append_assoc before (x ∷ []) front)

pub links_count : (before ds : List Data) → length (links_behind before ds) ≡ length ds
links_count before [] = refl
links_count before (d ∷ ds) = ap suc (links_count (before ++ d ∷ []) ds)

pub items_count : (vs : List Json) → length (items_of vs) ≡ length vs
items_count [] = refl
items_count (v ∷ vs) = ap suc (items_count vs)

pub met_within : (x : Data) (at : ℕ) (ds : List Data) → IsMet x at ds → at < length ds
met_within x at ds m = omega (arith, m.is_at, count_middle m.front m.one m.back, ap length m.split)

any_at : (f : Data → Bool) (front : List Data) (d : Data) (back : List Data) → f d ≡ true → list_any f (front ++ d ∷ back) ≡ true
any_at f [] d back h = rw h refl
any_at f (x ∷ front) d back h = by (f x) (any_at f front d back h)
  where
    by : (b : Bool) → list_any f (front ++ d ∷ back) ≡ true → (b || list_any f (front ++ d ∷ back)) ≡ true
    by true e = refl
    by false e = e

pub met_same : (x : Data) (at : ℕ) (vs : List Json) (v : Json) (b : Bool) → IsMet x at (items_of vs) → v ≡ get_or vs at v → b ≡ same (data_of v) x → b ≡ true → list_any (λ y. same y x) (items_of vs) ≡ true
met_same x at vs v b m is e on =
    let item : data_of v ≡ m.one = item_is vs m.front m.back m.one v m.split (subst (λ (n : ℕ). v ≡ get_or vs n v) m.is_at is) in
    ap (list_any (λ y. same y x)) m.split ∙ any_at (λ y. same y x) m.front m.one m.back (ap (λ d. same d x) (sym item) ∙ sym e ∙ on)

pub left_next : (x : Data) (at : ℕ) (vs : List Json) (v : Json) (links : List (Option ℕ)) (o : Option ℕ) (b : Bool) → IsMet x at (items_of vs) → v ≡ get_or vs at v → b ≡ same (data_of v) x → b ≡ false → links ≡ links_behind [] (items_of vs) → o ≡ get_or links at o → IsLeft x o (items_of vs)
left_next x at vs v links o b m is e off from link =
    let item : data_of v ≡ m.one = item_is vs m.front m.back m.one v m.split (subst (λ (n : ℕ). v ≡ get_or vs n v) m.is_at is) in
    let unlike : same m.one x ≡ false = ap (λ d. same d x) (sym item) ∙ sym e ∙ off in
    let there : o ≡ get_or (links_behind [] (m.front ++ m.one ∷ m.back)) (length m.front) o = link ∙ (λ i. get_or ((from ∙ ap (links_behind []) m.split) i) (m.is_at i) o) in
    record { front = m.front; back = m.one ∷ m.back; split = m.split; at = link_is [] m.front m.back m.one o there ∙ ap (λ k. latest_of k m.front) m.has; none = rw unlike m.none }

-- the next number is less
latest_within : (m : ℕ) (ds : List Data) → left_count (latest_of m ds) ≤ length ds
latest_within m [] = omega arith
latest_within m (d ∷ ds) = by (latest_of m ds) (m == mark d) refl (latest_within m ds)
  where
    by : (o : Option ℕ) (b : Bool) → latest_of m ds ≡ o → left_count (latest_of m ds) ≤ length ds → left_count (later o (cond b (Some 0) None)) ≤ length (d ∷ ds)
    by (Some i) b p h = let at : left_count (latest_of m ds) ≡ suc i = ap left_count p in omega (arith, at, h)
    by None true p h = omega arith
    by None false p h = omega arith

pub left_falls : (x : Data) (at : ℕ) (vs : List Json) (links : List (Option ℕ)) (o : Option ℕ) → IsMet x at (items_of vs) → links ≡ links_behind [] (items_of vs) → o ≡ get_or links at o → left_count o < suc at
left_falls x at vs links o m from link =
    let there : o ≡ get_or (links_behind [] (m.front ++ m.one ∷ m.back)) (length m.front) o = link ∙ (λ i. get_or ((from ∙ ap (links_behind []) m.split) i) (m.is_at i) o) in
    let is : left_count o ≡ left_count (latest_of (mark m.one) m.front) = ap left_count (link_is [] m.front m.back m.one o there) in
    omega (arith, is, latest_within (mark m.one) m.front, m.is_at)

-- ---- one item more

pub links_push : (before ds : List Data) (d : Data) → links_behind before (ds ++ d ∷ []) ≡ links_behind before ds ++ latest_of (mark d) (before ++ ds) ∷ []
links_push before [] d = ap (λ (xs : List Data). latest_of (mark d) xs ∷ []) (sym (append-nil before))
links_push before (x ∷ ds) d =
    ap (λ (os : List (Option ℕ)). latest_of (mark x) before ∷ os) (links_push (before ++ x ∷ []) ds d ∙ ap (λ (xs : List Data). links_behind (before ++ x ∷ []) ds ++ latest_of (mark d) xs ∷ []) (append_assoc before (x ∷ []) ds))

pub latest_push : (m : ℕ) (ds : List Data) (d : Data) → latest_of m (ds ++ d ∷ []) ≡ (if m == mark d then Some (length ds) else latest_of m ds)
latest_push m [] d = refl
latest_push m (x ∷ ds) d = ap (λ (o : Option ℕ). later o (if m == mark x then Some 0 else None)) (latest_push m ds d) ∙ by (m == mark d)
  where
    by : (b : Bool) → later (if b then Some (length ds) else latest_of m ds) (if m == mark x then Some 0 else None) ≡ (if b then Some (suc (length ds)) else later (latest_of m ds) (if m == mark x then Some 0 else None))
    by true = refl
    by false = refl

pub apart_push : (ds : List Data) (d : Data) → AreApart (chain ds) → IsApart d → AreApart (chain (ds ++ d ∷ []))
apart_push [] d apart h = (h, tt)
apart_push (x ∷ ds) d apart h = (apart.0, apart_push ds d apart.1 h)

items_push : (vs : List Json) (v : Json) → items_of (vs ++ v ∷ []) ≡ items_of vs ++ data_of v ∷ []
items_push [] v = refl
items_push (w ∷ vs) v = ap (λ (ds : List Data). data_of w ∷ ds) (items_push vs v)

turned : (m k : ℕ) → nat_eq m k ≡ (k == m)
turned m k = by (nat_eq m k) (k == m) refl refl
  where
    by : (a b : Bool) → nat_eq m k ≡ a → (k == m) ≡ b → a ≡ b
    by true true p q = refl
    by false false p q = refl
    by true false p q = absurd (grind (arith, p, q))
    by false true p q = absurd (grind (arith, p, q))

pub linked_push : (old new : ℕ → Option ℕ) (links more : List (Option ℕ)) (vs ws : List Json) (m n : ℕ) (v copy : Json) (o : Option ℕ)
    → AreLinked old links (items_of vs) → m ≡ mark (data_of v) → IsApart (data_of v) → o ≡ old m → ((k : ℕ) → new k ≡ cond (nat_eq m k) (Some n) (old k)) → n ≡ length vs
    → copy ≡ v → ws ≡ vs ++ copy ∷ [] → more ≡ links ++ o ∷ [] → AreLinked new more (items_of ws)
linked_push old new links more vs ws m n v copy o l is apart was now len like grown further =
    let ds = items_of vs in
    let d = data_of v in
    let whole : items_of ws ≡ ds ++ d ∷ [] = ap items_of (grown ∙ ap (λ (x : Json). vs ++ x ∷ []) like) ∙ items_push vs v in
    let count : n ≡ length ds = len ∙ sym (items_count vs) in
    let link : o ≡ latest_of (mark d) ds = was ∙ l.from_mark m ∙ ap (λ (k : ℕ). latest_of k ds) is in
    record {
      from_mark = λ k. now k ∙ (λ i. cond ((turned m k ∙ ap (λ (x : ℕ). k == x) is) i) (Some (count i)) (l.from_mark k i)) ∙ sym (latest_push k ds d) ∙ ap (latest_of k) (sym whole);
      from_item = further ∙ (λ i. l.from_item i ++ link i ∷ []) ∙ sym (links_push [] ds d) ∙ ap (links_behind []) (sym whole);
      apart = subst (λ (xs : List Data). AreApart (chain xs)) (sym whole) (apart_push ds d l.apart apart);
    }
