-- Places in each member of an object, by numbers and by keys.
use Rattle.std.proofs.Common.{◌≡◌, ◌<◌, ◌≤◌, ◌+◌, ℕ, zero, suc, Bool, true, false, List, [], ◌∷◌, ◌++◌, length, get_or, take, refl, sym, ap, subst, ◌∙◌, arith, append_assoc}
use Rattle.std.specs.Prelude.{◌||◌, map, Option, Some, None, is_some, if◌then◌else◌}
use Rattle.std.proofs.lemmas.List.{append-nil, map_more, map-append, take_all}
use Rattle.asl_json_data.specs.Data.{Data, null, boolean, number, text, list, dict, depth, members_depth, pairs, Pairs, no_members, member}
use Rattle.asl_json_data.specs.Distinct.{Members, has_key}
use Rattle.asl_json.specs.View.{data_of, member_of, members_of, unpaired, unpaired-pairs}
use Rattle.asl_json.specs.Same.{bytes_eq}
use Rattle.asl_json.specs.Meaning.{value_at}
use Rattle.asl_json.specs.declared.value.Member.{Member}
use Rattle.std.specs.Cmp.Lexicographic.{bytes_decides}
use Rattle.asl_mock.specs.Places.{Place, under, in_each}
use Rattle.asl_mock.specs.Form.{part_shape, fits, has, unless, misfits, misfits_below}
use Rattle.asl_json.specs.Access.{member_list, member_list_at, members_of_any}
use Rattle.asl_mock.specs.declared.shape.Shape.{Shape}
use Rattle.asl_lint_mocks.specs.Places.{nowhere, keys_of, AreAt}
use Rattle.asl_lint_mocks.specs.private.Spots.{number_at}

-- the members of a value that may be missing, as a list
abbrev pub list_of_any : Option Data → Members
list_of_any o = unpaired (members_of_any o)

key_there : (ms : List Member) (i : ℕ) (m : Member) → i < length ms → m ≡ get_or ms i m → get_or (members_of ms) i nowhere ≡ member_of m
key_there [] i m lt at = absurd (omega (arith, lt))
key_there (n ∷ ms) zero m lt at = ap member_of (sym at)
key_there (n ∷ ms) (suc i) m lt at = key_there ms i m (omega (arith, lt)) at

under_at : (ms : Members) (i : ℕ) (m : List ℕ × Data) (ns : List (List ℕ)) → get_or ms i nowhere ≡ m → map (keys_of ms) (map (λ (p : List ℕ). i ∷ p) ns) ≡ under m.0 (map (keys_of (member_list m.1)) ns)
under_at ms i m [] e = refl
under_at ms i m (n ∷ ns) e =
    ap (λ (x : List ℕ × Data). (x.0 ∷ keys_of (member_list x.1) n) ∷ map (keys_of ms) (map (λ (p : List ℕ). i ∷ p) ns)) e
    ∙ ap (λ (ps : List Place). (m.0 ∷ keys_of (member_list m.1) n) ∷ ps) (under_at ms i m ns e)

in_each-last : (f : List ℕ × Data → List Place) (ms : Members) (m : List ℕ × Data) → in_each f (ms ++ m ∷ []) ≡ in_each f ms ++ under m.0 (f m)
in_each-last f [] m = append-nil (under m.0 (f m))
in_each-last f (x ∷ ms) m = ap (λ (ps : List Place). under x.0 (f x) ++ ps) (in_each-last f ms m) ∙ sym (append_assoc (under x.0 (f x)) (in_each f ms) (under m.0 (f m)))

-- the places in a member, as they are seen from the object
pub keys_under : (ms : List Member) (i : ℕ) (m : Member) (inner : List (List ℕ)) (ps : List Place) → i < length ms → m ≡ get_or ms i m → AreAt (member_list (data_of m.value)) inner ps → map (keys_of (members_of ms)) (map (λ (p : List ℕ). i ∷ p) inner) ≡ under m.key ps
keys_under ms i m inner ps lt at here = under_at (members_of ms) i (member_of m) inner (key_there ms i m lt at) ∙ ap (under m.key) here

-- the places in one member more
pub each_more : (f : List ℕ × Data → List Place) (ms : List Member) (i : ℕ) (m : Member) (old inner new : List (List ℕ)) → i < length ms → m ≡ get_or ms i m → AreAt (members_of ms) old (in_each f (members_of (take i ms))) → AreAt (member_list (data_of m.value)) inner (f (member_of m)) → new ≡ old ++ map (λ (p : List ℕ). i ∷ p) inner → AreAt (members_of ms) new (in_each f (members_of (take (i + 1) ms)))
each_more f ms i m old inner new lt at so_far here more =
    let xs = members_of (take i ms) in
    let all : members_of (take (i + 1) ms) ≡ xs ++ member_of m ∷ [] = map_more member_of ms i m lt ∙ ap (λ (x : Member). xs ++ member_of x ∷ []) (sym at) in
    ap (map (keys_of (members_of ms))) more
    ∙ map-append (keys_of (members_of ms)) old (map (λ (p : List ℕ). i ∷ p) inner)
    ∙ ap (λ (ps : List Place). ps ++ map (keys_of (members_of ms)) (map (λ (p : List ℕ). i ∷ p) inner)) so_far
    ∙ ap (λ (ps : List Place). in_each f xs ++ ps) (keys_under ms i m inner (f (member_of m)) lt at here)
    ∙ sym (ap (in_each f) all ∙ in_each-last f xs (member_of m))

pub each_all : (f : List ℕ × Data → List Place) (ms : List Member) (i : ℕ) (ns : List (List ℕ)) → length ms ≤ i → AreAt (members_of ms) ns (in_each f (members_of (take i ms))) → AreAt (members_of ms) ns (in_each f (members_of ms))
each_all f ms i ns end so_far = so_far ∙ ap (λ (x : List Member). in_each f (members_of x)) (take_all i ms end)

-- ---- values that don't fit

abbrev pub part_misfits : Shape → List ℕ × Data → List Place
part_misfits s m = misfits (part_shape s m.0) m.1

each_below : (s : Shape) (ms : Members) → misfits_below s (pairs ms) ≡ in_each (part_misfits s) ms
each_below s [] = refl
each_below s (m ∷ ms) = ap (λ (ps : List Place). under m.0 (part_misfits s m) ++ ps) (each_below s ms)

pub all_below : (s : Shape) (ns : Members) (ms : List Member) (i : ℕ) (all : List (List ℕ)) → members_of ms ≡ ns → length ms ≤ i → AreAt (members_of ms) all (in_each (part_misfits s) (members_of (take i ms))) → AreAt ns all (misfits_below s (pairs ns))
all_below s ns ms i all same end so_far =
    sym (ap (λ (x : Members). map (keys_of x) all) same) ∙ each_all (part_misfits s) ms i all end so_far ∙ ap (in_each (part_misfits s)) same ∙ sym (each_below s ns)

pub member_within : (ms : List Member) (i : ℕ) (m : Member) → i < length ms → m ≡ get_or ms i m → depth (data_of m.value) ≤ members_depth (pairs (members_of ms))
member_within [] i m lt at = omega (arith, lt)
member_within (n ∷ ms) zero m lt at = let same : depth (data_of m.value) ≡ depth (data_of n.value) = ap (λ (z : Member). depth (data_of z.value)) at in omega (arith, same)
member_within (n ∷ ms) (suc i) m lt at = omega (arith, member_within ms i m (omega (arith, lt)) at)

-- ---- the member of a key

plus_none : (i : ℕ) → i ≡ i + 0
plus_none i = omega arith

abbrev or_none : Option ℕ → ℕ
or_none None = 0
or_none (Some n) = n

some_same : (i j : ℕ) → Some i ≡ Some j → i ≡ j
some_same i j e = ap or_none e

-- counted from i, it is the one of this number
record Found (k : List ℕ) (ms : Pairs) (i j : ℕ) : Type 0 where
  pub number : ℕ
  pub is : j ≡ i + number
  pub key : (get_or (unpaired ms) number nowhere).0 ≡ k
  pub value : value_at k ms ≡ Some (get_or (unpaired ms) number nowhere).1

found : (k : List ℕ) (ms : Pairs) (i j : ℕ) → number_at k i (unpaired ms) ≡ Some j → Found k ms i j
found k no_members i j e = absurd (cc e)
found k (member l d ms) i j e = which (bytes_eq k l) refl e (found k ms (i + 1) j)
  where
    which : (b : Bool) → bytes_eq k l ≡ b → (if b then Some i else number_at k (i + 1) (unpaired ms)) ≡ Some j → (number_at k (i + 1) (unpaired ms) ≡ Some j → Found k ms (i + 1) j) → Found k (member l d ms) i j
    which true is at next = record {
      number = 0;
      is = sym (some_same i j at) ∙ plus_none i;
      key = sym ((bytes_decides k l).0 is);
      value = ap (λ (b : Bool). if b then Some d else value_at k ms) is;
    }
    which false is at next =
        let f = next at in
        record {
          number = suc f.number;
          is = omega (arith, f.is);
          key = f.key;
          value = ap (λ (b : Bool). if b then Some d else value_at k ms) is ∙ f.value;
        }

missing : (k : List ℕ) (ms : Pairs) (i : ℕ) → number_at k i (unpaired ms) ≡ None → value_at k ms ≡ None
missing k no_members i e = refl
missing k (member l d ms) i e = which (bytes_eq k l) refl e (missing k ms (i + 1))
  where
    which : (b : Bool) → bytes_eq k l ≡ b → (if b then Some i else number_at k (i + 1) (unpaired ms)) ≡ None → (number_at k (i + 1) (unpaired ms) ≡ None → value_at k ms ≡ None) → (if bytes_eq k l then Some d else value_at k ms) ≡ None
    which true is at next = absurd (cc at)
    which false is at next = ap (λ (b : Bool). if b then Some d else value_at k ms) is ∙ next at

-- places within the member of a key
pub inside_key : (k : List ℕ) (d : Data) (j : ℕ) (inner all : List (List ℕ)) (ps : List Place) → number_at k 0 (member_list d) ≡ Some j → all ≡ map (λ (p : List ℕ). j ∷ p) inner → AreAt (member_list_at k d) inner ps → AreAt (member_list d) all (under k ps)
inside_key k null j inner all ps at more h = absurd (cc at)
inside_key k (boolean b) j inner all ps at more h = absurd (cc at)
inside_key k (number b) j inner all ps at more h = absurd (cc at)
inside_key k (text b) j inner all ps at more h = absurd (cc at)
inside_key k (list b) j inner all ps at more h = absurd (cc at)
inside_key k (dict ms) j inner all ps at more h =
    let f = found k ms 0 j at in
    let same : f.number ≡ j = omega (arith, f.is) in
    let m = get_or (unpaired ms) f.number nowhere in
    let own : member_list_at k (dict ms) ≡ member_list m.1 = ap list_of_any f.value in
    ap (map (keys_of (unpaired ms))) more
    ∙ under_at (unpaired ms) j m inner (ap (λ (n : ℕ). get_or (unpaired ms) n nowhere) (sym same))
    ∙ ap (λ (x : Members). under m.0 (map (keys_of x) inner)) (sym own)
    ∙ ap (under m.0) h
    ∙ ap (λ (x : List ℕ). under x ps) f.key

pub no_key : (k : List ℕ) (d : Data) (f : List ℕ × Data → List Place) → number_at k 0 (member_list d) ≡ None → AreAt (member_list d) [] (under k (in_each f (member_list_at k d)))
no_key k null f at = refl
no_key k (boolean b) f at = refl
no_key k (number b) f at = refl
no_key k (text b) f at = refl
no_key k (list b) f at = refl
no_key k (dict ms) f at = sym (ap (λ (o : Option Data). under k (in_each f (list_of_any o))) (missing k ms 0 at))

-- the same, as the code finds it

pub at_none : (k : List ℕ) (d : Data) (f : List ℕ × Data → List Place) (ms : Members) (o : Option ℕ) (ns : List (List ℕ)) → o ≡ number_at k 0 ms → ms ≡ member_list d → o ≡ None → ns ≡ [] → AreAt (member_list d) ns (under k (in_each f (member_list_at k d)))
at_none k d f ms o ns is all none empty = ap (map (keys_of (member_list d))) empty ∙ no_key k d f (ap (number_at k 0) (sym all) ∙ sym is ∙ none)

pub at_some : (k : List ℕ) (d : Data) (ps : List Place) (ms : Members) (o : Option ℕ) (j : ℕ) (inner start all : List (List ℕ)) → o ≡ number_at k 0 ms → ms ≡ member_list d → o ≡ Some j → start ≡ [] → all ≡ start ++ map (λ (p : List ℕ). j ∷ p) inner → AreAt (member_list_at k d) inner ps → AreAt (member_list d) all (under k ps)
at_some k d ps ms o j inner start all is same some empty more h =
    inside_key k d j inner all ps (ap (number_at k 0) (sym same) ∙ sym is ∙ some) (more ∙ ap (λ (xs : List (List ℕ)). xs ++ map (λ (p : List ℕ). j ∷ p) inner) empty) h

-- ---- an object with what is wrong with itself

pub whole_dict : (s : Shape) (d : Data) (ms : Members) (r : Bool) (own below all : List (List ℕ)) → d ≡ dict (pairs ms) → r ≡ fits s d → ((xs : Members) → AreAt xs own (unless r)) → AreAt ms below (misfits_below s (pairs ms)) → all ≡ own ++ below → AreAt (member_list d) all (misfits s d)
whole_dict s d ms r own below all is fit o b more =
    let at_dict : AreAt ms all (misfits s (dict (pairs ms))) =
    ap (map (keys_of ms)) more ∙ map-append (keys_of ms) own below
    ∙ ap (λ (ps : List Place). ps ++ map (keys_of ms) below) (o ms ∙ ap unless (fit ∙ ap (fits s) is))
    ∙ ap (λ (ps : List Place). unless (fits s (dict (pairs ms))) ++ ps) b in
    subst (λ (x : Data). AreAt (member_list x) all (misfits s x)) (sym is) (subst (λ (xs : Members). AreAt xs all (misfits s (dict (pairs ms)))) (sym (unpaired-pairs ms)) at_dict)

-- ---- the place of the member of a key, where there is one

pub place_some : (k : List ℕ) (d : Data) (ms : Members) (o : Option ℕ) (j : ℕ) (is : List ℕ) → o ≡ number_at k 0 ms → ms ≡ member_list d → o ≡ Some j → is ≡ j ∷ [] → keys_of (member_list d) is ≡ (if has k d then k ∷ [] else [])
place_some k d ms o j is which same some place = ap (keys_of (member_list d)) place ∙ there k d j (sym (which ∙ ap (number_at k 0) same) ∙ some)
  where
    there : (k : List ℕ) (d : Data) (j : ℕ) → number_at k 0 (member_list d) ≡ Some j → keys_of (member_list d) (j ∷ []) ≡ (if has k d then k ∷ [] else [])
    there k null j at = absurd (cc at)
    there k (boolean b) j at = absurd (cc at)
    there k (number b) j at = absurd (cc at)
    there k (text b) j at = absurd (cc at)
    there k (list b) j at = absurd (cc at)
    there k (dict ms) j at =
        let f = found k ms 0 j at in
        let same : f.number ≡ j = omega (arith, f.is) in
        ap (λ (n : ℕ). (get_or (unpaired ms) n nowhere).0 ∷ []) (sym same) ∙ ap (λ (l : List ℕ). l ∷ []) f.key ∙ sym (ap (λ (v : Option Data). if is_some v then k ∷ [] else []) f.value)

pub place_none : (k : List ℕ) (d : Data) (ms : Members) (o : Option ℕ) (is : List ℕ) → o ≡ number_at k 0 ms → ms ≡ member_list d → o ≡ None → is ≡ [] → keys_of (member_list d) is ≡ (if has k d then k ∷ [] else [])
place_none k d ms o is which same none place = ap (keys_of (member_list d)) place ∙ there k d (sym (which ∙ ap (number_at k 0) same) ∙ none)
  where
    there : (k : List ℕ) (d : Data) → number_at k 0 (member_list d) ≡ None → keys_of (member_list d) [] ≡ (if has k d then k ∷ [] else [])
    there k null at = refl
    there k (boolean b) at = refl
    there k (number b) at = refl
    there k (text b) at = refl
    there k (list b) at = refl
    there k (dict ms) at = sym (ap (λ (v : Option Data). if is_some v then k ∷ [] else []) (missing k ms 0 at))

-- ---- whether there is one

pub is_there : (k : List ℕ) (ms : Members) (i : ℕ) → is_some (number_at k i ms) ≡ has_key k ms
is_there k [] i = refl
is_there k (m ∷ ms) i = which (bytes_eq k m.0) (is_there k ms (i + 1))
  where
    which : (b : Bool) → is_some (number_at k (i + 1) ms) ≡ has_key k ms → is_some (if b then Some i else number_at k (i + 1) ms) ≡ (b || has_key k ms)
    which true e = refl
    which false e = e
