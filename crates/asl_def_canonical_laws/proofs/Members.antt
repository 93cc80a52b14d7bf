-- Members in the order of the table: of each group still one counts, and what is required is still there.
use Rattle.std.proofs.Common.{◌≡◌, ℕ, suc, List, [], ◌∷◌, ◌++◌, Bool, true, false, ◌||◌, ◌&&◌, not, inl, inr, ◌⊎◌, refl, sym, ap, ◌∙◌, subst}
use Rattle.std.specs.Prelude.{Option, Some, None, is_some, option_map, map, codes, if◌then◌else◌}
use Rattle.std.specs.Cmp.Lexicographic.{same_text}
use Rattle.asl_json_data.specs.Data.{Data, null, boolean, number, text, list, dict, Chain, Pairs, no_members, member, pairs}
use Rattle.asl_json.specs.Same.{bytes_eq}
use Rattle.asl_json.specs.private.SameLaws.{bytes_refl}
use Rattle.asl_json.specs.Meaning.{value_at}
use Rattle.asl_json_data.specs.Distinct.{Members, has_key, AreDistinct}
use Rattle.asl_json.specs.View.{unpaired, pairs-unpaired}
use Rattle.asl_json.proofs.Knowing.{has_key-push}
use Rattle.asl_def_schema.specs.declared.fault.Step.{Step}
use Rattle.asl_def_schema.specs.declared.sort.Sort.{Sort}
use Rattle.asl_def_schema.specs.declared.sort.Sort.TheVariants as sort
use Rattle.asl_def_schema.specs.declared.sort.Kind.{Kind}
use Rattle.asl_def_schema.specs.Members.{Row, Group, Shape, shape_of, shape_in, sort_at, item_sort, is_among}
use Rattle.asl_def_schema.specs.Demands.{there}
use Rattle.asl_def_schema.specs.Claims.{Claim, Spot, under, heres, step, claims, at_member, member_claims, row_claims, group_demands, has_any, is_needed, is_true, is_template, counts, any_counts, any_in, is_doubled}
use Rattle.asl_def_schema.specs.First.{Each, Hold}
use Rattle.asl_def_schema.specs.Clean.{IsCleanInside}
use Rattle.asl_def_schema.specs.Canon.{opt, kept, canon, canon_items, canon_members, arranged, listed, picked}
use Rattle.asl_def_schema.proofs.Canons.{value_at-canon, not_end}
use Rattle.asl_def_judge.proofs.Answering.{each-append, each-map}
use Rattle.asl_def_schema.proofs.Inside.{each_right, or_right}
use Rattle.asl_def_schema.proofs.Deciding.{IsGroup, neither_is, one_counts, some_counts, not_true}
use Rattle.asl_def_schema.proofs.Ways.{none_in, and_left}
use Rattle.asl_def_canonical_laws.proofs.Twice.{is_row, picked_apart, picked_there, kept_ways}
use Rattle.asl_def_canonical_laws.proofs.Amounts.{both_are, rows_differ}
use Rattle.asl_def_canonical_laws.proofs.Rows.{group_row, row_stays, rows_stay}

-- ---- whether a member counts

arranged_true : (s : Sort) (rs : List Row) (ms cs : Pairs) → is_true (arranged s rs ms cs) ≡ false
arranged_true sort.Definition rs ms cs = refl
arranged_true sort.Machine rs ms cs = refl
arranged_true sort.ItemProcessor rs ms cs = refl
arranged_true sort.State rs ms cs = refl
arranged_true sort.Rule rs ms cs = refl
arranged_true sort.InnerRule rs ms cs = refl
arranged_true sort.Retrier rs ms cs = refl
arranged_true sort.Catcher rs ms cs = refl
arranged_true sort.States rs ms cs = refl
arranged_true s rs ms cs = refl

listed_true : (s : Sort) (ds cs : Chain) → is_true (listed s ds cs) ≡ false
listed_true sort.Machines ds cs = refl
listed_true sort.Rules ds cs = refl
listed_true sort.InnerRules ds cs = refl
listed_true sort.Retriers ds cs = refl
listed_true sort.Catchers ds cs = refl
listed_true s ds cs = refl

canon_true : (s : Sort) (d : Data) → is_true (canon s d) ≡ is_true d
canon_true s null = refl
canon_true s (boolean b) = refl
canon_true s (number n) = refl
canon_true s (text t) = refl
canon_true s (list ds) = listed_true s ds (canon_items (item_sort s) ds)
canon_true s (dict ms) = arranged_true s (shape_in s ms).rows ms (canon_members (shape_in s ms) ms)

canon_counts : (g : Group) (k : List ℕ) (s : Sort) (d : Data) → counts g k (canon s d) ≡ counts g k d
canon_counts g k s d = ap (λ (b : Bool). is_among k g.names && (not (bytes_eq k (codes "End")) || b)) (canon_true s d)

off_and : (a b : Bool) → a ≡ false → (a && b) ≡ false
off_and a b e = rw e refl

and_off : (a : Bool) → (a && false) ≡ false
and_off true = refl
and_off false = refl

-- what counts is kept
counts_kept : (g : Group) (k : List ℕ) (d : Data) → counts g k d ≡ true → kept k (Some d) ≡ Some d
counts_kept g k null e = refl
counts_kept g k (boolean true) e = refl
counts_kept g k (boolean false) e = by (bytes_eq k (codes "End")) refl
  where
    by : (b : Bool) → bytes_eq k (codes "End") ≡ b → kept k (Some (boolean false)) ≡ Some (boolean false)
    by true p = absurd (let x : (is_among k g.names && (not (bytes_eq k (codes "End")) || false)) ≡ true = e in let y : (is_among k g.names && false) ≡ true = rw p at x in let z : true ≡ false = sym y ∙ and_off (is_among k g.names) in cc)
    by false p = rw p refl
counts_kept g k (number n) e = refl
counts_kept g k (text t) e = refl
counts_kept g k (list ds) e = refl
counts_kept g k (dict ms) e = refl

-- ---- the members that are put in order

pub record IsFrom (sh : Shape) (ms : Pairs) (k : List ℕ) (e : Data) : Type 0 where
  pub before : Data
  pub there : value_at k ms ≡ Some before
  pub is : canon (sort_at sh k) before ≡ e

abbrev pub AreFrom : Shape → Pairs → Members → Type 0
AreFrom sh ms [] = Unit {0}
AreFrom sh ms (x ∷ xs) = IsFrom sh ms x.0 x.1 × AreFrom sh ms xs

from_push : (sh : Shape) (ms : Pairs) (xs : Members) (k : List ℕ) (e : Data) → AreFrom sh ms xs → IsFrom sh ms k e → AreFrom sh ms (xs ++ (k, e) ∷ [])
from_push sh ms [] k e h f = (f, tt)
from_push sh ms (x ∷ xs) k e h f = (h.0, from_push sh ms xs k e h.1 f)

mapped_from : (sh : Shape) (ms : Pairs) (k : List ℕ) (e : Data) → option_map (canon (sort_at sh k)) (value_at k ms) ≡ Some e → IsFrom sh ms k e
mapped_from sh ms k e h = by (value_at k ms) refl
  where
    by : (o : Option Data) → value_at k ms ≡ o → IsFrom sh ms k e
    by None p = absurd (let x = rw p at h in cc)
    by (Some d) p = record { before = d; there = p; is = let x : Some (canon (sort_at sh k) d) ≡ Some e = rw p at h in cc }

is_from : (sh : Shape) (ms : Pairs) (k : List ℕ) (e : Data) → kept k (value_at k (canon_members sh ms)) ≡ Some e → IsFrom sh ms k e
is_from sh ms k e h = by (kept_ways k (value_at k (canon_members sh ms)))
  where
    by : (kept k (value_at k (canon_members sh ms)) ≡ None) ⊎ (kept k (value_at k (canon_members sh ms)) ≡ value_at k (canon_members sh ms)) → IsFrom sh ms k e
    by (inl f) = absurd (let x : None ≡ Some e = sym f ∙ h in cc)
    by (inr f) = mapped_from sh ms k e (sym (value_at-canon k sh ms) ∙ sym f ∙ h)

-- ---- none stands twice

none_seen : (names : List ℕ → Bool) (sh : Shape) (g : Group) (ms : Pairs) (seen : Members) (k : List ℕ) (d : Data) → IsCleanInside names sh ms → IsGroup g sh.groups → AreFrom sh ms seen → has_key k seen ≡ false → value_at k ms ≡ Some d → counts g k d ≡ true → any_counts g seen ≡ false
none_seen names sh g ms [] k d c at from new found e = refl
none_seen names sh g ms (x ∷ seen) k d c at from new found e = by (counts g x.0 x.1) refl (neither_is (bytes_eq k x.0) (has_key k seen) new).0 (none_seen names sh g ms seen k d c at from.1 (neither_is (bytes_eq k x.0) (has_key k seen) new).1 found e)
  where
    by : (b : Bool) → counts g x.0 x.1 ≡ b → bytes_eq k x.0 ≡ false → any_counts g seen ≡ false → any_counts g (x ∷ seen) ≡ false
    by false p ne rest = rw p rest
    by true p ne rest =
        let same : counts g x.0 from.0.before ≡ true = sym (canon_counts g x.0 (sort_at sh x.0) from.0.before) ∙ ap (counts g x.0) from.0.is ∙ p in
        absurd (one_counts names sh g ms k x.0 d from.0.before c at ne found from.0.there e same)

undoubled : (names : List ℕ → Bool) (sh : Shape) (gs : List Group) (ms : Pairs) (seen : Members) (k : List ℕ) (e : Data) → ((g : Group) → IsGroup g gs → IsGroup g sh.groups) → IsCleanInside names sh ms → AreFrom sh ms seen → has_key k seen ≡ false → IsFrom sh ms k e → is_doubled gs seen k e ≡ false
undoubled names sh [] ms seen k e within c from new f = refl
undoubled names sh (g ∷ gs) ms seen k e within c from new f = by (counts g k e) refl (undoubled names sh gs ms seen k e (λ h at. within h (inr at)) c from new f)
  where
    by : (b : Bool) → counts g k e ≡ b → is_doubled gs seen k e ≡ false → is_doubled (g ∷ gs) seen k e ≡ false
    by false p rest = rw p rest
    by true p rest =
        let same : counts g k f.before ≡ true = sym (canon_counts g k (sort_at sh k) f.before) ∙ ap (counts g k) f.is ∙ p in
        let off : any_counts g seen ≡ false = none_seen names sh g ms seen k f.before c (within g (inl refl)) from new f.there same in
        rw (p, off) rest

-- ---- the demands of the members

-- of a member by itself
abbrev pub member_spot : Spot → List ℕ → Bool → Spot
member_spot p k b = record { names = p.names; level = p.level; ends = p.ends; key = k; doubled = b }

abbrev pub CanonHold : Spot → Shape → Pairs → Type 0
CanonHold p sh no_members = Unit {0}
CanonHold p sh (member k d ms) = Each Hold (claims (member_spot p k false) (sort_at sh k) (canon (sort_at sh k) d)) × CanonHold p sh ms

hold_at : (p : Spot) (sh : Shape) (ms : Pairs) (k : List ℕ) (d : Data) → CanonHold p sh ms → value_at k ms ≡ Some d → Each Hold (claims (member_spot p k false) (sort_at sh k) (canon (sort_at sh k) d))
hold_at p sh no_members k d h e = absurd cc
hold_at p sh (member l v ms) k d h e = by (bytes_eq k l) refl (λ f. hold_at p sh ms k d h.1 f)
  where
    by : (b : Bool) → bytes_eq k l ≡ b → (value_at k ms ≡ Some d → Each Hold (claims (member_spot p k false) (sort_at sh k) (canon (sort_at sh k) d))) → Each Hold (claims (member_spot p k false) (sort_at sh k) (canon (sort_at sh k) d))
    by true q rest =
        let same : v ≡ d = let x = rw q at e in cc in
        subst (λ (x : Data). Each Hold (claims (member_spot p k false) (sort_at sh k) (canon (sort_at sh k) x))) same
        (subst (λ (x : List ℕ). Each Hold (claims (member_spot p x false) (sort_at sh x) (canon (sort_at sh x) v))) (sym (same_text k l (sym q))) h.0)
    by false q rest = rest (rw q at e)

pub under_holds : (s : Step) (xs : List Claim) → Each Hold xs → Each Hold (map (under s) xs)
under_holds s xs h = each-map Hold Hold (under s) (λ c k. k) xs h

or_off : (a b : Bool) → a ≡ false → b ≡ false → (a || b) ≡ false
or_off a b p q = rw (p, q) refl

-- a row that isn't among others is none of them
pub apart : (n : List ℕ) (rs : List Row) (k : List ℕ) → is_row n rs ≡ false → is_row k rs ≡ true → bytes_eq k n ≡ false
apart n rs k off on = by (bytes_eq k n) refl
  where
    by : (b : Bool) → bytes_eq k n ≡ b → bytes_eq k n ≡ false
    by false q = q
    by true q = absurd (let x : is_row n rs ≡ true = subst (λ (l : List ℕ). is_row l rs ≡ true) (same_text k n (sym q)) on in let y : true ≡ false = sym x ∙ off in cc)

picked_hold : (names : List ℕ → Bool) (p : Spot) (sh : Shape) (ms : Pairs) → is_template sh.others ≡ false → IsCleanInside names sh ms → CanonHold p sh ms → (rs : List Row) (seen : Members) (i : ℕ) → rows_differ rs ≡ true → AreFrom sh ms seen → ((k : List ℕ) → is_row k rs ≡ true → has_key k seen ≡ false) → Each Hold (member_claims p sh seen i (pairs (picked rs (canon_members sh ms))))
picked_hold names p sh ms t c all [] seen i e from new = tt
picked_hold names p sh ms t c all (r ∷ rs) seen i e from new =
    by (kept r.name (value_at r.name (canon_members sh ms))) refl (not_true (is_row r.name rs) (both_are (not (is_row r.name rs)) (rows_differ rs) e).0)
    (λ others j. picked_hold names p sh ms t c all rs others j (both_are (not (is_row r.name rs)) (rows_differ rs) e).1)
  where
    by : (o : Option Data) → kept r.name (value_at r.name (canon_members sh ms)) ≡ o → is_row r.name rs ≡ false
        → ((others : Members) (j : ℕ) → AreFrom sh ms others → ((k : List ℕ) → is_row k rs ≡ true → has_key k others ≡ false) → Each Hold (member_claims p sh others j (pairs (picked rs (canon_members sh ms)))))
        → Each Hold (member_claims p sh seen i (pairs (opt r.name o ++ picked rs (canon_members sh ms))))
    by None q off rest = rest seen i from (λ k on. new k (or_right (bytes_eq k r.name) (is_row k rs) on))
    by (Some d) q off rest =
        let k = r.name in
        let f = is_from sh ms k d q in
        let fresh : has_key k seen ≡ false = new k (rw (bytes_refl k) refl) in
        let single : is_doubled sh.groups seen k d ≡ false = undoubled names sh sh.groups ms seen k d (λ g at. at) c from fresh f in
        let spot = at_member p sh seen k d in
        let own : Each Hold (claims (member_spot p k false) (sort_at sh k) d) = subst (λ (x : Data). Each Hold (claims (member_spot p k false) (sort_at sh k) x)) f.is (hold_at p sh ms k f.before all f.there) in
        let placed : Each Hold (claims spot (sort_at sh k) d) = subst (λ (b : Bool). Each Hold (claims (member_spot p k b) (sort_at sh k) d)) (sym (or_off (is_doubled sh.groups seen k d) _ single (off_and (is_template sh.others) _ t))) own in
        each-append Hold (map (under (step i k)) (claims spot (sort_at sh k) d)) (member_claims p sh (seen ++ (k, d) ∷ []) (suc i) (pairs (picked rs (canon_members sh ms))))
        (under_holds (step i k) (claims spot (sort_at sh k) d) placed)
        (rest (seen ++ (k, d) ∷ []) (suc i) (from_push sh ms seen k d from f) (λ l on. has_key-push l seen (k, d) ∙ or_off (has_key l seen) (bytes_eq l k) (new l (or_right (bytes_eq l k) (is_row l rs) on)) (apart r.name rs l off on)))

pub members_hold : (names : List ℕ → Bool) (p : Spot) (sh : Shape) (ms : Pairs) → is_template sh.others ≡ false → rows_differ sh.rows ≡ true → IsCleanInside names sh ms → CanonHold p sh ms → Each Hold (member_claims p sh [] 0 (pairs (picked sh.rows (canon_members sh ms))))
members_hold names p sh ms t e c all = picked_hold names p sh ms t c all sh.rows [] 0 e tt (λ k on. refl)

-- ---- groups

in_there : (g : Group) (ms : Pairs) (k : List ℕ) (d : Data) → value_at k ms ≡ Some d → counts g k d ≡ true → any_in g ms ≡ true
in_there g no_members k d e h = absurd cc
in_there g (member l v ms) k d e h = by (bytes_eq k l) refl (λ f. in_there g ms k d f h)
  where
    by : (b : Bool) → bytes_eq k l ≡ b → (value_at k ms ≡ Some d → any_in g ms ≡ true) → (counts g l v || any_in g ms) ≡ true
    by true p rest =
        let same : v ≡ d = let x = rw p at e in cc in
        let first : counts g l v ≡ true = subst (λ (x : Data). counts g l x ≡ true) (sym same) (subst (λ (x : List ℕ). counts g x d ≡ true) (same_text k l (sym p)) h) in
        rw first refl
    by false p rest = or_right (counts g l v) (any_in g ms) (rest (rw p at e))

still_counts : (s : Sort) (o : Option Kind) (g : Group) (ms : Pairs) (k : List ℕ) (d : Data) → IsGroup g (shape_of s o).groups → value_at k ms ≡ Some d → counts g k d ≡ true → any_in g (pairs (picked (shape_of s o).rows (canon_members (shape_of s o) ms))) ≡ true
still_counts s o g ms k d at e h =
    let sh = shape_of s o in
    let v = canon (sort_at sh k) d in
    let on : counts g k v ≡ true = canon_counts g k (sort_at sh k) d ∙ h in
    let row = group_row s o g k at (and_left (is_among k g.names) (not (bytes_eq k (codes "End")) || is_true d) h) in
    let is : value_at k (pairs (picked sh.rows (canon_members sh ms))) ≡ Some v = picked_there k sh.rows (canon_members sh ms) row ∙ ap (kept k) (value_at-canon k sh ms ∙ ap (option_map (canon (sort_at sh k))) e) ∙ counts_kept g k v on in
    in_there g (pairs (picked sh.rows (canon_members sh ms))) k v is on

still_any : (s : Sort) (o : Option Kind) (g : Group) (ms : Pairs) → AreDistinct [] (unpaired ms) → IsGroup g (shape_of s o).groups → any_in g ms ≡ true → any_in g (pairs (picked (shape_of s o).rows (canon_members (shape_of s o) ms))) ≡ true
still_any s o g ms distinct at h = by (any_in g (pairs (picked (shape_of s o).rows (canon_members (shape_of s o) ms)))) refl
  where
    quiet : any_in g (pairs (picked (shape_of s o).rows (canon_members (shape_of s o) ms))) ≡ false → (k : List ℕ) (d : Data) → value_at k ms ≡ Some d → counts g k d ≡ false
    quiet off k d e = which (counts g k d) refl
      where
        which : (b : Bool) → counts g k d ≡ b → counts g k d ≡ false
        which false p = p
        which true p = absurd (let x : true ≡ false = sym (still_counts s o g ms k d at e p) ∙ off in cc)

    by : (b : Bool) → any_in g (pairs (picked (shape_of s o).rows (canon_members (shape_of s o) ms))) ≡ b → any_in g (pairs (picked (shape_of s o).rows (canon_members (shape_of s o) ms))) ≡ true
    by true e = e
    by false e =
        let none : any_in g (pairs (unpaired ms)) ≡ false = none_in g [] (unpaired ms) distinct (λ k d f. quiet e k d (subst (λ (x : Pairs). value_at k x ≡ Some d) (pairs-unpaired ms) f)) in
        let off : any_in g ms ≡ false = subst (λ (x : Pairs). any_in g x ≡ false) (pairs-unpaired ms) none in
        absurd (let x : true ≡ false = sym h ∙ off in cc)

decide_all : (gs : List Group) (ns : Pairs) → ((g : Group) → IsGroup g gs → g.exact ≡ true → any_in g ns ≡ true) → Each Hold (heres (group_demands gs ns))
decide_all [] ns h = tt
decide_all (g ∷ gs) ns h = (by g.exact refl, decide_all gs ns (λ x at e. h x (inr at) e))
  where
    by : (b : Bool) → g.exact ≡ b → (not g.exact || any_in g ns) ≡ true
    by true e = let x = h g (inl refl) e in rw (e, x) refl
    by false e = rw e refl

pub groups_hold : (names : List ℕ → Bool) (s : Sort) (o : Option Kind) (ms : Pairs) → AreDistinct [] (unpaired ms) → IsCleanInside names (shape_of s o) ms → Each Hold (heres (group_demands (shape_of s o).groups (pairs (picked (shape_of s o).rows (canon_members (shape_of s o) ms)))))
groups_hold names s o ms distinct c = decide_all (shape_of s o).groups _ (λ g at e. still_any s o g ms distinct at (some_counts names (shape_of s o) g ms c at e))

-- ---- what is required

some_before : (sh : Shape) (rs : List Row) (ms : Pairs) (k : List ℕ) → is_some (value_at k (pairs (picked rs (canon_members sh ms)))) ≡ true → is_some (value_at k ms) ≡ true
some_before sh rs ms k e = by (is_row k rs) (value_at k ms) refl refl
  where
    by : (b : Bool) (o : Option Data) → is_row k rs ≡ b → value_at k ms ≡ o → is_some (value_at k ms) ≡ true
    by b (Some d) p q = rw q refl
    by false None p q = absurd (let x : false ≡ true = subst (λ (y : Option Data). is_some y ≡ true) (picked_apart k rs (canon_members sh ms) p) e in cc)
    by true None p q = absurd (let is : value_at k (pairs (picked rs (canon_members sh ms))) ≡ None = picked_there k rs (canon_members sh ms) p ∙ ap (kept k) (value_at-canon k sh ms ∙ ap (option_map (canon (sort_at sh k))) q) in let x : false ≡ true = subst (λ (y : Option Data). is_some y ≡ true) is e in cc)

any_before : (sh : Shape) (rs : List Row) (ms : Pairs) (ks : List (List ℕ)) → has_any ks (pairs (picked rs (canon_members sh ms))) ≡ true → has_any ks ms ≡ true
any_before sh rs ms [] e = absurd cc
any_before sh rs ms (k ∷ ks) e = by (is_some (value_at k (pairs (picked rs (canon_members sh ms))))) refl (λ f. any_before sh rs ms ks f)
  where
    by : (b : Bool) → is_some (value_at k (pairs (picked rs (canon_members sh ms)))) ≡ b → (has_any ks (pairs (picked rs (canon_members sh ms))) ≡ true → has_any ks ms ≡ true) → has_any (k ∷ ks) ms ≡ true
    by true p rest = let x : is_some (value_at k ms) ≡ true = some_before sh rs ms k p in rw x refl
    by false p rest = or_right (is_some (value_at k ms)) (has_any ks ms) (rest (rw p at e))

needed_before : (sh : Shape) (rs : List Row) (ms : Pairs) (r : Row) → is_needed r (pairs (picked rs (canon_members sh ms))) ≡ true → is_needed r ms ≡ true
needed_before sh rs ms r e = by r.required refl
  where
    by : (b : Bool) → r.required ≡ b → is_needed r ms ≡ true
    by true p = rw p refl
    by false p = or_right r.required (has_any r.users ms) (any_before sh rs ms r.users (rw p at e))

mapped_some : (s : Sort) (o : Option Data) → is_some o ≡ true → is_some (option_map (canon s) o) ≡ true
mapped_some s None e = e
mapped_some s (Some d) e = refl

idle : (r : Row) (ns : Pairs) → bytes_eq r.name (codes "End") ≡ true → row_stays r ≡ true → is_needed r ns ≡ false
idle r ns e h = by r.required r.users refl refl
  where
    by : (b : Bool) (ks : List (List ℕ)) → r.required ≡ b → r.users ≡ ks → is_needed r ns ≡ false
    by true ks p q = absurd (let x = rw (e, p) at h in cc)
    by false [] p q = rw (p, q) refl
    by false (k ∷ ks) p q = absurd (let x = rw (e, p, q) at h in cc)

rows_from : (sh : Shape) (ms : Pairs) (rs : List Row) (i j : ℕ) → ((k : List ℕ) → is_row k rs ≡ true → is_row k sh.rows ≡ true) → rows_stay rs ≡ true → Each Hold (row_claims j rs ms) → Each Hold (row_claims i rs (pairs (picked sh.rows (canon_members sh ms))))
rows_from sh ms [] i j within e h = tt
rows_from sh ms (r ∷ rs) i j within e h =
    let ns = pairs (picked sh.rows (canon_members sh ms)) in
    let stays = both_are (row_stays r) (rows_stay rs) e in
    let others = each_right Hold (if is_needed r ms then (there (value_at r.name ms), step j r.name ∷ []) ∷ [] else []) (row_claims (suc j) rs ms) h in
    let rest = rows_from sh ms rs (suc i) (suc j) (λ k on. within k (or_right (bytes_eq k r.name) (is_row k rs) on)) stays.1 others in
    each-append Hold (if is_needed r ns then (there (value_at r.name ns), step i r.name ∷ []) ∷ [] else []) (row_claims (suc i) rs ns) (by (is_needed r ns) refl stays.0) rest
  where
    still : is_needed r ms ≡ true → bytes_eq r.name (codes "End") ≡ false → is_some (value_at r.name (pairs (picked sh.rows (canon_members sh ms)))) ≡ true
    still need other =
        let there_was : is_some (value_at r.name ms) ≡ true = (rw need at h).0 in
        let is = picked_there r.name sh.rows (canon_members sh ms) (within r.name (rw (bytes_refl r.name) refl)) ∙ not_end r.name (value_at r.name (canon_members sh ms)) other ∙ value_at-canon r.name sh ms in
        subst (λ (o : Option Data). is_some o ≡ true) (sym is) (mapped_some (sort_at sh r.name) (value_at r.name ms) there_was)

    by : (b : Bool) → is_needed r (pairs (picked sh.rows (canon_members sh ms))) ≡ b → row_stays r ≡ true → Each Hold (if b then (there (value_at r.name (pairs (picked sh.rows (canon_members sh ms)))), step i r.name ∷ []) ∷ [] else [])
    by false p stays = tt
    by true p stays = (which (bytes_eq r.name (codes "End")) refl, tt)
      where
        which : (a : Bool) → bytes_eq r.name (codes "End") ≡ a → is_some (value_at r.name (pairs (picked sh.rows (canon_members sh ms)))) ≡ true
        which false q = still (needed_before sh sh.rows ms r p) q
        which true q = absurd (let x : true ≡ false = sym p ∙ idle r (pairs (picked sh.rows (canon_members sh ms))) q stays in cc)

pub rows_hold : (sh : Shape) (ms : Pairs) (i j : ℕ) → rows_stay sh.rows ≡ true → Each Hold (row_claims j sh.rows ms) → Each Hold (row_claims i sh.rows (pairs (picked sh.rows (canon_members sh ms))))
rows_hold sh ms i j e h = rows_from sh ms sh.rows i j (λ k on. on) e h
