-- Where a fault stands, the walk leads to what breaks a demand.
use Rattle.std.proofs.Common.{◌≡◌, ◌⊎◌, ℕ, zero, suc, ◌+◌, Bool, true, false, ◌&&◌, ◌||◌, not, List, [], ◌∷◌, ◌++◌, inl, inr, refl, sym, ap, subst, ◌∙◌, append_assoc, arith}
use Rattle.std.specs.Prelude.{Option, Some, None, is_some, slice_get, map, option_map, option_and_then, if◌then◌else◌}
use Rattle.std.specs.Option.{option_map_or}
use Rattle.std.specs.Fmt.{decimal}
use Rattle.std.specs.Cmp.Lexicographic.{same_text}
use Rattle.asl_json_data.specs.Data.{Data, null, boolean, number, text, list, dict, Chain, no_items, item, Pairs, no_members, member}
use Rattle.asl_json.specs.Same.{bytes_eq}
use Rattle.asl_json.specs.private.SameLaws.{bytes_refl}
use Rattle.asl_json.specs.Meaning.{count, value_at}
use Rattle.asl_json_data.specs.Distinct.{Members}
use Rattle.asl_def_schema.specs.declared.fault.FaultKind.{FaultKind}
use Rattle.asl_def_schema.specs.declared.fault.FaultKind.TheVariants as kind
use Rattle.asl_def_schema.specs.declared.fault.Step.{Step}
use Rattle.asl_def_schema.specs.declared.sort.Sort.{Sort}
use Rattle.asl_def_schema.specs.Members.{Row, Group, Shape, shape_in, sort_at, item_sort}
use Rattle.asl_def_schema.specs.Demands.{there}
use Rattle.asl_def_schema.specs.Claims.{Claim, Spot, under, heres, step, demands, claims, item_claims, member_claims, row_claims, group_demands, any_in, at_item, at_member, inside, is_nonempty, is_list, is_object, is_needed, object_claims}
use Rattle.asl_def_fault_laws.specs.Parts.{Part, part, item_at, member_at, part_in, next, part_at}
use Rattle.asl_def_fault_laws.specs.Faults.{One, IsFault}
use Rattle.asl_def_fault_laws.specs.Listed.{HasNone}
use Rattle.asl_def_fault_laws.proofs.Ones.{one_left, one_right, one_split, Breaks, here_in, here_out, here_further, under_in, under_out, under_root, tail_of}

-- no item stands behind the one of this number
abbrev pub is_end : ℕ → Chain → Bool
is_end i no_items = true
is_end zero (item d ds) = not (is_nonempty ds)
is_end (suc i) (item d ds) = is_end i ds

-- the members before the one of this number
abbrev pub taken : ℕ → Pairs → Members
taken i no_members = []
taken zero (member k d ms) = []
taken (suc i) (member k d ms) = (k, d) ∷ taken i ms

-- where the part stands that a step leads to
abbrev pub spot_in : Spot → Sort → Data → Step → Data → Spot
spot_in p s (list ds) t v = at_item p (is_end t.at ds)
spot_in p s (dict ms) t v = at_member (inside p s ms) (shape_in s ms) (taken t.at ms) t.name v
spot_in p s d t v = p

abbrev pub spot_at : Spot → Part → List Step → Spot
spot_at p x [] = p
spot_at p x (t ∷ ts) = option_map_or (λ (y : Part). spot_at (spot_in p x.sort x.value t y.value) y ts) (next x t) p

-- ---- items

pub record IsInItem (k : FaultKind) (ts : List Step) (t : Step) (p : Spot) (s : Sort) (i : ℕ) (ds : Chain) : Type 0 where
  pub behind : ℕ
  pub number : t.at ≡ i + behind
  pub name : t.name ≡ decimal t.at
  pub value : Data
  pub there : item_at behind ds ≡ Some value
  pub fault : One (IsFault k ts) (claims (at_item p (is_end behind ds)) s value)

pub item_out : (k : FaultKind) (ts : List Step) (t : Step) (p : Spot) (s : Sort) (i : ℕ) (ds : Chain) → One (IsFault k (t ∷ ts)) (item_claims p s i ds) → IsInItem k ts t p s i ds
item_out k ts t p s i no_items h = absurd h
item_out k ts t p s i (item d ds) h = by (λ u. item_out k ts t p s (suc i) ds u) (one_split (IsFault k (t ∷ ts)) first rest h)
  where
    first : List Claim
    first = map (under (step i (decimal i))) (claims (at_item p (not (is_nonempty ds))) s d)

    rest : List Claim
    rest = item_claims p s (suc i) ds

    by : (One (IsFault k (t ∷ ts)) rest → IsInItem k ts t p s (suc i) ds) → One (IsFault k (t ∷ ts)) first ⊎ One (IsFault k (t ∷ ts)) rest → IsInItem k ts t p s i (item d ds)
    by further (inl u) =
        let r = under_out k (step i (decimal i)) t ts (claims (at_item p (not (is_nonempty ds))) s d) u in
        let at : i ≡ t.at = ap (λ (x : Step). x.at) r.step in
        record { behind = 0; number = omega (arith, at); name = sym (ap (λ (x : Step). x.name) r.step) ∙ ap decimal at; value = d; there = refl; fault = r.fault }
    by further (inr u) =
        let r = further u in
        record { behind = suc r.behind; number = omega (arith, r.number); name = r.name; value = r.value; there = r.there; fault = r.fault }

pub item_in : (k : FaultKind) (ts : List Step) (t : Step) (p : Spot) (s : Sort) (i j : ℕ) (ds : Chain) (v : Data) → t.at ≡ i + j → t.name ≡ decimal t.at → item_at j ds ≡ Some v → One (IsFault k ts) (claims (at_item p (is_end j ds)) s v) → One (IsFault k (t ∷ ts)) (item_claims p s i ds)
item_in k ts t p s i j no_items v n m e h = absurd cc
item_in k ts t p s i zero (item d ds) v n m e h =
    let at : i ≡ t.at = omega (arith, n) in
    let same : step i (decimal i) ≡ t = ap (λ (x : ℕ). step x (decimal x)) at ∙ ap (step t.at) (sym m) in
    let is : v ≡ d = cc in
    let own = subst (λ (x : Data). One (IsFault k ts) (claims (at_item p (not (is_nonempty ds))) s x)) is h in
    one_left (IsFault k (t ∷ ts)) (map (under (step i (decimal i))) (claims (at_item p (not (is_nonempty ds))) s d)) (item_claims p s (suc i) ds)
    (subst (λ (u : Step). One (IsFault k (u ∷ ts)) (map (under (step i (decimal i))) (claims (at_item p (not (is_nonempty ds))) s d))) same (under_in k (step i (decimal i)) ts _ own))
item_in k ts t p s i (suc j) (item d ds) v n m e h =
    one_right (IsFault k (t ∷ ts)) (map (under (step i (decimal i))) (claims (at_item p (not (is_nonempty ds))) s d)) (item_claims p s (suc i) ds)
    (item_in k ts t p s (suc i) j ds v (omega (arith, n)) m e h)

-- ---- members

pub record IsInMember (k : FaultKind) (ts : List Step) (t : Step) (p : Spot) (sh : Shape) (seen : Members) (i : ℕ) (ms : Pairs) : Type 0 where
  pub behind : ℕ
  pub number : t.at ≡ i + behind
  pub value : Data
  pub there : member_at behind t.name ms ≡ Some value
  pub fault : One (IsFault k ts) (claims (at_member p sh (seen ++ taken behind ms) t.name value) (sort_at sh t.name) value)

pub append_none : {X : Type 0} (xs : List X) → xs ++ [] ≡ xs
append_none [] = refl
append_none {X = X} (x ∷ xs) = ap (λ (ys : List X). x ∷ ys) (append_none xs)

pub member_out : (k : FaultKind) (ts : List Step) (t : Step) (p : Spot) (sh : Shape) (seen : Members) (i : ℕ) (ms : Pairs) → One (IsFault k (t ∷ ts)) (member_claims p sh seen i ms) → IsInMember k ts t p sh seen i ms
member_out k ts t p sh seen i no_members h = absurd h
member_out k ts t p sh seen i (member l d ms) h = by (λ u. member_out k ts t p sh (seen ++ (l, d) ∷ []) (suc i) ms u) (one_split (IsFault k (t ∷ ts)) first rest h)
  where
    first : List Claim
    first = map (under (step i l)) (claims (at_member p sh seen l d) (sort_at sh l) d)

    rest : List Claim
    rest = member_claims p sh (seen ++ (l, d) ∷ []) (suc i) ms

    by : (One (IsFault k (t ∷ ts)) rest → IsInMember k ts t p sh (seen ++ (l, d) ∷ []) (suc i) ms) → One (IsFault k (t ∷ ts)) first ⊎ One (IsFault k (t ∷ ts)) rest → IsInMember k ts t p sh seen i (member l d ms)
    by further (inl u) =
        let r = under_out k (step i l) t ts (claims (at_member p sh seen l d) (sort_at sh l) d) u in
        let at : i ≡ t.at = ap (λ (x : Step). x.at) r.step in
        let name : l ≡ t.name = ap (λ (x : Step). x.name) r.step in
        let found : member_at 0 t.name (member l d ms) ≡ Some d = subst (λ (n : List ℕ). member_at 0 n (member l d ms) ≡ Some d) name (rw (bytes_refl l) refl) in
        let fault = subst (λ (n : List ℕ). One (IsFault k ts) (claims (at_member p sh seen n d) (sort_at sh n) d)) name r.fault in
        record { behind = 0; number = omega (arith, at); value = d; there = found; fault = subst (λ (xs : Members). One (IsFault k ts) (claims (at_member p sh xs t.name d) (sort_at sh t.name) d)) (sym (append_none seen)) fault }
    by further (inr u) =
        let r = further u in
        let more : (seen ++ (l, d) ∷ []) ++ taken r.behind ms ≡ seen ++ (l, d) ∷ taken r.behind ms = append_assoc seen ((l, d) ∷ []) (taken r.behind ms) in
        record { behind = suc r.behind; number = omega (arith, r.number); value = r.value; there = r.there; fault = subst (λ (xs : Members). One (IsFault k ts) (claims (at_member p sh xs t.name r.value) (sort_at sh t.name) r.value)) more r.fault }

pub member_in : (k : FaultKind) (ts : List Step) (t : Step) (p : Spot) (sh : Shape) (seen : Members) (i j : ℕ) (ms : Pairs) (v : Data) → t.at ≡ i + j → member_at j t.name ms ≡ Some v → One (IsFault k ts) (claims (at_member p sh (seen ++ taken j ms) t.name v) (sort_at sh t.name) v) → One (IsFault k (t ∷ ts)) (member_claims p sh seen i ms)
member_in k ts t p sh seen i j no_members v n e h = absurd cc
member_in k ts t p sh seen i zero (member l d ms) v n e h = by (bytes_eq t.name l) refl e
  where
    by : (b : Bool) → bytes_eq t.name l ≡ b → (if b then Some d else None) ≡ Some v → One (IsFault k (t ∷ ts)) (member_claims p sh seen i (member l d ms))
    by true same is =
        let at : i ≡ t.at = omega (arith, n) in
        let name : t.name ≡ l = same_text t.name l (sym same) in
        let stands : step i l ≡ t = ap (λ (x : ℕ). step x l) at ∙ ap (step t.at) (sym name) in
        let value : v ≡ d = cc in
        let own = subst (λ (xs : Members). One (IsFault k ts) (claims (at_member p sh xs t.name v) (sort_at sh t.name) v)) (append_none seen) h in
        let named = subst (λ (m : List ℕ). One (IsFault k ts) (claims (at_member p sh seen m v) (sort_at sh m) v)) name own in
        let valued = subst (λ (x : Data). One (IsFault k ts) (claims (at_member p sh seen l x) (sort_at sh l) x)) value named in
        one_left (IsFault k (t ∷ ts)) (map (under (step i l)) (claims (at_member p sh seen l d) (sort_at sh l) d)) (member_claims p sh (seen ++ (l, d) ∷ []) (suc i) ms)
        (subst (λ (u : Step). One (IsFault k (u ∷ ts)) (map (under (step i l)) (claims (at_member p sh seen l d) (sort_at sh l) d))) stands (under_in k (step i l) ts _ valued))
    by false same is = absurd cc
member_in k ts t p sh seen i (suc j) (member l d ms) v n e h =
    let more : (seen ++ (l, d) ∷ []) ++ taken j ms ≡ seen ++ (l, d) ∷ taken j ms = append_assoc seen ((l, d) ∷ []) (taken j ms) in
    one_right (IsFault k (t ∷ ts)) (map (under (step i l)) (claims (at_member p sh seen l d) (sort_at sh l) d)) (member_claims p sh (seen ++ (l, d) ∷ []) (suc i) ms)
    (member_in k ts t p sh (seen ++ (l, d) ∷ []) (suc i) j ms v (omega (arith, n)) e (subst (λ (xs : Members). One (IsFault k ts) (claims (at_member p sh xs t.name v) (sort_at sh t.name) v)) (sym more) h))

-- ---- groups and rows

group_out : (k : FaultKind) (gs : List Group) (ms : Pairs) → One (Breaks k) (group_demands gs ms) → (kind.Neither ≡ k) × One (HasNone ms) gs
group_out k [] ms h = absurd h
group_out k (g ∷ gs) ms (inl h) = (h.kind, inl (by g.exact (any_in g ms) refl refl h.broken))
  where
    by : (a b : Bool) → g.exact ≡ a → any_in g ms ≡ b → ((not a || b) ≡ true → ⊥) → HasNone ms g
    by true false e f broken = (e, f)
    by true true e f broken = absurd (broken refl)
    by false b e f broken = absurd (broken refl)
group_out k (g ∷ gs) ms (inr h) =
    let r = group_out k gs ms h in
    (r.0, inr r.1)

pub group_in : (gs : List Group) (ms : Pairs) → One (HasNone ms) gs → One (Breaks kind.Neither) (group_demands gs ms)
group_in [] ms h = absurd h
group_in (g ∷ gs) ms (inl h) = inl (record { broken = broken; kind = refl })
  where
    broken : (not g.exact || any_in g ms) ≡ true → ⊥
    broken e = absurd (let f : false ≡ true = subst (λ (b : Bool). (not true || b) ≡ true) h.1 (subst (λ (a : Bool). (not a || any_in g ms) ≡ true) h.0 e) in cc)
group_in (g ∷ gs) ms (inr h) = inr (group_in gs ms h)

-- a required member that isn't there, of the rows from a number on
pub record IsRow (k : FaultKind) (place : List Step) (i : ℕ) (rs : List Row) (ms : Pairs) : Type 0 where
  pub number : ℕ
  pub row : Row
  pub listed : slice_get rs number ≡ Some row
  pub needed : is_needed row ms ≡ true
  pub absent : value_at row.name ms ≡ None
  pub kind : kind.Missing ≡ k
  pub stands : step (i + number) row.name ∷ [] ≡ place

row_out : (k : FaultKind) (place : List Step) (i : ℕ) (rs : List Row) (ms : Pairs) → One (IsFault k place) (row_claims i rs ms) → IsRow k place i rs ms
row_out k place i [] ms h = absurd h
row_out k place i (r ∷ rs) ms h = by (is_needed r ms) refl (λ u. row_out k place (suc i) rs ms u) h
  where
    more : IsRow k place (suc i) rs ms → IsRow k place i (r ∷ rs) ms
    more q =
        let at : i + suc q.number ≡ suc i + q.number = omega arith in
        record {
          number = suc q.number;
          row = q.row;
          listed = q.listed;
          needed = q.needed;
          absent = q.absent;
          kind = q.kind;
          stands = ap (λ (n : ℕ). step n q.row.name ∷ []) at ∙ q.stands;
        }

    missing : (o : Option Data) → (is_some o ≡ true → ⊥) → o ≡ None
    missing None broken = refl
    missing (Some d) broken = absurd (broken refl)

    split : is_needed r ms ≡ true → (One (IsFault k place) (row_claims (suc i) rs ms) → IsRow k place (suc i) rs ms) → One (IsFault k place) ((there (value_at r.name ms), step i r.name ∷ []) ∷ row_claims (suc i) rs ms) → IsRow k place i (r ∷ rs) ms
    split e further (inl g) =
        let at : i + 0 ≡ i = omega arith in
        record {
          number = 0;
          row = r;
          listed = refl;
          needed = e;
          absent = missing (value_at r.name ms) g.broken;
          kind = g.kind;
          stands = ap (λ (n : ℕ). step n r.name ∷ []) at ∙ g.stands;
        }
    split e further (inr g) = more (further g)

    by : (b : Bool) → is_needed r ms ≡ b → (One (IsFault k place) (row_claims (suc i) rs ms) → IsRow k place (suc i) rs ms) → One (IsFault k place) (row_claims i (r ∷ rs) ms) → IsRow k place i (r ∷ rs) ms
    by true e further f = split e further (rw e at f)
    by false e further f = more (further (rw e at f))

pub row_in : (i n : ℕ) (rs : List Row) (ms : Pairs) (row : Row) → slice_get rs n ≡ Some row → is_needed row ms ≡ true → value_at row.name ms ≡ None → One (IsFault kind.Missing (step (i + n) row.name ∷ [])) (row_claims i rs ms)
row_in i n [] ms row l m a = absurd cc
row_in i zero (r ∷ rs) ms row l m a =
    let is : row ≡ r = (let e : r ≡ row = cc in sym e) in
    let at : i ≡ i + 0 = omega arith in
    let needed : is_needed r ms ≡ true = subst (λ (x : Row). is_needed x ms ≡ true) is m in
    let absent : value_at r.name ms ≡ None = subst (λ (x : Row). value_at x.name ms ≡ None) is a in
    let broken : is_some (value_at r.name ms) ≡ true → ⊥ = λ e. absurd (let f : false ≡ true = sym (ap (λ (o : Option Data). is_some o) absent) ∙ e in cc) in
    let stands : step i r.name ∷ [] ≡ step (i + 0) row.name ∷ [] = ap (λ (j : ℕ). step j r.name ∷ []) at ∙ ap (λ (x : Row). step (i + 0) x.name ∷ []) (sym is) in
    one_left (IsFault kind.Missing (step (i + 0) row.name ∷ [])) (if is_needed r ms then (there (value_at r.name ms), step i r.name ∷ []) ∷ [] else []) (row_claims (suc i) rs ms)
    (subst (λ (b : Bool). One (IsFault kind.Missing (step (i + 0) row.name ∷ [])) (if b then (there (value_at r.name ms), step i r.name ∷ []) ∷ [] else [])) (sym needed) (inl (record { broken = broken; kind = refl; stands = stands })))
row_in i (suc n) (r ∷ rs) ms row l needed a =
    let at : suc i + n ≡ i + suc n = omega arith in
    one_right (IsFault kind.Missing (step (i + suc n) row.name ∷ [])) (if is_needed r ms then (there (value_at r.name ms), step i r.name ∷ []) ∷ [] else []) (row_claims (suc i) rs ms)
    (subst (λ (j : ℕ). One (IsFault kind.Missing (step j row.name ∷ [])) (row_claims (suc i) rs ms)) at (row_in (suc i) n rs ms row l needed a))

-- no row stands at the object itself
row_root : (k : FaultKind) (i : ℕ) (rs : List Row) (ms : Pairs) → One (IsFault k []) (row_claims i rs ms) → ⊥
row_root k i rs ms h = let r = row_out k [] i rs ms h in absurd (let e = r.stands in cc)

-- every claim of an item or a member stands under a step

item_none : (k : FaultKind) (p : Spot) (s : Sort) (i : ℕ) (ds : Chain) → One (IsFault k []) (item_claims p s i ds) → ⊥
item_none k p s i no_items h = absurd h
item_none k p s i (item d ds) h = by (λ u. item_none k p s (suc i) ds u) (one_split (IsFault k []) (map (under (step i (decimal i))) (claims (at_item p (not (is_nonempty ds))) s d)) (item_claims p s (suc i) ds) h)
  where
    by : (One (IsFault k []) (item_claims p s (suc i) ds) → ⊥) → One (IsFault k []) (map (under (step i (decimal i))) (claims (at_item p (not (is_nonempty ds))) s d)) ⊎ One (IsFault k []) (item_claims p s (suc i) ds) → ⊥
    by further (inl u) = under_root k (step i (decimal i)) (claims (at_item p (not (is_nonempty ds))) s d) u
    by further (inr u) = further u

member_none : (k : FaultKind) (p : Spot) (sh : Shape) (seen : Members) (i : ℕ) (ms : Pairs) → One (IsFault k []) (member_claims p sh seen i ms) → ⊥
member_none k p sh seen i no_members h = absurd h
member_none k p sh seen i (member l d ms) h = by (λ u. member_none k p sh (seen ++ (l, d) ∷ []) (suc i) ms u) (one_split (IsFault k []) (map (under (step i l)) (claims (at_member p sh seen l d) (sort_at sh l) d)) (member_claims p sh (seen ++ (l, d) ∷ []) (suc i) ms) h)
  where
    by : (One (IsFault k []) (member_claims p sh (seen ++ (l, d) ∷ []) (suc i) ms) → ⊥) → One (IsFault k []) (map (under (step i l)) (claims (at_member p sh seen l d) (sort_at sh l) d)) ⊎ One (IsFault k []) (member_claims p sh (seen ++ (l, d) ∷ []) (suc i) ms) → ⊥
    by further (inl u) = under_root k (step i l) (claims (at_member p sh seen l d) (sort_at sh l) d) u
    by further (inr u) = further u

-- ---- where a step leads

pub record IsItem (s : Sort) (ds : Chain) (t : Step) (y : Part) : Type 0 where
  pub searched : is_list s ≡ true
  pub name : t.name ≡ decimal t.at
  pub value : Data
  pub there : item_at t.at ds ≡ Some value
  pub is : y ≡ part (item_sort s) value

pub item_found : (s : Sort) (ds : Chain) (t : Step) (y : Part) → part_in s (list ds) t ≡ Some y → IsItem s ds t y
item_found s ds t y h = by (is_list s) (bytes_eq t.name (decimal t.at)) (item_at t.at ds) refl refl refl h
  where
    by : (a b : Bool) (o : Option Data) → is_list s ≡ a → bytes_eq t.name (decimal t.at) ≡ b → item_at t.at ds ≡ o → (if a && b then option_map (part (item_sort s)) o else None) ≡ Some y → IsItem s ds t y
    by true true (Some v) e f g is = record { searched = e; name = same_text t.name (decimal t.at) (sym f); value = v; there = g; is = let x : part (item_sort s) v ≡ y = cc in sym x }
    by true true None e f g is = absurd cc
    by true false o e f g is = absurd cc
    by false b o e f g is = absurd cc

pub find_item : (s : Sort) (ds : Chain) (t : Step) (v : Data) → is_list s ≡ true → t.name ≡ decimal t.at → item_at t.at ds ≡ Some v → part_in s (list ds) t ≡ Some (part (item_sort s) v)
find_item s ds t v e n i =
    let same : bytes_eq t.name (decimal t.at) ≡ true = subst (λ (x : List ℕ). bytes_eq t.name x ≡ true) n (bytes_refl t.name) in
    rw (e, same, i) refl

pub record IsMember (s : Sort) (ms : Pairs) (t : Step) (y : Part) : Type 0 where
  pub searched : is_object s ≡ true
  pub value : Data
  pub there : member_at t.at t.name ms ≡ Some value
  pub is : y ≡ part (sort_at (shape_in s ms) t.name) value

pub member_found : (s : Sort) (ms : Pairs) (t : Step) (y : Part) → part_in s (dict ms) t ≡ Some y → IsMember s ms t y
member_found s ms t y h = by (is_object s) (member_at t.at t.name ms) refl refl h
  where
    by : (a : Bool) (o : Option Data) → is_object s ≡ a → member_at t.at t.name ms ≡ o → (if a then option_map (part (sort_at (shape_in s ms) t.name)) o else None) ≡ Some y → IsMember s ms t y
    by true (Some v) e g is = record { searched = e; value = v; there = g; is = let x : part (sort_at (shape_in s ms) t.name) v ≡ y = cc in sym x }
    by true None e g is = absurd cc
    by false o e g is = absurd cc

pub find_member : (s : Sort) (ms : Pairs) (t : Step) (v : Data) → is_object s ≡ true → member_at t.at t.name ms ≡ Some v → part_in s (dict ms) t ≡ Some (part (sort_at (shape_in s ms) t.name) v)
find_member s ms t v e i = rw (e, i) refl

-- ---- a fault behind a step

record IsFurther (k : FaultKind) (ts : List Step) (t : Step) (p : Spot) (s : Sort) (d : Data) : Type 0 where
  to : Part
  leads : part_in s d t ≡ Some to
  fault : One (IsFault k ts) (claims (spot_in p s d t to.value) to.sort to.value)

-- a required member of an object isn't there
pub record Lacks (k : FaultKind) (place : List Step) (s : Sort) (d : Data) : Type 0 where
  pub members : Pairs
  pub value : d ≡ dict members
  pub searched : is_object s ≡ true
  pub row : IsRow k place (count members) (shape_in s members).rows members

step_out : (k : FaultKind) (ts : List Step) (t : Step) (p : Spot) (s : Sort) (d : Data) → One (IsFault k (t ∷ ts)) (claims p s d) → IsFurther k ts t p s d ⊎ Lacks k (t ∷ ts) s d
step_out k ts t p s null h = absurd (here_further k t ts (demands p s null) h)
step_out k ts t p s (boolean b) h = absurd (here_further k t ts (demands p s (boolean b)) h)
step_out k ts t p s (number n) h = absurd (here_further k t ts (demands p s (number n)) h)
step_out k ts t p s (text x) h = absurd (here_further k t ts (demands p s (text x)) h)
step_out k ts t p s (list ds) h = by (is_list s) refl (one_split (IsFault k (t ∷ ts)) (heres (demands p s (list ds))) (if is_list s then item_claims p (item_sort s) 0 ds else []) h)
  where
    by : (b : Bool) → is_list s ≡ b → One (IsFault k (t ∷ ts)) (heres (demands p s (list ds))) ⊎ One (IsFault k (t ∷ ts)) (if is_list s then item_claims p (item_sort s) 0 ds else []) → IsFurther k ts t p s (list ds) ⊎ Lacks k (t ∷ ts) s (list ds)
    by b e (inl u) = absurd (here_further k t ts (demands p s (list ds)) u)
    by true e (inr u) =
        let r = item_out k ts t p (item_sort s) 0 ds (rw e at u) in
        let at : r.behind ≡ t.at = omega (arith, r.number) in
        inl (record {
          to = part (item_sort s) r.value;
          leads = find_item s ds t r.value e r.name (subst (λ (j : ℕ). item_at j ds ≡ Some r.value) at r.there);
          fault = subst (λ (j : ℕ). One (IsFault k ts) (claims (at_item p (is_end j ds)) (item_sort s) r.value)) at r.fault;
        })
    by false e (inr u) = absurd (rw e at u)
step_out k ts t p s (dict ms) h = by (is_object s) refl (one_split (IsFault k (t ∷ ts)) (heres (demands p s (dict ms))) (if is_object s then object_claims p s ms else []) h)
  where
    found : is_object s ≡ true → IsInMember k ts t (inside p s ms) (shape_in s ms) [] 0 ms → IsFurther k ts t p s (dict ms)
    found e r =
        let at : r.behind ≡ t.at = omega (arith, r.number) in
        record {
          to = part (sort_at (shape_in s ms) t.name) r.value;
          leads = find_member s ms t r.value e (subst (λ (j : ℕ). member_at j t.name ms ≡ Some r.value) at r.there);
          fault = subst (λ (j : ℕ). One (IsFault k ts) (claims (at_member (inside p s ms) (shape_in s ms) (taken j ms) t.name r.value) (sort_at (shape_in s ms) t.name) r.value)) at r.fault;
        }

    rest : is_object s ≡ true → One (IsFault k (t ∷ ts)) (member_claims (inside p s ms) (shape_in s ms) [] 0 ms) ⊎ One (IsFault k (t ∷ ts)) (row_claims (count ms) (shape_in s ms).rows ms) → IsFurther k ts t p s (dict ms) ⊎ Lacks k (t ∷ ts) s (dict ms)
    rest e (inl u) = inl (found e (member_out k ts t (inside p s ms) (shape_in s ms) [] 0 ms u))
    rest e (inr u) = inr (record { members = ms; value = refl; searched = e; row = row_out k (t ∷ ts) (count ms) (shape_in s ms).rows ms u })

    parts : is_object s ≡ true → One (IsFault k (t ∷ ts)) (heres (group_demands (shape_in s ms).groups ms)) ⊎ One (IsFault k (t ∷ ts)) (member_claims (inside p s ms) (shape_in s ms) [] 0 ms ++ row_claims (count ms) (shape_in s ms).rows ms) → IsFurther k ts t p s (dict ms) ⊎ Lacks k (t ∷ ts) s (dict ms)
    parts e (inl u) = absurd (here_further k t ts (group_demands (shape_in s ms).groups ms) u)
    parts e (inr u) = rest e (one_split (IsFault k (t ∷ ts)) (member_claims (inside p s ms) (shape_in s ms) [] 0 ms) (row_claims (count ms) (shape_in s ms).rows ms) u)

    by : (b : Bool) → is_object s ≡ b → One (IsFault k (t ∷ ts)) (heres (demands p s (dict ms))) ⊎ One (IsFault k (t ∷ ts)) (if is_object s then object_claims p s ms else []) → IsFurther k ts t p s (dict ms) ⊎ Lacks k (t ∷ ts) s (dict ms)
    by b e (inl u) = absurd (here_further k t ts (demands p s (dict ms)) u)
    by true e (inr u) = parts e (one_split (IsFault k (t ∷ ts)) (heres (group_demands (shape_in s ms).groups ms)) (member_claims (inside p s ms) (shape_in s ms) [] 0 ms ++ row_claims (count ms) (shape_in s ms).rows ms) (rw e at u))
    by false e (inr u) = absurd (rw e at u)

step_in : (k : FaultKind) (ts : List Step) (t : Step) (p : Spot) (s : Sort) (d : Data) (y : Part) → part_in s d t ≡ Some y → One (IsFault k ts) (claims (spot_in p s d t y.value) y.sort y.value) → One (IsFault k (t ∷ ts)) (claims p s d)
step_in k ts t p s (list ds) y e h =
    let r = item_found s ds t y e in
    let own = subst (λ (z : Part). One (IsFault k ts) (claims (spot_in p s (list ds) t z.value) z.sort z.value)) r.is h in
    let all = item_in k ts t p (item_sort s) 0 t.at ds r.value (omega arith) r.name r.there own in
    one_right (IsFault k (t ∷ ts)) (heres (demands p s (list ds))) (if is_list s then item_claims p (item_sort s) 0 ds else [])
    (subst (λ (b : Bool). One (IsFault k (t ∷ ts)) (if b then item_claims p (item_sort s) 0 ds else [])) (sym r.searched) all)
step_in k ts t p s (dict ms) y e h =
    let r = member_found s ms t y e in
    let own = subst (λ (z : Part). One (IsFault k ts) (claims (spot_in p s (dict ms) t z.value) z.sort z.value)) r.is h in
    let all = member_in k ts t (inside p s ms) (shape_in s ms) [] 0 t.at ms r.value (omega arith) r.there own in
    one_right (IsFault k (t ∷ ts)) (heres (demands p s (dict ms))) (if is_object s then object_claims p s ms else [])
    (subst (λ (b : Bool). One (IsFault k (t ∷ ts)) (if b then object_claims p s ms else [])) (sym r.searched)
    (one_right (IsFault k (t ∷ ts)) (heres (group_demands (shape_in s ms).groups ms)) (member_claims (inside p s ms) (shape_in s ms) [] 0 ms ++ row_claims (count ms) (shape_in s ms).rows ms)
    (one_left (IsFault k (t ∷ ts)) (member_claims (inside p s ms) (shape_in s ms) [] 0 ms) (row_claims (count ms) (shape_in s ms).rows ms) all)))
step_in k ts t p s x y e h = absurd cc

-- ---- a fault of the value itself

-- an object has none of the members of a group
pub record Leaves (k : FaultKind) (s : Sort) (d : Data) : Type 0 where
  pub members : Pairs
  pub value : d ≡ dict members
  pub searched : is_object s ≡ true
  pub kind : kind.Neither ≡ k
  pub none : One (HasNone members) (shape_in s members).groups

pub root_out : (k : FaultKind) (p : Spot) (s : Sort) (d : Data) → One (IsFault k []) (claims p s d) → One (Breaks k) (demands p s d) ⊎ Leaves k s d
root_out k p s null h = inl (here_out k (demands p s null) h)
root_out k p s (boolean b) h = inl (here_out k (demands p s (boolean b)) h)
root_out k p s (number n) h = inl (here_out k (demands p s (number n)) h)
root_out k p s (text x) h = inl (here_out k (demands p s (text x)) h)
root_out k p s (list ds) h = by (is_list s) refl (one_split (IsFault k []) (heres (demands p s (list ds))) (if is_list s then item_claims p (item_sort s) 0 ds else []) h)
  where
    by : (b : Bool) → is_list s ≡ b → One (IsFault k []) (heres (demands p s (list ds))) ⊎ One (IsFault k []) (if is_list s then item_claims p (item_sort s) 0 ds else []) → One (Breaks k) (demands p s (list ds)) ⊎ Leaves k s (list ds)
    by b e (inl u) = inl (here_out k (demands p s (list ds)) u)
    by true e (inr u) = absurd (item_none k p (item_sort s) 0 ds (rw e at u))
    by false e (inr u) = absurd (rw e at u)
root_out k p s (dict ms) h = by (is_object s) refl (one_split (IsFault k []) (heres (demands p s (dict ms))) (if is_object s then object_claims p s ms else []) h)
  where
    rest : One (IsFault k []) (member_claims (inside p s ms) (shape_in s ms) [] 0 ms) ⊎ One (IsFault k []) (row_claims (count ms) (shape_in s ms).rows ms) → ⊥
    rest (inl u) = member_none k (inside p s ms) (shape_in s ms) [] 0 ms u
    rest (inr u) = row_root k (count ms) (shape_in s ms).rows ms u

    parts : is_object s ≡ true → One (IsFault k []) (heres (group_demands (shape_in s ms).groups ms)) ⊎ One (IsFault k []) (member_claims (inside p s ms) (shape_in s ms) [] 0 ms ++ row_claims (count ms) (shape_in s ms).rows ms) → Leaves k s (dict ms)
    parts e (inl u) =
        let r = group_out k (shape_in s ms).groups ms (here_out k (group_demands (shape_in s ms).groups ms) u) in
        record { members = ms; value = refl; searched = e; kind = r.0; none = r.1 }
    parts e (inr u) = absurd (rest (one_split (IsFault k []) (member_claims (inside p s ms) (shape_in s ms) [] 0 ms) (row_claims (count ms) (shape_in s ms).rows ms) u))

    by : (b : Bool) → is_object s ≡ b → One (IsFault k []) (heres (demands p s (dict ms))) ⊎ One (IsFault k []) (if is_object s then object_claims p s ms else []) → One (Breaks k) (demands p s (dict ms)) ⊎ Leaves k s (dict ms)
    by b e (inl u) = inl (here_out k (demands p s (dict ms)) u)
    by true e (inr u) = inr (parts e (one_split (IsFault k []) (heres (group_demands (shape_in s ms).groups ms)) (member_claims (inside p s ms) (shape_in s ms) [] 0 ms ++ row_claims (count ms) (shape_in s ms).rows ms) (rw e at u)))
    by false e (inr u) = absurd (rw e at u)

pub root_in : (k : FaultKind) (p : Spot) (s : Sort) (d : Data) → One (Breaks k) (demands p s d) → One (IsFault k []) (claims p s d)
root_in k p s null h = here_in k (demands p s null) h
root_in k p s (boolean b) h = here_in k (demands p s (boolean b)) h
root_in k p s (number n) h = here_in k (demands p s (number n)) h
root_in k p s (text x) h = here_in k (demands p s (text x)) h
root_in k p s (list ds) h = one_left (IsFault k []) (heres (demands p s (list ds))) (if is_list s then item_claims p (item_sort s) 0 ds else []) (here_in k (demands p s (list ds)) h)
root_in k p s (dict ms) h = one_left (IsFault k []) (heres (demands p s (dict ms))) (if is_object s then object_claims p s ms else []) (here_in k (demands p s (dict ms)) h)

-- what is demanded of the groups and rows of an object
pub object_in : (k : FaultKind) (place : List Step) (p : Spot) (s : Sort) (ms : Pairs) → is_object s ≡ true → One (IsFault k place) (heres (group_demands (shape_in s ms).groups ms)) ⊎ One (IsFault k place) (row_claims (count ms) (shape_in s ms).rows ms) → One (IsFault k place) (claims p s (dict ms))
object_in k place p s ms e h =
    one_right (IsFault k place) (heres (demands p s (dict ms))) (if is_object s then object_claims p s ms else [])
    (subst (λ (b : Bool). One (IsFault k place) (if b then object_claims p s ms else [])) (sym e) (by h))
  where
    by : One (IsFault k place) (heres (group_demands (shape_in s ms).groups ms)) ⊎ One (IsFault k place) (row_claims (count ms) (shape_in s ms).rows ms) → One (IsFault k place) (object_claims p s ms)
    by (inl u) = one_left (IsFault k place) (heres (group_demands (shape_in s ms).groups ms)) (member_claims (inside p s ms) (shape_in s ms) [] 0 ms ++ row_claims (count ms) (shape_in s ms).rows ms) u
    by (inr u) =
        one_right (IsFault k place) (heres (group_demands (shape_in s ms).groups ms)) (member_claims (inside p s ms) (shape_in s ms) [] 0 ms ++ row_claims (count ms) (shape_in s ms).rows ms)
        (one_right (IsFault k place) (member_claims (inside p s ms) (shape_in s ms) [] 0 ms) (row_claims (count ms) (shape_in s ms).rows ms) u)

-- ---- a fault at a place

pub record IsReached (k : FaultKind) (place : List Step) (p : Spot) (x : Part) : Type 0 where
  pub to : Part
  pub leads : part_at x place ≡ Some to
  pub fault : One (IsFault k []) (claims (spot_at p x place) to.sort to.value)

-- of an object that a place leads to, a required member isn't there
pub record IsLacked (k : FaultKind) (place : List Step) (x : Part) : Type 0 where
  pub outer : List Step
  pub own : Step
  pub place_is : place ≡ outer ++ own ∷ []
  pub object : Part
  pub leads : part_at x outer ≡ Some object
  pub lacks : Lacks k (own ∷ []) object.sort object.value

pub reach_out : (k : FaultKind) (place : List Step) (p : Spot) (x : Part) → One (IsFault k place) (claims p x.sort x.value) → IsReached k place p x ⊎ IsLacked k place x
reach_out k [] p x h = inl (record { to = x; leads = refl; fault = h })
reach_out k (t ∷ ts) p x h = by (λ y q u. reach_out k ts q y u) (step_out k ts t p x.sort x.value h)
  where
    led : (y : Part) → next x t ≡ Some y → IsReached k ts (spot_in p x.sort x.value t y.value) y ⊎ IsLacked k ts y → IsReached k (t ∷ ts) p x ⊎ IsLacked k (t ∷ ts) x
    led y e (inl q) =
        inl (record {
          to = q.to;
          leads = subst (λ (o : Option Part). option_and_then (λ (z : Part). part_at z ts) o ≡ Some q.to) (sym e) q.leads;
          fault = subst (λ (o : Option Part). One (IsFault k []) (claims (option_map_or (λ (z : Part). spot_at (spot_in p x.sort x.value t z.value) z ts) o p) q.to.sort q.to.value)) (sym e) q.fault;
        })
    led y e (inr q) =
        inr (record {
          outer = t ∷ q.outer;
          own = q.own;
          place_is = ap (λ (us : List Step). t ∷ us) q.place_is;
          object = q.object;
          leads = subst (λ (o : Option Part). option_and_then (λ (z : Part). part_at z q.outer) o ≡ Some q.object) (sym e) q.leads;
          lacks = q.lacks;
        })

    by : ((y : Part) (q : Spot) → One (IsFault k ts) (claims q y.sort y.value) → IsReached k ts q y ⊎ IsLacked k ts y) → IsFurther k ts t p x.sort x.value ⊎ Lacks k (t ∷ ts) x.sort x.value → IsReached k (t ∷ ts) p x ⊎ IsLacked k (t ∷ ts) x
    by further (inl r) = led r.to r.leads (further r.to (spot_in p x.sort x.value t r.to.value) r.fault)
    by further (inr r) =
        let last : t ∷ ts ≡ t ∷ [] = ap (λ (us : List Step). t ∷ us) (sym (ap tail_of r.row.stands)) in
        inr (record { outer = []; own = t; place_is = last; object = x; leads = refl; lacks = subst (λ (us : List Step). Lacks k us x.sort x.value) last r })

-- a fault of what a place leads to, or further in
pub reach_in : (k : FaultKind) (outer rest : List Step) (p : Spot) (x to : Part) → part_at x outer ≡ Some to → One (IsFault k rest) (claims (spot_at p x outer) to.sort to.value) → One (IsFault k (outer ++ rest)) (claims p x.sort x.value)
reach_in k [] rest p x to e h =
    let same : to ≡ x = let y : x ≡ to = cc in sym y in
    subst (λ (y : Part). One (IsFault k rest) (claims p y.sort y.value)) same h
reach_in k (t ∷ ts) rest p x to e h = by (next x t) refl (λ y f g. reach_in k ts rest (spot_in p x.sort x.value t y.value) y to f g) e h
  where
    by : (o : Option Part) → next x t ≡ o → ((y : Part) → part_at y ts ≡ Some to → One (IsFault k rest) (claims (spot_at (spot_in p x.sort x.value t y.value) y ts) to.sort to.value) → One (IsFault k (ts ++ rest)) (claims (spot_in p x.sort x.value t y.value) y.sort y.value)) → option_and_then (λ (y : Part). part_at y ts) o ≡ Some to → One (IsFault k rest) (claims (option_map_or (λ (y : Part). spot_at (spot_in p x.sort x.value t y.value) y ts) o p) to.sort to.value) → One (IsFault k (t ∷ (ts ++ rest))) (claims p x.sort x.value)
    by None f further e h = absurd cc
    by (Some y) f further e h = step_in k (ts ++ rest) t p x.sort x.value y f (further y e h)
