-- What is demanded of a value stands in document order.
use Rattle.std.proofs.Common.{◌≡◌, ℕ, suc, ◌+◌, ◌≤◌, Bool, true, false, ◌||◌, ◌&&◌, not, List, [], ◌∷◌, ◌++◌, refl, sym, subst, ◌∙◌, append_assoc, arith}
use Rattle.std.specs.Prelude.{◌==◌, nat_lt, map, if◌then◌else◌}
use Rattle.std.specs.Fmt.{decimal}
use Rattle.std.proofs.lemmas.Bool.Decides.{nat_tests}
use Rattle.asl_json_data.specs.Data.{Data, null, boolean, number, text, list, dict, Chain, no_items, item, Pairs, no_members, member}
use Rattle.asl_json.specs.Meaning.{count, value_at}
use Rattle.asl_json_data.specs.Distinct.{Members}
use Rattle.asl_def_schema.specs.declared.fault.Step.{Step}
use Rattle.asl_def_schema.specs.declared.sort.Sort.{Sort}
use Rattle.asl_def_schema.specs.Members.{Row, Shape, shape_in, sort_at, item_sort}
use Rattle.asl_def_schema.specs.Demands.{Demand, there}
use Rattle.asl_def_schema.specs.Claims.{Claim, Spot, under, here, heres, step, demands, claims, item_claims, member_claims, row_claims, group_demands, at_item, at_member, inside, is_nonempty, is_list, is_object, is_needed, object_claims}
use Rattle.asl_def_schema.specs.First.{Each}
use Rattle.asl_def_fault_laws.specs.Order.{is_up_to}

-- a claim stands at or before each of these
abbrev pub IsBefore : Claim → List Claim → Type 0
IsBefore a bs = Each (λ (b : Claim). is_up_to a.1 b.1 ≡ true) bs

abbrev pub AreInOrder : List Claim → Type 0
AreInOrder [] = Unit {0}
AreInOrder (c ∷ cs) = IsBefore c cs × AreInOrder cs

abbrev AreBefore : List Claim → List Claim → Type 0
AreBefore xs bs = Each (λ (a : Claim). IsBefore a bs) xs

each_append : (P : Claim → Type 0) (xs ys : List Claim) → Each P xs → Each P ys → Each P (xs ++ ys)
each_append P [] ys h k = k
each_append P (x ∷ xs) ys h k = (h.0, each_append P xs ys h.1 k)

order_append : (xs ys : List Claim) → AreInOrder xs → AreBefore xs ys → AreInOrder ys → AreInOrder (xs ++ ys)
order_append [] ys h b k = k
order_append (x ∷ xs) ys h b k = (each_append (λ (c : Claim). is_up_to x.1 c.1 ≡ true) xs ys h.0 b.0, order_append xs ys h.1 b.1 k)

-- ---- under a step

same_at : (n : ℕ) (b : Bool) → b ≡ true → (nat_lt n n || ((n == n) && b)) ≡ true
same_at n b e = by (n == n) refl
  where
    by : (c : Bool) → (n == n) ≡ c → (nat_lt n n || (c && b)) ≡ true
    by true f = or_true (nat_lt n n) b e
      where
        or_true : (x y : Bool) → y ≡ true → (x || y) ≡ true
        or_true true y g = refl
        or_true false y g = g
    by false f = absurd (let g : true ≡ false = (let h : (n == n) ≡ true = grind (arith, nat_tests) in sym h ∙ f) in cc)

before_under : (t : Step) (a : Claim) (bs : List Claim) → IsBefore a bs → IsBefore (under t a) (map (under t) bs)
before_under t a [] h = tt
before_under t a (b ∷ bs) h = (same_at t.at (is_up_to a.1 b.1) h.0, before_under t a bs h.1)

order_under : (t : Step) (cs : List Claim) → AreInOrder cs → AreInOrder (map (under t) cs)
order_under t [] h = tt
order_under t (c ∷ cs) h = (before_under t c cs h.0, order_under t cs h.1)

-- ---- at the root

all_behind : (bs : List Claim) (q : Demand) → IsBefore (here q) bs
all_behind [] q = tt
all_behind (b ∷ bs) q = (refl, all_behind bs q)

order_heres : (qs : List Demand) (cs : List Claim) → AreInOrder cs → AreInOrder (heres qs ++ cs)
order_heres [] cs h = h
order_heres (q ∷ qs) cs h = (all_behind (heres qs ++ cs) q, order_heres qs cs h)

order_here : (qs : List Demand) → AreInOrder (heres qs)
order_here [] = tt
order_here (q ∷ qs) = (all_behind (heres qs) q, order_here qs)

-- ---- one behind another

-- the place begins with a step to this number or a later one
abbrev Starts : ℕ → List Step → Type 0
Starts n [] = ⊥
Starts n (t ∷ ts) = n ≤ t.at

abbrev From : ℕ → Claim → Type 0
From n c = Starts n c.1

starts_later : (n m : ℕ) (ts : List Step) → n ≤ m → Starts m ts → Starts n ts
starts_later n m [] le h = h
starts_later n m (t ∷ ts) le h = omega (arith, le, h)

from_later : (n m : ℕ) (cs : List Claim) → n ≤ m → Each (From m) cs → Each (From n) cs
from_later n m [] le h = tt
from_later n m (c ∷ cs) le h = (starts_later n m c.1 le h.0, from_later n m cs le h.1)

from_under : (t : Step) (cs : List Claim) → Each (From t.at) (map (under t) cs)
from_under t [] = tt
from_under t (c ∷ cs) = (omega arith, from_under t cs)

earlier : (t : Step) (ts us : List Step) → Starts (suc t.at) us → is_up_to (t ∷ ts) us ≡ true
earlier t ts [] h = absurd h
earlier t ts (u ∷ us) h =
    let lt : nat_lt t.at u.at ≡ true = grind (arith, nat_tests) in
    rw lt refl

before_from : (t : Step) (a : Claim) (bs : List Claim) → Each (From (suc t.at)) bs → IsBefore (under t a) bs
before_from t a [] h = tt
before_from t a (b ∷ bs) h = (earlier t a.1 b.1 h.0, before_from t a bs h.1)

under_before : (t : Step) (cs bs : List Claim) → Each (From (suc t.at)) bs → AreBefore (map (under t) cs) bs
under_before t [] bs h = tt
under_before t (c ∷ cs) bs h = (before_from t c bs h, under_before t cs bs h)

then_rest : (t : Step) (cs rest : List Claim) → AreInOrder cs → Each (From (suc t.at)) rest → AreInOrder rest → AreInOrder (map (under t) cs ++ rest)
then_rest t cs rest h f k = order_append (map (under t) cs) rest (order_under t cs h) (under_before t cs rest f) k

from_rest : (t : Step) (cs rest : List Claim) → Each (From (suc t.at)) rest → Each (From t.at) (map (under t) cs ++ rest)
from_rest t cs rest f = each_append (From t.at) (map (under t) cs) rest (from_under t cs) (from_later t.at (suc t.at) rest (omega arith) f)

-- ---- rows

from_rows : (i : ℕ) (rs : List Row) (ms : Pairs) → Each (From i) (row_claims i rs ms)
from_rows i [] ms = tt
from_rows i (r ∷ rs) ms = by (is_needed r ms) (from_later i (suc i) (row_claims (suc i) rs ms) (omega arith) (from_rows (suc i) rs ms))
  where
    by : (b : Bool) → Each (From i) (row_claims (suc i) rs ms) → Each (From i) ((if b then (there (value_at r.name ms), step i r.name ∷ []) ∷ [] else []) ++ row_claims (suc i) rs ms)
    by true h = (omega arith, h)
    by false h = h

order_rows : (i : ℕ) (rs : List Row) (ms : Pairs) → AreInOrder (row_claims i rs ms)
order_rows i [] ms = tt
order_rows i (r ∷ rs) ms = by (is_needed r ms) (order_rows (suc i) rs ms)
  where
    by : (b : Bool) → AreInOrder (row_claims (suc i) rs ms) → AreInOrder ((if b then (there (value_at r.name ms), step i r.name ∷ []) ∷ [] else []) ++ row_claims (suc i) rs ms)
    by true h = (before_from (step i r.name) (here (there (value_at r.name ms))) (row_claims (suc i) rs ms) (from_rows (suc i) rs ms), h)
    by false h = h

-- ---- items and members

from_items : (p : Spot) (s : Sort) (i : ℕ) (ds : Chain) → Each (From i) (item_claims p s i ds)
from_items p s i no_items = tt
from_items p s i (item d ds) = from_rest (step i (decimal i)) (claims (at_item p (not (is_nonempty ds))) s d) (item_claims p s (suc i) ds) (from_items p s (suc i) ds)

from_members : (p : Spot) (sh : Shape) (seen : Members) (i : ℕ) (ms : Pairs) (rest : List Claim) → Each (From (i + count ms)) rest → Each (From i) (member_claims p sh seen i ms ++ rest)
from_members p sh seen i no_members rest f = subst (λ (n : ℕ). Each (From n) rest) (omega arith) f
from_members p sh seen i (member k d ms) rest f =
    let n : i + suc (count ms) ≡ suc i + count ms = omega arith in
    let more = member_claims p sh (seen ++ (k, d) ∷ []) (suc i) ms in
    subst (Each (From i)) (sym (append_assoc (map (under (step i k)) (claims (at_member p sh seen k d) (sort_at sh k) d)) more rest))
    (from_rest (step i k) (claims (at_member p sh seen k d) (sort_at sh k) d) (more ++ rest) (from_members p sh (seen ++ (k, d) ∷ []) (suc i) ms rest (subst (λ (m : ℕ). Each (From m) rest) n f)))

order_if : (b : Bool) (cs : List Claim) → AreInOrder cs → AreInOrder (if b then cs else [])
order_if true cs h = h
order_if false cs h = tt

mutual
  pub order_claims : (p : Spot) (s : Sort) (d : Data) → AreInOrder (claims p s d)
  order_claims p s null = order_here (demands p s null)
  order_claims p s (boolean b) = order_here (demands p s (boolean b))
  order_claims p s (number n) = order_here (demands p s (number n))
  order_claims p s (text t) = order_here (demands p s (text t))
  order_claims p s (list ds) = order_heres (demands p s (list ds)) (if is_list s then item_claims p (item_sort s) 0 ds else []) (order_if (is_list s) (item_claims p (item_sort s) 0 ds) (order_items p (item_sort s) 0 ds))
  order_claims p s (dict ms) =
      let rows = row_claims (count ms) (shape_in s ms).rows ms in
      let inner = order_members (inside p s ms) (shape_in s ms) [] 0 ms rows (subst (λ (n : ℕ). Each (From n) rows) (omega arith) (from_rows (count ms) (shape_in s ms).rows ms)) (order_rows (count ms) (shape_in s ms).rows ms) in
      order_heres (demands p s (dict ms)) (if is_object s then object_claims p s ms else []) (order_if (is_object s) (object_claims p s ms) (order_heres (group_demands (shape_in s ms).groups ms) (member_claims (inside p s ms) (shape_in s ms) [] 0 ms ++ rows) inner))

  pub order_items : (p : Spot) (s : Sort) (i : ℕ) (ds : Chain) → AreInOrder (item_claims p s i ds)
  order_items p s i no_items = tt
  order_items p s i (item d ds) = then_rest (step i (decimal i)) (claims (at_item p (not (is_nonempty ds))) s d) (item_claims p s (suc i) ds) (order_claims (at_item p (not (is_nonempty ds))) s d) (from_items p s (suc i) ds) (order_items p s (suc i) ds)

  pub order_members : (p : Spot) (sh : Shape) (seen : Members) (i : ℕ) (ms : Pairs) (rest : List Claim) → Each (From (i + count ms)) rest → AreInOrder rest → AreInOrder (member_claims p sh seen i ms ++ rest)
  order_members p sh seen i no_members rest f h = h
  order_members p sh seen i (member k d ms) rest f h =
      let n : i + suc (count ms) ≡ suc i + count ms = omega arith in
      let g = subst (λ (m : ℕ). Each (From m) rest) n f in
      let more = member_claims p sh (seen ++ (k, d) ∷ []) (suc i) ms in
      subst AreInOrder (sym (append_assoc (map (under (step i k)) (claims (at_member p sh seen k d) (sort_at sh k) d)) more rest))
      (then_rest (step i k) (claims (at_member p sh seen k d) (sort_at sh k) d) (more ++ rest) (order_claims (at_member p sh seen k d) (sort_at sh k) d) (from_members p sh (seen ++ (k, d) ∷ []) (suc i) ms rest g) (order_members p sh (seen ++ (k, d) ∷ []) (suc i) ms rest g h))

-- ---- of a list in order

pub in_order : (cs front mid back : List Claim) (a b : Claim) → AreInOrder cs → cs ≡ front ++ a ∷ mid ++ b ∷ back → is_up_to a.1 b.1 ≡ true
in_order cs front mid back a b h e = split front (subst AreInOrder e h)
  where
    found : (ms : List Claim) → IsBefore a (ms ++ b ∷ back) → is_up_to a.1 b.1 ≡ true
    found [] k = k.0
    found (m ∷ ms) k = found ms k.1

    split : (fs : List Claim) → AreInOrder (fs ++ a ∷ mid ++ b ∷ back) → is_up_to a.1 b.1 ≡ true
    split [] k = found mid k.0
    split (f ∷ fs) k = split fs k.1
