-- The states of a definition stand in document order, and each where the walk leads to it.
use Rattle.std.proofs.Common.{◌≡◌, ◌⊎◌, ℕ, zero, suc, ◌+◌, ◌≤◌, Bool, true, false, ◌||◌, ◌&&◌, not, List, [], ◌∷◌, ◌++◌, inl, inr, refl, sym, ap, subst, ◌∙◌, arith}
use Rattle.std.specs.Prelude.{Option, Some, None, ◌==◌, nat_lt, map, option_and_then, if◌then◌else◌}
use Rattle.std.specs.Fmt.{decimal}
use Rattle.std.specs.Cmp.Lexicographic.{same_text}
use Rattle.std.proofs.lemmas.Bool.Decides.{nat_tests}
use Rattle.asl_json_data.specs.Data.{Data, null, boolean, number, text, list, dict, Chain, no_items, item, Pairs, no_members, member}
use Rattle.asl_json.specs.Same.{bytes_eq}
use Rattle.asl_json.specs.private.SameLaws.{bytes_refl}
use Rattle.asl_def_schema.specs.declared.fault.FaultKind.TheVariants as kind
use Rattle.asl_def_schema.specs.declared.fault.Step.{Step}
use Rattle.asl_def_schema.specs.declared.sort.Sort.{Sort}
use Rattle.asl_def_schema.specs.declared.sort.Sort.TheVariants as sort
use Rattle.asl_def_schema.specs.Members.{Shape, shape_in, sort_at, item_sort, is_among}
use Rattle.asl_def_schema.specs.Claims.{step, is_list, is_object}
use Rattle.asl_def_schema.specs.States.{Named, further, own_name, states_in, item_states, member_states, unique_claims}
use Rattle.asl_def_fault_laws.specs.Parts.{Part, part, item_at, member_at, part_in, next, part_at}
use Rattle.asl_def_fault_laws.specs.Order.{is_up_to}
use Rattle.asl_def_fault_laws.specs.Faults.{One, IsFault}
use Rattle.asl_def_fault_laws.specs.Kinds.{IsState}
use Rattle.asl_def_fault_laws.proofs.Ones.{one_left, one_right, one_split}
use Rattle.asl_def_fault_laws.proofs.Reaching.{item_found, find_item, member_found, find_member}
use Rattle.asl_def_fault_laws.proofs.Breaking.{on}

abbrev pub Every : {X : Type 0} → (X → Type 0) → List X → Type 0
Every P [] = Unit {0}
Every P (x ∷ xs) = P x × Every P xs

every_append : {X : Type 0} (P : X → Type 0) (xs ys : List X) → Every P xs → Every P ys → Every P (xs ++ ys)
every_append P [] ys h k = k
every_append P (x ∷ xs) ys h k = (h.0, every_append P xs ys h.1 k)

-- ---- document order

-- the first stands before the second
abbrev pub IsAhead : Named → Named → Type 0
IsAhead m n = is_up_to n.1 m.1 ≡ false

abbrev pub AreAhead : List Named → Type 0
AreAhead [] = Unit {0}
AreAhead (n ∷ ns) = Every (IsAhead n) ns × AreAhead ns

ahead_append : (xs ys : List Named) → AreAhead xs → Every (λ (x : Named). Every (IsAhead x) ys) xs → AreAhead ys → AreAhead (xs ++ ys)
ahead_append [] ys h b k = k
ahead_append (x ∷ xs) ys h b k = (every_append (IsAhead x) xs ys h.0 b.0, ahead_append xs ys h.1 b.1 k)

same_at : (n : ℕ) (b : Bool) → b ≡ false → (nat_lt n n || ((n == n) && b)) ≡ false
same_at n b e =
    let off : nat_lt n n ≡ false = grind (arith, nat_tests) in
    rw off (by (n == n))
  where
    by : (c : Bool) → (c && b) ≡ false
    by true = e
    by false = refl

ahead_of_under : (t : Step) (n : Named) (ns : List Named) → Every (IsAhead n) ns → Every (IsAhead (further t n)) (map (further t) ns)
ahead_of_under t n [] h = tt
ahead_of_under t n (m ∷ ms) h = (same_at t.at (is_up_to m.1 n.1) h.0, ahead_of_under t n ms h.1)

ahead_under : (t : Step) (ns : List Named) → AreAhead ns → AreAhead (map (further t) ns)
ahead_under t [] h = tt
ahead_under t (n ∷ ns) h = (ahead_of_under t n ns h.0, ahead_under t ns h.1)

abbrev Starts : ℕ → List Step → Type 0
Starts n [] = ⊥
Starts n (t ∷ ts) = n ≤ t.at

abbrev Begins : ℕ → Named → Type 0
Begins n m = Starts n m.1

starts_later : (n m : ℕ) (ts : List Step) → n ≤ m → Starts m ts → Starts n ts
starts_later n m [] le h = h
starts_later n m (t ∷ ts) le h = omega (arith, le, h)

begins_later : (n m : ℕ) (ns : List Named) → n ≤ m → Every (Begins m) ns → Every (Begins n) ns
begins_later n m [] le h = tt
begins_later n m (x ∷ xs) le h = (starts_later n m x.1 le h.0, begins_later n m xs le h.1)

begins_under : (t : Step) (ns : List Named) → Every (Begins t.at) (map (further t) ns)
begins_under t [] = tt
begins_under t (n ∷ ns) = (omega arith, begins_under t ns)

behind_step : (t : Step) (ts us : List Step) → Starts (suc t.at) us → is_up_to us (t ∷ ts) ≡ false
behind_step t ts [] h = absurd h
behind_step t ts (u ∷ us) h =
    let lt : nat_lt u.at t.at ≡ false = grind (arith, nat_tests) in
    let eq : (u.at == t.at) ≡ false = grind (arith, nat_tests) in
    rw (lt, eq) refl

ahead_from : (t : Step) (n : Named) (ns : List Named) → Every (Begins (suc t.at)) ns → Every (IsAhead (further t n)) ns
ahead_from t n [] h = tt
ahead_from t n (m ∷ ms) h = (behind_step t n.1 m.1 h.0, ahead_from t n ms h.1)

under_ahead : (t : Step) (ns rest : List Named) → Every (Begins (suc t.at)) rest → Every (λ (x : Named). Every (IsAhead x) rest) (map (further t) ns)
under_ahead t [] rest h = tt
under_ahead t (n ∷ ns) rest h = (ahead_from t n rest h, under_ahead t ns rest h)

begins_rest : (t : Step) (ns rest : List Named) → Every (Begins (suc t.at)) rest → Every (Begins t.at) (map (further t) ns ++ rest)
begins_rest t ns rest h = every_append (Begins t.at) (map (further t) ns) rest (begins_under t ns) (begins_later t.at (suc t.at) rest (omega arith) h)

begins_items : (s : Sort) (i : ℕ) (ds : Chain) → Every (Begins i) (item_states s i ds)
begins_items s i no_items = tt
begins_items s i (item d ds) = begins_rest (step i (decimal i)) (states_in s d) (item_states s (suc i) ds) (begins_items s (suc i) ds)

begins_members : (sh : Shape) (i : ℕ) (ms : Pairs) → Every (Begins i) (member_states sh i ms)
begins_members sh i no_members = tt
begins_members sh i (member k d ms) = begins_rest (step i k) (own_name (sort_at sh k) k ++ states_in (sort_at sh k) d) (member_states sh (suc i) ms) (begins_members sh (suc i) ms)

every_if : {X : Type 0} (P : X → Type 0) (b : Bool) (xs : List X) → Every P xs → Every P (if b then xs else [])
every_if P true xs h = h
every_if P false xs h = tt

begins_states : (s : Sort) (d : Data) → Every (Begins 0) (states_in s d)
begins_states s null = tt
begins_states s (boolean b) = tt
begins_states s (number n) = tt
begins_states s (text t) = tt
begins_states s (list ds) = every_if (Begins 0) (is_list s) (item_states (item_sort s) 0 ds) (begins_items (item_sort s) 0 ds)
begins_states s (dict ms) = every_if (Begins 0) (is_object s) (member_states (shape_in s ms) 0 ms) (begins_members (shape_in s ms) 0 ms)

behind_root : (us : List Step) → Starts 0 us → is_up_to us [] ≡ false
behind_root [] h = absurd h
behind_root (u ∷ us) h = refl

root_ahead : (k : List ℕ) (ns : List Named) → Every (Begins 0) ns → Every (IsAhead (k, [])) ns
root_ahead k [] h = tt
root_ahead k (n ∷ ns) h = (behind_root n.1 h.0, root_ahead k ns h.1)

own_ahead : (s : Sort) (k : List ℕ) (ns : List Named) → AreAhead ns → Every (Begins 0) ns → AreAhead (own_name s k ++ ns)
own_ahead sort.State k ns h b = (root_ahead k ns b, h)
own_ahead s k ns h b = h

ahead_if : (b : Bool) (ns : List Named) → AreAhead ns → AreAhead (if b then ns else [])
ahead_if true ns h = h
ahead_if false ns h = tt

mutual
  pub ahead_states : (s : Sort) (d : Data) → AreAhead (states_in s d)
  ahead_states s null = tt
  ahead_states s (boolean b) = tt
  ahead_states s (number n) = tt
  ahead_states s (text t) = tt
  ahead_states s (list ds) = ahead_if (is_list s) (item_states (item_sort s) 0 ds) (ahead_items (item_sort s) 0 ds)
  ahead_states s (dict ms) = ahead_if (is_object s) (member_states (shape_in s ms) 0 ms) (ahead_members (shape_in s ms) 0 ms)

  pub ahead_items : (s : Sort) (i : ℕ) (ds : Chain) → AreAhead (item_states s i ds)
  ahead_items s i no_items = tt
  ahead_items s i (item d ds) = ahead_append (map (further (step i (decimal i))) (states_in s d)) (item_states s (suc i) ds) (ahead_under (step i (decimal i)) (states_in s d) (ahead_states s d)) (under_ahead (step i (decimal i)) (states_in s d) (item_states s (suc i) ds) (begins_items s (suc i) ds)) (ahead_items s (suc i) ds)

  pub ahead_members : (sh : Shape) (i : ℕ) (ms : Pairs) → AreAhead (member_states sh i ms)
  ahead_members sh i no_members = tt
  ahead_members sh i (member k d ms) =
      let own = own_name (sort_at sh k) k ++ states_in (sort_at sh k) d in
      ahead_append (map (further (step i k)) own) (member_states sh (suc i) ms) (ahead_under (step i k) own (own_ahead (sort_at sh k) k (states_in (sort_at sh k) d) (ahead_states (sort_at sh k) d) (begins_states (sort_at sh k) d))) (under_ahead (step i k) own (member_states sh (suc i) ms) (begins_members sh (suc i) ms)) (ahead_members sh (suc i) ms)

-- ---- where states stand

pub record IsNamed (place : List Step) (name : List ℕ) (n : Named) : Type 0 where
  pub name_is : n.0 ≡ name
  pub stands : n.1 ≡ place

abbrev head_or : Step → List Step → Step
head_or t [] = t
head_or t (u ∷ us) = u

abbrev tail_of : List Step → List Step
tail_of [] = []
tail_of (u ∷ us) = us

further_in : (t : Step) (ts : List Step) (name : List ℕ) (ns : List Named) → One (IsNamed ts name) ns → One (IsNamed (t ∷ ts) name) (map (further t) ns)
further_in t ts name [] h = absurd h
further_in t ts name (n ∷ ns) (inl h) = inl (record { name_is = h.name_is; stands = ap (λ (us : List Step). t ∷ us) h.stands })
further_in t ts name (n ∷ ns) (inr h) = inr (further_in t ts name ns h)

record IsFurther (t u : Step) (ts : List Step) (name : List ℕ) (ns : List Named) : Type 0 where
  same : t ≡ u
  among : One (IsNamed ts name) ns

further_out : (t u : Step) (ts : List Step) (name : List ℕ) (ns : List Named) → One (IsNamed (u ∷ ts) name) (map (further t) ns) → IsFurther t u ts name ns
further_out t u ts name [] h = absurd h
further_out t u ts name (n ∷ ns) (inl h) = record { same = ap (head_or t) h.stands; among = inl (record { name_is = h.name_is; stands = ap tail_of h.stands }) }
further_out t u ts name (n ∷ ns) (inr h) =
    let r = further_out t u ts name ns h in
    record { same = r.same; among = inr r.among }

record IsInItem (t : Step) (ts : List Step) (name : List ℕ) (s : Sort) (i : ℕ) (ds : Chain) : Type 0 where
  behind : ℕ
  number : t.at ≡ i + behind
  called : t.name ≡ decimal t.at
  value : Data
  there : item_at behind ds ≡ Some value
  among : One (IsNamed ts name) (states_in s value)

item_out : (t : Step) (ts : List Step) (name : List ℕ) (s : Sort) (i : ℕ) (ds : Chain) → One (IsNamed (t ∷ ts) name) (item_states s i ds) → IsInItem t ts name s i ds
item_out t ts name s i no_items h = absurd h
item_out t ts name s i (item d ds) h = by (λ u. item_out t ts name s (suc i) ds u) (one_split (IsNamed (t ∷ ts) name) (map (further (step i (decimal i))) (states_in s d)) (item_states s (suc i) ds) h)
  where
    by : (One (IsNamed (t ∷ ts) name) (item_states s (suc i) ds) → IsInItem t ts name s (suc i) ds) → One (IsNamed (t ∷ ts) name) (map (further (step i (decimal i))) (states_in s d)) ⊎ One (IsNamed (t ∷ ts) name) (item_states s (suc i) ds) → IsInItem t ts name s i (item d ds)
    by rest (inl u) =
        let r = further_out (step i (decimal i)) t ts name (states_in s d) u in
        let at : i ≡ t.at = ap (λ (x : Step). x.at) r.same in
        record { behind = 0; number = omega (arith, at); called = sym (ap (λ (x : Step). x.name) r.same) ∙ ap decimal at; value = d; there = refl; among = r.among }
    by rest (inr u) =
        let r = rest u in
        record { behind = suc r.behind; number = omega (arith, r.number); called = r.called; value = r.value; there = r.there; among = r.among }

item_in : (t : Step) (ts : List Step) (name : List ℕ) (s : Sort) (i j : ℕ) (ds : Chain) (v : Data) → t.at ≡ i + j → t.name ≡ decimal t.at → item_at j ds ≡ Some v → One (IsNamed ts name) (states_in s v) → One (IsNamed (t ∷ ts) name) (item_states s i ds)
item_in t ts name s i j no_items v n m e h = absurd cc
item_in t ts name s i zero (item d ds) v n m e h =
    let at : i ≡ t.at = omega (arith, n) in
    let same : step i (decimal i) ≡ t = ap (λ (x : ℕ). step x (decimal x)) at ∙ ap (step t.at) (sym m) in
    let is : v ≡ d = cc in
    one_left (IsNamed (t ∷ ts) name) (map (further (step i (decimal i))) (states_in s d)) (item_states s (suc i) ds)
    (subst (λ (u : Step). One (IsNamed (u ∷ ts) name) (map (further (step i (decimal i))) (states_in s d))) same (further_in (step i (decimal i)) ts name (states_in s d) (subst (λ (x : Data). One (IsNamed ts name) (states_in s x)) is h)))
item_in t ts name s i (suc j) (item d ds) v n m e h =
    one_right (IsNamed (t ∷ ts) name) (map (further (step i (decimal i))) (states_in s d)) (item_states s (suc i) ds) (item_in t ts name s (suc i) j ds v (omega (arith, n)) m e h)

-- the names in a member
abbrev inner : Shape → List ℕ → Data → List Named
inner sh k d = own_name (sort_at sh k) k ++ states_in (sort_at sh k) d

record IsInMember (t : Step) (ts : List Step) (name : List ℕ) (sh : Shape) (i : ℕ) (ms : Pairs) : Type 0 where
  behind : ℕ
  number : t.at ≡ i + behind
  value : Data
  there : member_at behind t.name ms ≡ Some value
  among : One (IsNamed ts name) (inner sh t.name value)

member_out : (t : Step) (ts : List Step) (name : List ℕ) (sh : Shape) (i : ℕ) (ms : Pairs) → One (IsNamed (t ∷ ts) name) (member_states sh i ms) → IsInMember t ts name sh i ms
member_out t ts name sh i no_members h = absurd h
member_out t ts name sh i (member l d ms) h = by (λ u. member_out t ts name sh (suc i) ms u) (one_split (IsNamed (t ∷ ts) name) (map (further (step i l)) (inner sh l d)) (member_states sh (suc i) ms) h)
  where
    by : (One (IsNamed (t ∷ ts) name) (member_states sh (suc i) ms) → IsInMember t ts name sh (suc i) ms) → One (IsNamed (t ∷ ts) name) (map (further (step i l)) (inner sh l d)) ⊎ One (IsNamed (t ∷ ts) name) (member_states sh (suc i) ms) → IsInMember t ts name sh i (member l d ms)
    by rest (inl u) =
        let r = further_out (step i l) t ts name (inner sh l d) u in
        let at : i ≡ t.at = ap (λ (x : Step). x.at) r.same in
        let key : l ≡ t.name = ap (λ (x : Step). x.name) r.same in
        record {
          behind = 0;
          number = omega (arith, at);
          value = d;
          there = subst (λ (n : List ℕ). member_at 0 n (member l d ms) ≡ Some d) key (rw (bytes_refl l) refl);
          among = subst (λ (n : List ℕ). One (IsNamed ts name) (inner sh n d)) key r.among;
        }
    by rest (inr u) =
        let r = rest u in
        record { behind = suc r.behind; number = omega (arith, r.number); value = r.value; there = r.there; among = r.among }

member_in : (t : Step) (ts : List Step) (name : List ℕ) (sh : Shape) (i j : ℕ) (ms : Pairs) (v : Data) → t.at ≡ i + j → member_at j t.name ms ≡ Some v → One (IsNamed ts name) (inner sh t.name v) → One (IsNamed (t ∷ ts) name) (member_states sh i ms)
member_in t ts name sh i j no_members v n e h = absurd cc
member_in t ts name sh i zero (member l d ms) v n e h = by (bytes_eq t.name l) refl e
  where
    by : (b : Bool) → bytes_eq t.name l ≡ b → (if b then Some d else None) ≡ Some v → One (IsNamed (t ∷ ts) name) (member_states sh i (member l d ms))
    by true same is =
        let at : i ≡ t.at = omega (arith, n) in
        let key : t.name ≡ l = same_text t.name l (sym same) in
        let stands : step i l ≡ t = ap (λ (x : ℕ). step x l) at ∙ ap (step t.at) (sym key) in
        let value : v ≡ d = cc in
        let named = subst (λ (m : List ℕ). One (IsNamed ts name) (inner sh m v)) key h in
        let valued = subst (λ (x : Data). One (IsNamed ts name) (inner sh l x)) value named in
        one_left (IsNamed (t ∷ ts) name) (map (further (step i l)) (inner sh l d)) (member_states sh (suc i) ms)
        (subst (λ (u : Step). One (IsNamed (u ∷ ts) name) (map (further (step i l)) (inner sh l d))) stands (further_in (step i l) ts name (inner sh l d) valued))
    by false same is = absurd cc
member_in t ts name sh i (suc j) (member l d ms) v n e h = one_right (IsNamed (t ∷ ts) name) (map (further (step i l)) (inner sh l d)) (member_states sh (suc i) ms) (member_in t ts name sh (suc i) j ms v (omega (arith, n)) e h)

-- no item is a state
no_item_state : (s : Sort) (k : List ℕ) → own_name (item_sort s) k ≡ []
no_item_state sort.Machines k = refl
no_item_state sort.Rules k = refl
no_item_state sort.InnerRules k = refl
no_item_state sort.Retriers k = refl
no_item_state sort.Catchers k = refl
no_item_state sort.ErrorNames k = refl
no_item_state sort.Template k = refl
no_item_state s k = refl

record IsInPart (t : Step) (ts : List Step) (name : List ℕ) (s : Sort) (d : Data) : Type 0 where
  to : Part
  leads : part_in s d t ≡ Some to
  among : One (IsNamed ts name) (own_name to.sort t.name ++ states_in to.sort to.value)

step_out : (t : Step) (ts : List Step) (name : List ℕ) (s : Sort) (d : Data) → One (IsNamed (t ∷ ts) name) (states_in s d) → IsInPart t ts name s d
step_out t ts name s (list ds) h = by (is_list s) refl h
  where
    by : (b : Bool) → is_list s ≡ b → One (IsNamed (t ∷ ts) name) (if b then item_states (item_sort s) 0 ds else []) → IsInPart t ts name s (list ds)
    by true e u =
        let r = item_out t ts name (item_sort s) 0 ds u in
        let at : r.behind ≡ t.at = omega (arith, r.number) in
        record {
          to = part (item_sort s) r.value;
          leads = find_item s ds t r.value e r.called (subst (λ (j : ℕ). item_at j ds ≡ Some r.value) at r.there);
          among = subst (λ (ns : List Named). One (IsNamed ts name) (ns ++ states_in (item_sort s) r.value)) (sym (no_item_state s t.name)) r.among;
        }
    by false e u = absurd u
step_out t ts name s (dict ms) h = by (is_object s) refl h
  where
    by : (b : Bool) → is_object s ≡ b → One (IsNamed (t ∷ ts) name) (if b then member_states (shape_in s ms) 0 ms else []) → IsInPart t ts name s (dict ms)
    by true e u =
        let r = member_out t ts name (shape_in s ms) 0 ms u in
        let at : r.behind ≡ t.at = omega (arith, r.number) in
        record {
          to = part (sort_at (shape_in s ms) t.name) r.value;
          leads = find_member s ms t r.value e (subst (λ (j : ℕ). member_at j t.name ms ≡ Some r.value) at r.there);
          among = r.among;
        }
    by false e u = absurd u
step_out t ts name s x h = absurd h

step_in : (t : Step) (ts : List Step) (name : List ℕ) (s : Sort) (d : Data) (y : Part) → part_in s d t ≡ Some y → One (IsNamed ts name) (own_name y.sort t.name ++ states_in y.sort y.value) → One (IsNamed (t ∷ ts) name) (states_in s d)
step_in t ts name s (list ds) y e h =
    let r = item_found s ds t y e in
    let own = subst (λ (z : Part). One (IsNamed ts name) (own_name z.sort t.name ++ states_in z.sort z.value)) r.is h in
    let all = item_in t ts name (item_sort s) 0 t.at ds r.value (omega arith) r.name r.there (subst (λ (ns : List Named). One (IsNamed ts name) (ns ++ states_in (item_sort s) r.value)) (no_item_state s t.name) own) in
    subst (λ (b : Bool). One (IsNamed (t ∷ ts) name) (if b then item_states (item_sort s) 0 ds else [])) (sym r.searched) all
step_in t ts name s (dict ms) y e h =
    let r = member_found s ms t y e in
    let own = subst (λ (z : Part). One (IsNamed ts name) (own_name z.sort t.name ++ states_in z.sort z.value)) r.is h in
    let all = member_in t ts name (shape_in s ms) 0 t.at ms r.value (omega arith) r.there own in
    subst (λ (b : Bool). One (IsNamed (t ∷ ts) name) (if b then member_states (shape_in s ms) 0 ms else [])) (sym r.searched) all
step_in t ts name s x y e h = absurd cc

record IsOwn (ts : List Step) (name : List ℕ) (s : Sort) (k : List ℕ) : Type 0 where
  sort_is : s ≡ sort.State
  root : ts ≡ []
  named : k ≡ name

own_out : (ts : List Step) (name : List ℕ) (s : Sort) (k : List ℕ) → One (IsNamed ts name) (own_name s k) → IsOwn ts name s k
own_out ts name sort.State k (inl h) = record { sort_is = refl; root = sym h.stands; named = h.name_is }
own_out ts name sort.State k (inr h) = absurd h
own_out ts name s k h = absurd h

no_root : (name : List ℕ) (ns : List Named) → Every (Begins 0) ns → One (IsNamed [] name) ns → ⊥
no_root name [] b h = absurd h
no_root name (n ∷ ns) b (inl h) = subst (Starts 0) h.stands b.0
no_root name (n ∷ ns) b (inr h) = no_root name ns b.1 h

pub state_out : (place : List Step) (name : List ℕ) (x : Part) → One (IsNamed place name) (states_in x.sort x.value) → IsState x place name
state_out [] name x h = absurd (no_root name (states_in x.sort x.value) (begins_states x.sort x.value) h)
state_out (t ∷ ts) name x h =
    let r = step_out t ts name x.sort x.value h in
    by r (λ u. state_out ts name r.to u) (one_split (IsNamed ts name) (own_name r.to.sort t.name) (states_in r.to.sort r.to.value) r.among)
  where
    by : (r : IsInPart t ts name x.sort x.value) → (One (IsNamed ts name) (states_in r.to.sort r.to.value) → IsState r.to ts name) → One (IsNamed ts name) (own_name r.to.sort t.name) ⊎ One (IsNamed ts name) (states_in r.to.sort r.to.value) → IsState x (t ∷ ts) name
    by r rest (inl u) =
        let o = own_out ts name r.to.sort t.name u in
        let led : part_at x (t ∷ []) ≡ Some r.to = ap (λ (z : Option Part). option_and_then (λ (y : Part). part_at y []) z) r.leads in
        record {
          outer = [];
          own = t;
          place_is = ap (λ (us : List Step). t ∷ us) o.root;
          called = o.named;
          value = r.to.value;
          stands = ap (λ (us : List Step). part_at x (t ∷ us)) o.root ∙ led ∙ ap (λ (s : Sort). Some (part s r.to.value)) o.sort_is;
        }
    by r rest (inr u) =
        let q = rest u in
        record {
          outer = t ∷ q.outer;
          own = q.own;
          place_is = ap (λ (us : List Step). t ∷ us) q.place_is;
          called = q.called;
          value = q.value;
          stands = subst (λ (o : Option Part). option_and_then (λ (y : Part). part_at y ts) o ≡ Some (part sort.State q.value)) (sym r.leads) q.stands;
        }

listed : (outer : List Step) (own : Step) (x : Part) (v : Data) → part_at x (outer ++ own ∷ []) ≡ Some (part sort.State v) → One (IsNamed (outer ++ own ∷ []) own.name) (states_in x.sort x.value)
listed [] own x v e = by (next x own) refl e
  where
    by : (o : Option Part) → next x own ≡ o → option_and_then (λ (y : Part). part_at y []) o ≡ Some (part sort.State v) → One (IsNamed (own ∷ []) own.name) (states_in x.sort x.value)
    by None f g = absurd cc
    by (Some y) f g = step_in own [] own.name x.sort x.value (part sort.State v) (f ∙ g) (inl (record { name_is = refl; stands = refl }))
listed (t ∷ ts) own x v e = by (next x t) refl (λ y f. listed ts own y v f) e
  where
    by : (o : Option Part) → next x t ≡ o → ((y : Part) → part_at y (ts ++ own ∷ []) ≡ Some (part sort.State v) → One (IsNamed (ts ++ own ∷ []) own.name) (states_in y.sort y.value)) → option_and_then (λ (y : Part). part_at y (ts ++ own ∷ [])) o ≡ Some (part sort.State v) → One (IsNamed (t ∷ ts ++ own ∷ []) own.name) (states_in x.sort x.value)
    by None f further g = absurd cc
    by (Some y) f further g = step_in t (ts ++ own ∷ []) own.name x.sort x.value y f (one_right (IsNamed (ts ++ own ∷ []) own.name) (own_name y.sort t.name) (states_in y.sort y.value) (further y g))

pub state_in : (place : List Step) (name : List ℕ) (x : Part) → IsState x place name → One (IsNamed place name) (states_in x.sort x.value)
state_in place name x h =
    let led : part_at x (h.outer ++ h.own ∷ []) ≡ Some (part sort.State h.value) = subst (λ (us : List Step). part_at x us ≡ Some (part sort.State h.value)) h.place_is h.stands in
    let found = listed h.outer h.own x h.value led in
    subst (λ (us : List Step). One (IsNamed us name) (states_in x.sort x.value)) (sym h.place_is) (subst (λ (n : List ℕ). One (IsNamed (h.outer ++ h.own ∷ []) n) (states_in x.sort x.value)) h.called found)

-- ---- names that come again

pub up_to_itself : (ts : List Step) → is_up_to ts ts ≡ true
up_to_itself [] = refl
up_to_itself (t ∷ ts) =
    let eq : (t.at == t.at) ≡ true = grind (arith, nat_tests) in
    let off : nat_lt t.at t.at ≡ false = grind (arith, nat_tests) in
    rw (off, eq) (up_to_itself ts)

pub one_way : (ts us : List Step) → is_up_to ts us ≡ false → is_up_to us ts ≡ true
one_way [] us e = absurd cc
one_way (t ∷ ts) [] e = refl
one_way (t ∷ ts) (u ∷ us) e = by (nat_lt t.at u.at) (t.at == u.at) refl refl (λ f. one_way ts us f) e
  where
    by : (a b : Bool) → nat_lt t.at u.at ≡ a → (t.at == u.at) ≡ b → (is_up_to ts us ≡ false → is_up_to us ts ≡ true) → (a || (b && is_up_to ts us)) ≡ false → (nat_lt u.at t.at || ((u.at == t.at) && is_up_to us ts)) ≡ true
    by true b p q further f = absurd cc
    by false true p q further f =
        let eq : (u.at == t.at) ≡ true = grind (arith, nat_tests) in
        let off : nat_lt u.at t.at ≡ false = grind (arith, nat_tests) in
        rw (off, eq) (further f)
    by false false p q further f =
        let lt : nat_lt u.at t.at ≡ true = grind (arith, nat_tests) in
        rw lt refl

-- of this name, before the place
abbrev pub IsTwin : List Step → List ℕ → Named → Type 0
IsTwin place name m = (m.0 ≡ name) × (is_up_to place m.1 ≡ false)

pub record ComesAgain (place : List Step) (seen : List (List ℕ)) (ns : List Named) : Type 0 where
  pub name : List ℕ
  pub among : One (IsNamed place name) ns
  pub before : (is_among name seen ≡ true) ⊎ One (IsTwin place name) ns

among_push : (k : List ℕ) (ls : List (List ℕ)) (l : List ℕ) → is_among k (ls ++ l ∷ []) ≡ true → (is_among k ls ≡ true) ⊎ (k ≡ l)
among_push k [] l e = by (bytes_eq k l) refl e
  where
    by : (b : Bool) → bytes_eq k l ≡ b → (b || false) ≡ true → (false ≡ true) ⊎ (k ≡ l)
    by true f g = inr (same_text k l (sym f))
    by false f g = absurd cc
among_push k (x ∷ xs) l e = by (bytes_eq k x) (λ f. among_push k xs l f) e
  where
    by : (b : Bool) → (is_among k (xs ++ l ∷ []) ≡ true → (is_among k xs ≡ true) ⊎ (k ≡ l)) → (b || is_among k (xs ++ l ∷ [])) ≡ true → ((b || is_among k xs) ≡ true) ⊎ (k ≡ l)
    by true further f = inl refl
    by false further f = further f

among_more : (k : List ℕ) (ls ms : List (List ℕ)) → is_among k ls ≡ true → is_among k (ls ++ ms) ≡ true
among_more k [] ms e = absurd cc
among_more k (x ∷ xs) ms e = by (bytes_eq k x) (λ f. among_more k xs ms f) e
  where
    by : (b : Bool) → (is_among k xs ≡ true → is_among k (xs ++ ms) ≡ true) → (b || is_among k xs) ≡ true → (b || is_among k (xs ++ ms)) ≡ true
    by true further f = refl
    by false further f = further f

among_last : (k : List ℕ) (ls : List (List ℕ)) → is_among k (ls ++ k ∷ []) ≡ true
among_last k [] = rw (bytes_refl k) refl
among_last k (x ∷ xs) = by (bytes_eq k x) (among_last k xs)
  where
    by : (b : Bool) → is_among k (xs ++ k ∷ []) ≡ true → (b || is_among k (xs ++ k ∷ [])) ≡ true
    by true f = refl
    by false f = f

ahead_named : (n : Named) (place : List Step) (name : List ℕ) (ns : List Named) → Every (IsAhead n) ns → One (IsNamed place name) ns → is_up_to place n.1 ≡ false
ahead_named n place name [] h u = absurd u
ahead_named n place name (m ∷ ms) h (inl u) = subst (λ (us : List Step). is_up_to us n.1 ≡ false) u.stands h.0
ahead_named n place name (m ∷ ms) h (inr u) = ahead_named n place name ms h.1 u

pub again_out : (place : List Step) (seen : List (List ℕ)) (ns : List Named) → AreAhead ns → One (IsFault kind.DuplicateState place) (unique_claims seen ns) → ComesAgain place seen ns
again_out place seen [] a h = absurd h
again_out place seen (n ∷ ns) a (inl h) = record { name = n.0; among = inl (record { name_is = refl; stands = h.stands }); before = inl (on (is_among n.0 seen) h.broken) }
again_out place seen (n ∷ ns) a (inr h) =
    let r = again_out place (seen ++ n.0 ∷ []) ns a.1 h in
    by r r.before
  where
    pushed : (r : ComesAgain place (seen ++ n.0 ∷ []) ns) → (is_among r.name seen ≡ true) ⊎ (r.name ≡ n.0) → (is_among r.name seen ≡ true) ⊎ One (IsTwin place r.name) (n ∷ ns)
    pushed r (inl e) = inl e
    pushed r (inr e) = inr (inl (sym e, ahead_named n place r.name ns a.0 r.among))

    by : (r : ComesAgain place (seen ++ n.0 ∷ []) ns) → (is_among r.name (seen ++ n.0 ∷ []) ≡ true) ⊎ One (IsTwin place r.name) ns → ComesAgain place seen (n ∷ ns)
    by r (inl e) = record { name = r.name; among = inr r.among; before = pushed r (among_push r.name seen n.0 e) }
    by r (inr u) = record { name = r.name; among = inr r.among; before = inr (inr u) }

no_twin : (n : Named) (place : List Step) (name : List ℕ) (ns : List Named) → n.1 ≡ place → Every (IsAhead n) ns → One (IsTwin place name) ns → ⊥
no_twin n place name [] e h u = absurd u
no_twin n place name (m ∷ ms) e h (inl u) =
    let back : is_up_to n.1 m.1 ≡ true = one_way m.1 n.1 h.0 in
    let off : is_up_to n.1 m.1 ≡ false = subst (λ (us : List Step). is_up_to us m.1 ≡ false) (sym e) u.1 in
    absurd (let f : true ≡ false = sym back ∙ off in cc)
no_twin n place name (m ∷ ms) e h (inr u) = no_twin n place name ms e h.1 u

pub again_in : (place : List Step) (name : List ℕ) (seen : List (List ℕ)) (ns : List Named) → AreAhead ns → One (IsNamed place name) ns → (is_among name seen ≡ true) ⊎ One (IsTwin place name) ns → One (IsFault kind.DuplicateState place) (unique_claims seen ns)
again_in place name seen [] a h b = absurd h
again_in place name seen (n ∷ ns) a (inl h) (inl b) =
    let known : is_among n.0 seen ≡ true = subst (λ (k : List ℕ). is_among k seen ≡ true) (sym h.name_is) b in
    inl (record { broken = λ u. absurd (let f : not true ≡ true = subst (λ (c : Bool). not c ≡ true) known u in cc); kind = refl; stands = h.stands })
again_in place name seen (n ∷ ns) a (inl h) (inr (inl b)) =
    absurd (let f : true ≡ false = sym (up_to_itself n.1) ∙ subst (λ (us : List Step). is_up_to us n.1 ≡ false) (sym h.stands) b.1 in cc)
again_in place name seen (n ∷ ns) a (inl h) (inr (inr b)) = absurd (no_twin n place name ns h.stands a.0 b)
again_in place name seen (n ∷ ns) a (inr h) (inl b) = inr (again_in place name (seen ++ n.0 ∷ []) ns a.1 h (inl (among_more name seen (n.0 ∷ []) b)))
again_in place name seen (n ∷ ns) a (inr h) (inr (inl b)) = inr (again_in place name (seen ++ n.0 ∷ []) ns a.1 h (inl (subst (λ (k : List ℕ). is_among k (seen ++ n.0 ∷ []) ≡ true) b.0 (among_last n.0 seen))))
again_in place name seen (n ∷ ns) a (inr h) (inr (inr b)) = inr (again_in place name (seen ++ n.0 ∷ []) ns a.1 h (inr b))
