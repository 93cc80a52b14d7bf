-- Each state that the walk finds in a definition without faults is a state that has a number.
use Rattle.std.proofs.Common.{ℕ, zero, suc, ◌≡◌, ◌<◌, length, get_or, ◌++◌, ◌||◌, ◌∙◌, ap, sym, refl, subst, cond, Bool, true, false, not, List, [], ◌∷◌, map, Option, Some, None, codes, is_some, option_map, inl, inr, ◌⊎◌, arith, Bor}
use Rattle.std.specs.List.{list_any}
use Rattle.std.specs.Cmp.Lexicographic.{same_text}
use Rattle.std.specs.Fmt.{decimal}
use Rattle.std.proofs.lemmas.Bool.{or_cases, or_left, or_right}
use Rattle.std.proofs.lemmas.List.{map-append}
use Rattle.std.proofs.lemmas.List.Folds.{list_any-append}
use Rattle.asl_json_data.specs.Data.{Data, null, boolean, number, text, list, dict, Chain, no_items, item, Pairs, no_members, member, pairs}
use Rattle.asl_json_data.specs.Distinct.{Members}
use Rattle.asl_json.specs.Same.{bytes_eq}
use Rattle.asl_json.specs.View.{member_of, unpaired}
use Rattle.asl_json.specs.private.SameLaws.{bytes_refl}
use Rattle.asl_json.specs.Meaning.{value_at}
use Rattle.asl_json.specs.declared.value.Member.{Member}
use Rattle.asl_def_walk.specs.States as walk
use Rattle.asl_def_schema.specs.declared.sort.Kind.{Kind}
use Rattle.asl_def_schema.specs.declared.sort.Kind.TheVariants as kind
use Rattle.asl_def_schema.specs.declared.sort.Sort.{Sort}
use Rattle.asl_def_schema.specs.declared.sort.Sort.TheVariants as sort
use Rattle.asl_def_schema.specs.Claims.{Spot, step, under, heres, demands, claims, at_item, at_member, item_claims, member_claims, is_nonempty, is_object}
use Rattle.asl_def_schema.specs.Clean.{IsCleanAmong}
use Rattle.asl_def_schema.specs.Faults.{Accepted}
use Rattle.asl_def_schema.specs.First.{Each, Hold}
use Rattle.asl_def_schema.specs.Members.{Shape, shape_of, shape_in, sort_at, state_shape, kind_named, definition_rows, machine_rows, item_processor_rows, task_rows, pass_rows, choice_rows, wait_rows, parallel_rows, map_rows, succeed_rows, fail_rows, unsupported_names}
use Rattle.asl_def_schema.proofs.Accepting.{accepted_clean}
use Rattle.asl_def_schema.proofs.Inside.{each_left, each_right, each_under, object_inside, own_hold}
use Rattle.asl_def_schema.proofs.Typed.{kind_inside, type_known}
use Rattle.asl_def.specs.Machines.{holds_states, own_states, all_states, number_at, state_number, states_of, states_of_items, states_of_members}

-- ---- names among states

abbrev keys : Members → List (List ℕ)
keys xs = map (λ (x : List ℕ × Data). x.0) xs

abbrev has : List ℕ → Members → Bool
has n xs = list_any (bytes_eq n) (keys xs)

has-both : (n : List ℕ) (xs ys : Members) → has n (xs ++ ys) ≡ (has n xs || has n ys)
has-both n xs ys = ap (list_any (bytes_eq n)) (map-append (λ (x : List ℕ × Data). x.0) xs ys) ∙ list_any-append (bytes_eq n) (keys xs) (keys ys)

has-parts : (n : List ℕ) (xs ys : Members) → has n (xs ++ ys) ≡ true → (has n xs ≡ true) ⊎ (has n ys ≡ true)
has-parts n xs ys h = or_cases (has n xs) (has n ys) (sym (has-both n xs ys) ∙ h)

has-left : (n : List ℕ) (xs ys : Members) → has n xs ≡ true → has n (xs ++ ys) ≡ true
has-left n xs ys h = has-both n xs ys ∙ or_left (has n xs) (has n ys) h

has-right : (n : List ℕ) (xs ys : Members) → has n ys ≡ true → has n (xs ++ ys) ≡ true
has-right n xs ys h = has-both n xs ys ∙ or_right (has n xs) (has n ys) h

-- each part in its part
part-in-part : (n : List ℕ) (xs ys us vs : Members) → (has n xs ≡ true → has n us ≡ true) → (has n ys ≡ true → has n vs ≡ true) → has n (xs ++ ys) ≡ true → has n (us ++ vs) ≡ true
part-in-part n xs ys us vs f g h = by (has-parts n xs ys h)
  where
    by : (has n xs ≡ true) ⊎ (has n ys ≡ true) → has n (us ++ vs) ≡ true
    by (inl here) = has-left n us vs (f here)
    by (inr later) = has-right n us vs (g later)

then-has : (n : List ℕ) (b : Bool) (xs : Members) → b ≡ true → has n xs ≡ true → has n (cond b xs []) ≡ true
then-has n true xs e h = h
then-has n false xs e h = absurd (cc)

-- ---- what members are

-- a machine
record IsMachine (s : Sort) : Type 0 where
  holds : holds_states s ≡ true
  object : is_object s ≡ true
  states : (o : Option Kind) → sort_at (shape_of s o) (codes "States") ≡ sort.States

definition-is : IsMachine sort.Definition
unfolding definition_rows
definition-is = record { holds = refl; object = refl; states = λ o. refl }

machine-is : IsMachine sort.Machine
unfolding machine_rows
machine-is = record { holds = refl; object = refl; states = λ o. refl }

processor-is : IsMachine sort.ItemProcessor
unfolding item_processor_rows
processor-is = record { holds = refl; object = refl; states = λ o. refl }

-- a member of this name is of this sort, or there is none
abbrev IsOnly : Kind → List ℕ → Sort → Type 0
IsOnly t k s = (sort_at (state_shape (Some t)) k ≡ s) ⊎ (sort_at (state_shape (Some t)) k ≡ sort.Unknown)

record AreKnown (t : Kind) : Type 0 where
  branches : IsOnly t (codes "Branches") sort.Machines
  iterator : IsOnly t (codes "Iterator") sort.Machine
  processor : IsOnly t (codes "ItemProcessor") sort.ItemProcessor

known : (t : Kind) → AreKnown t
unfolding task_rows pass_rows choice_rows wait_rows parallel_rows map_rows succeed_rows fail_rows unsupported_names
known kind.Task = record { branches = inr refl; iterator = inr refl; processor = inr refl }
known kind.Pass = record { branches = inr refl; iterator = inr refl; processor = inr refl }
known kind.Choice = record { branches = inr refl; iterator = inr refl; processor = inr refl }
known kind.Wait = record { branches = inr refl; iterator = inr refl; processor = inr refl }
known kind.Parallel = record { branches = inl refl; iterator = inr refl; processor = inr refl }
known kind.Map = record { branches = inr refl; iterator = inl refl; processor = inl refl }
known kind.Succeed = record { branches = inr refl; iterator = inr refl; processor = inr refl }
known kind.Fail = record { branches = inr refl; iterator = inr refl; processor = inr refl }

none-unknown : (p : Spot) (d : Data) → Each Hold (claims p sort.Unknown d) → ⊥
none-unknown p d h = (own_hold p sort.Unknown d h).1.0

-- the states of a member of a state, where they are those of a value of this sort
sorted : (n k l : List ℕ) (t : Kind) (s : Sort) (p : Spot) (d : Data) (xs : Members) → k ≡ l → IsOnly t l s → Each Hold (claims p (sort_at (state_shape (Some t)) k) d) → (Each Hold (claims p s d) → has n xs ≡ true → has n (all_states s d) ≡ true) → has n xs ≡ true → has n (all_states (sort_at (state_shape (Some t)) k) d) ≡ true
sorted n k l t s p d xs e (inl is) h more here =
    let same : sort_at (state_shape (Some t)) k ≡ s = ap (sort_at (state_shape (Some t))) e ∙ is in
    subst (λ (z : Sort). has n (all_states z d) ≡ true) (sym same) (more (subst (λ (z : Sort). Each Hold (claims p z d)) same h) here)
sorted n k l t s p d xs e (inr is) h more here =
    let same : sort_at (state_shape (Some t)) k ≡ sort.Unknown = ap (sort_at (state_shape (Some t))) e ∙ is in
    absurd (none-unknown p d (subst (λ (z : Sort). Each Hold (claims p z d)) same h))

state-part : (n k : List ℕ) (t : Kind) (p : Spot) (d : Data) → Each Hold (claims p (sort_at (state_shape (Some t)) k) d)
    → (Each Hold (claims p sort.Machines d) → has n (walk.branch_states d) ≡ true → has n (all_states sort.Machines d) ≡ true)
    → ((s : Sort) → IsMachine s → Each Hold (claims p s d) → has n (walk.all_states d) ≡ true → has n (all_states s d) ≡ true)
    → has n (walk.state_part k (walk.branch_states d) (walk.all_states d)) ≡ true → has n (all_states (sort_at (state_shape (Some t)) k) d) ≡ true
state-part n k t p d h branches machine = by (bytes_eq k (codes "Branches")) (bytes_eq k (codes "Iterator")) (bytes_eq k (codes "ItemProcessor")) refl refl refl
  where
    by : (a b c : Bool) → bytes_eq k (codes "Branches") ≡ a → bytes_eq k (codes "Iterator") ≡ b → bytes_eq k (codes "ItemProcessor") ≡ c → has n (cond a (walk.branch_states d) (cond b (walk.all_states d) (cond c (walk.all_states d) []))) ≡ true → has n (all_states (sort_at (state_shape (Some t)) k) d) ≡ true
    by true b c e f g here = sorted n k (codes "Branches") t sort.Machines p d (walk.branch_states d) (same_text k (codes "Branches") (sym e)) (known t).branches h branches here
    by false true c e f g here = sorted n k (codes "Iterator") t sort.Machine p d (walk.all_states d) (same_text k (codes "Iterator") (sym f)) (known t).iterator h (machine sort.Machine machine-is) here
    by false false true e f g here = sorted n k (codes "ItemProcessor") t sort.ItemProcessor p d (walk.all_states d) (same_text k (codes "ItemProcessor") (sym g)) (known t).processor h (machine sort.ItemProcessor processor-is) here
    by false false false e f g here = absurd (cc)

machine-part : (n k : List ℕ) (sh : Shape) (p : Spot) (d : Data) → sort_at sh (codes "States") ≡ sort.States → Each Hold (claims p (sort_at sh k) d) → (Each Hold (claims p sort.States d) → has n (walk.among_states d) ≡ true → has n (all_states sort.States d) ≡ true) → has n (walk.machine_part k (walk.among_states d)) ≡ true → has n (all_states (sort_at sh k) d) ≡ true
machine-part n k sh p d is h more = by (bytes_eq k (codes "States")) refl
  where
    by : (b : Bool) → bytes_eq k (codes "States") ≡ b → has n (cond b (walk.among_states d) []) ≡ true → has n (all_states (sort_at sh k) d) ≡ true
    by true e here =
        let same : sort_at sh k ≡ sort.States = ap (sort_at sh) (same_text k (codes "States") (sym e)) ∙ is in
        subst (λ (z : Sort). has n (all_states z d) ≡ true) (sym same) (more (subst (λ (z : Sort). Each Hold (claims p z d)) same h) here)
    by false e here = absurd (cc)

clean : (p : Spot) (s : Sort) (d : Data) → Each Hold (claims p s d) → IsCleanAmong p.names s d
clean p s d h = record { spot = p; named = λ k. refl; hold = h }

-- of a state, whose type is known
typed : (n : List ℕ) (p : Spot) (ms : Pairs) → Each Hold (claims p sort.State (dict ms)) → (o : Option Kind) → kind_named (value_at (codes "Type") ms) ≡ o → ((t : Kind) (q : Spot) → Each Hold (member_claims q (state_shape (Some t)) [] 0 ms) → has n (walk.in_state ms) ≡ true → has n (states_of_members (state_shape (Some t)) ms) ≡ true) → has n (walk.in_state ms) ≡ true → has n (all_states sort.State (dict ms)) ≡ true
typed n p ms h None e more here = absurd (type_known p.names ms (clean p sort.State (dict ms) h) e)
typed n p ms h (Some t) e more here =
    let inside = kind_inside p.names ms t (clean p sort.State (dict ms) h) e in
    has-left n (states_of_members (shape_in sort.State ms) ms) [] (subst (λ (o : Option Kind). has n (states_of_members (state_shape o) ms) ≡ true) (sym e) (more t inside.spot inside.members here))

-- the members of States are states
named-or : (n k : List ℕ) (d : Data) (inner rest all own under : Members) → (has n inner ≡ true → has n all ≡ true) → (has n rest ≡ true → (has n under ≡ true) ⊎ (has n own ≡ true)) → has n ((k, d) ∷ (inner ++ rest)) ≡ true → (has n (all ++ under) ≡ true) ⊎ (has n ((k, d) ∷ own) ≡ true)
named-or n k d inner rest all own under f g h = by (or_cases (bytes_eq n k) (has n (inner ++ rest)) h)
  where
    later : (has n under ≡ true) ⊎ (has n own ≡ true) → (has n (all ++ under) ≡ true) ⊎ (has n ((k, d) ∷ own) ≡ true)
    later (inl deeper) = inl (has-right n all under deeper)
    later (inr beside) = inr (or_right (bytes_eq n k) (has n own) beside)

    behind : (has n inner ≡ true) ⊎ (has n rest ≡ true) → (has n (all ++ under) ≡ true) ⊎ (has n ((k, d) ∷ own) ≡ true)
    behind (inl deeper) = inl (has-left n all under (f deeper))
    behind (inr more) = later (g more)

    by : (bytes_eq n k ≡ true) ⊎ (has n (inner ++ rest) ≡ true) → (has n (all ++ under) ≡ true) ⊎ (has n ((k, d) ∷ own) ≡ true)
    by (inl here) = inr (or_left (bytes_eq n k) (has n own) here)
    by (inr more) = behind (has-parts n inner rest more)

either : (n : List ℕ) (xs ys : Members) → (has n xs ≡ true) ⊎ (has n ys ≡ true) → has n (xs ++ ys) ≡ true
either n xs ys (inl here) = has-left n xs ys here
either n xs ys (inr there) = has-right n xs ys there

-- ---- what the walk finds

mutual
  in-machine : (n : List ℕ) (s : Sort) (p : Spot) (d : Data) → IsMachine s → Each Hold (claims p s d) → has n (walk.all_states d) ≡ true → has n (all_states s d) ≡ true
  in-machine n s p null is h here = absurd (cc)
  in-machine n s p (boolean b) is h here = absurd (cc)
  in-machine n s p (number x) is h here = absurd (cc)
  in-machine n s p (text t) is h here = absurd (cc)
  in-machine n s p (list ds) is h here = absurd (cc)
  in-machine n s p (dict ms) is h here =
      let sh = shape_in s ms in
      let inside = object_inside p.names s ms is.object (clean p s (dict ms) h) in
      then-has n (holds_states s) (states_of_members sh ms ++ own_states s ms) is.holds (has-left n (states_of_members sh ms) (own_states s ms) (in-parts n sh inside.spot [] 0 ms (is.states (kind_named (value_at (codes "Type") ms))) inside.members here))

  in-parts : (n : List ℕ) (sh : Shape) (p : Spot) (seen : Members) (i : ℕ) (ms : Pairs) → sort_at sh (codes "States") ≡ sort.States → Each Hold (member_claims p sh seen i ms) → has n (walk.in_machine ms) ≡ true → has n (states_of_members sh ms) ≡ true
  in-parts n sh p seen i no_members is h here = absurd (cc)
  in-parts n sh p seen i (member k d ms) is h here =
      let at = at_member p sh seen k d in
      let part = map (under (step i k)) (claims at (sort_at sh k) d) in
      let rest = member_claims p sh (seen ++ (k, d) ∷ []) (suc i) ms in
      part-in-part n (walk.machine_part k (walk.among_states d)) (walk.in_machine ms) (all_states (sort_at sh k) d) (states_of_members sh ms)
      (machine-part n k sh at d is (each_under (step i k) (claims at (sort_at sh k) d) (each_left Hold part rest h)) (in-among n at d))
      (in-parts n sh p (seen ++ (k, d) ∷ []) (suc i) ms is (each_right Hold part rest h)) here

  in-among : (n : List ℕ) (p : Spot) (d : Data) → Each Hold (claims p sort.States d) → has n (walk.among_states d) ≡ true → has n (all_states sort.States d) ≡ true
  in-among n p null h here = absurd (cc)
  in-among n p (boolean b) h here = absurd (cc)
  in-among n p (number x) h here = absurd (cc)
  in-among n p (text t) h here = absurd (cc)
  in-among n p (list ds) h here = absurd (cc)
  in-among n p (dict ms) h here =
      let sh = shape_in sort.States ms in
      let inside = object_inside p.names sort.States ms refl (clean p sort.States (dict ms) h) in
      either n (states_of_members sh ms) (unpaired ms) (in-states n (kind_named (value_at (codes "Type") ms)) inside.spot [] 0 ms inside.members here)

  in-states : (n : List ℕ) (o : Option Kind) (p : Spot) (seen : Members) (i : ℕ) (ms : Pairs) → Each Hold (member_claims p (shape_of sort.States o) seen i ms) → has n (walk.in_states ms) ≡ true → (has n (states_of_members (shape_of sort.States o) ms) ≡ true) ⊎ (has n (unpaired ms) ≡ true)
  in-states n o p seen i no_members h here = absurd (cc)
  in-states n o p seen i (member k d ms) h here =
      let sh = shape_of sort.States o in
      let at = at_member p sh seen k d in
      let part = map (under (step i k)) (claims at sort.State d) in
      let rest = member_claims p sh (seen ++ (k, d) ∷ []) (suc i) ms in
      named-or n k d (walk.inner_states d) (walk.in_states ms) (all_states sort.State d) (unpaired ms) (states_of_members sh ms)
      (in-state n at d (each_under (step i k) (claims at sort.State d) (each_left Hold part rest h)))
      (in-states n o p (seen ++ (k, d) ∷ []) (suc i) ms (each_right Hold part rest h)) here

  in-state : (n : List ℕ) (p : Spot) (d : Data) → Each Hold (claims p sort.State d) → has n (walk.inner_states d) ≡ true → has n (all_states sort.State d) ≡ true
  in-state n p null h here = absurd (cc)
  in-state n p (boolean b) h here = absurd (cc)
  in-state n p (number x) h here = absurd (cc)
  in-state n p (text t) h here = absurd (cc)
  in-state n p (list ds) h here = absurd (cc)
  in-state n p (dict ms) h here = typed n p ms h (kind_named (value_at (codes "Type") ms)) refl (λ t q. in-members n t q [] 0 ms) here

  in-members : (n : List ℕ) (t : Kind) (p : Spot) (seen : Members) (i : ℕ) (ms : Pairs) → Each Hold (member_claims p (state_shape (Some t)) seen i ms) → has n (walk.in_state ms) ≡ true → has n (states_of_members (state_shape (Some t)) ms) ≡ true
  in-members n t p seen i no_members h here = absurd (cc)
  in-members n t p seen i (member k d ms) h here =
      let sh = state_shape (Some t) in
      let at = at_member p sh seen k d in
      let part = map (under (step i k)) (claims at (sort_at sh k) d) in
      let rest = member_claims p sh (seen ++ (k, d) ∷ []) (suc i) ms in
      part-in-part n (walk.state_part k (walk.branch_states d) (walk.all_states d)) (walk.in_state ms) (all_states (sort_at sh k) d) (states_of_members sh ms)
      (state-part n k t at d (each_under (step i k) (claims at (sort_at sh k) d) (each_left Hold part rest h)) (in-branches n at d) (λ s. in-machine n s at d))
      (in-members n t p (seen ++ (k, d) ∷ []) (suc i) ms (each_right Hold part rest h)) here

  in-branches : (n : List ℕ) (p : Spot) (d : Data) → Each Hold (claims p sort.Machines d) → has n (walk.branch_states d) ≡ true → has n (all_states sort.Machines d) ≡ true
  in-branches n p null h here = absurd (cc)
  in-branches n p (boolean b) h here = absurd (cc)
  in-branches n p (number x) h here = absurd (cc)
  in-branches n p (text t) h here = absurd (cc)
  in-branches n p (dict ms) h here = absurd (cc)
  in-branches n p (list ds) h here = in-items n p 0 ds (each_right Hold (heres (demands p sort.Machines (list ds))) (item_claims p sort.Machine 0 ds) h) here

  in-items : (n : List ℕ) (p : Spot) (i : ℕ) (ds : Chain) → Each Hold (item_claims p sort.Machine i ds) → has n (walk.in_branches ds) ≡ true → has n (states_of_items sort.Machine ds) ≡ true
  in-items n p i no_items h here = absurd (cc)
  in-items n p i (item d ds) h here =
      let at = at_item p (not (is_nonempty ds)) in
      let part = map (under (step i (decimal i))) (claims at sort.Machine d) in
      let rest = item_claims p sort.Machine (suc i) ds in
      part-in-part n (walk.all_states d) (walk.in_branches ds) (all_states sort.Machine d) (states_of_items sort.Machine ds)
      (in-machine n sort.Machine at d machine-is (each_under (step i (decimal i)) (claims at sort.Machine d) (each_left Hold part rest h)))
      (in-items n p (suc i) ds (each_right Hold part rest h)) here

-- ---- it has a number

some-suc : (o : Option ℕ) → is_some o ≡ true → is_some (option_map suc o) ≡ true
some-suc None h = h
some-suc (Some m) h = refl

numbered-at : (n : List ℕ) (xs : Members) → has n xs ≡ true → is_some (number_at n (pairs xs)) ≡ true
numbered-at n [] h = absurd (cc)
numbered-at n (x ∷ xs) h = by (bytes_eq n x.0) refl (numbered-at n xs)
  where
    by : (b : Bool) → bytes_eq n x.0 ≡ b → (has n xs ≡ true → is_some (number_at n (pairs xs)) ≡ true) → is_some (number_at n (pairs (x ∷ xs))) ≡ true
    by true e more = rw e refl
    by false e more = rw e (some-suc (number_at n (pairs xs)) (more (rw e at h)))

-- a state of the list
there : (ms : List (Bor Member)) (i : ℕ) (m : Bor Member) → i < length ms → m ≡ get_or ms i m → has m.now.key (map (λ (x : Bor Member). member_of x.now) ms) ≡ true
there [] i m lt e = absurd (omega arith)
there (x ∷ ms) zero m lt e = or_left (bytes_eq m.now.key x.now.key) (has m.now.key (map (λ (y : Bor Member). member_of y.now) ms)) (ap (λ (y : Bor Member). bytes_eq m.now.key y.now.key) (sym e) ∙ bytes_refl m.now.key)
there (x ∷ ms) (suc i) m lt e = or_right (bytes_eq m.now.key x.now.key) (has m.now.key (map (λ (y : Bor Member). member_of y.now) ms)) (there ms i m (omega arith) e)

pub there-numbered : (ms : List (Bor Member)) (i : ℕ) (m : Bor Member) (d : Data) → i < length ms → m ≡ get_or ms i m → map (λ (x : Bor Member). member_of x.now) ms ≡ walk.all_states d → Accepted d → is_some (state_number m.now.key d) ≡ true
there-numbered ms i m d lt e found a =
    let named : has m.now.key (walk.all_states d) ≡ true = ap (has m.now.key) (sym found) ∙ there ms i m lt e in
    let whole = accepted_clean d a in
    numbered-at m.now.key (states_of d) (in-machine m.now.key sort.Definition whole.spot d definition-is whole.hold named)

pub names-found : (ms : List (Bor Member)) → map (λ (x : Bor Member). x.now.key) ms ≡ keys (map (λ (x : Bor Member). member_of x.now) ms)
names-found [] = refl
names-found (m ∷ ms) = ap (λ (ks : List (List ℕ)). m.now.key ∷ ks) (names-found ms)
