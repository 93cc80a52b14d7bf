-- A definition without faults has none in the newer spelling.
use mathlib.Core.Path.{fun_ext}
use Rattle.std.proofs.Common.{◌≡◌, ℕ, suc, List, [], ◌∷◌, ◌++◌, Bool, true, false, ◌||◌, ◌&&◌, not, ◌⊎◌, inl, inr, refl, sym, ap, ◌∙◌, subst}
use Rattle.std.specs.Prelude.{Option, Some, None, is_some, option_map, map, codes, nat_le, if◌then◌else◌}
use Rattle.std.specs.Fmt.{decimal}
use Rattle.std.specs.Cmp.Lexicographic.{same_text}
use Rattle.asl_json_data.specs.Data.{Data, null, boolean, number, text, list, dict, Chain, no_items, item, Pairs, no_members, member}
use Rattle.asl_json.specs.Same.{bytes_eq}
use Rattle.asl_json.specs.Meaning.{value_at, count}
use Rattle.asl_json_data.specs.Distinct.{Members}
use Rattle.asl_def_schema.specs.declared.sort.Sort.{Sort}
use Rattle.asl_def_schema.specs.declared.sort.Sort.TheVariants as sort
use Rattle.asl_def_schema.specs.declared.sort.Kind.{Kind}
use Rattle.asl_def_schema.specs.declared.sort.Kind.TheVariants as kind
use Rattle.asl_def_schema.specs.Members.{Row, Group, Shape, shape_of, shape_in, state_shape, sort_at, item_sort, kind_named, is_among, unsupported_names, processor_group, selector_group, transition, untyped_rows, definition_rows, machine_rows, item_processor_rows, task_rows, pass_rows, choice_rows, wait_rows, parallel_rows, map_rows, succeed_rows, fail_rows}
use Rattle.asl_def_schema.specs.Demands.{there, decided}
use Rattle.asl_json.specs.Access.{members_of_any}
use Rattle.asl_def_schema.specs.Claims.{Claim, Spot, under, heres, step, demands, claims, at_member, at_item, inside as inside_spot, one_deeper, names_in, member_claims, item_claims, row_claims, group_demands, object_claims, is_template, is_nonempty, item_count, is_needed, has_any, is_true, counts, any_counts, any_in, is_doubled, is_twice}
use Rattle.asl_def_schema.specs.First.{Each, Hold}
use Rattle.asl_def_schema.proofs.Inside.{each_left, each_right, each_under, own_hold, object_hold}
use Rattle.asl_def_schema.proofs.Deciding.{IsGroup, not_true, neither_is}
use Rattle.asl_def_judge.proofs.Answering.{each-append}
use Rattle.asl_def_canonical_laws.proofs.Amounts.{both_are}
use Rattle.asl_def_canonical_laws.proofs.Members.{member_spot, under_holds}
use Rattle.asl_def.specs.Machines.{holds_states}
use Rattle.asl_def.specs.Upgraded.{renamed, newer, names_map, map_in, newer_value, newer_items, newer_members}
use Rattle.asl_def.proofs.Newer.{by_name, spellings, IsOther, value_at-newer, items_leaf, members_leaf, inside, kind_newer, machine_shape, processor_shape, sorts_inside, map_shape}

-- ---- whether a member counts

newer_true : (s : Sort) (d : Data) → is_true (newer_value s d) ≡ is_true d
newer_true s null = refl
newer_true s (boolean b) = refl
newer_true s (number n) = refl
newer_true s (text t) = refl
newer_true s (list ds) = by (holds_states s)
  where
    by : (b : Bool) → is_true (if b then list (newer_items (item_sort s) ds) else list ds) ≡ false
    by true = refl
    by false = refl
newer_true s (dict ms) = by (holds_states s)
  where
    by : (b : Bool) → is_true (if b then dict (newer_members (map_in s ms) (shape_in s ms) ms) else dict ms) ≡ false
    by true = refl
    by false = refl

-- the names of each group of a Map stay in it
abbrev KeepsNames : Group → Type 0
KeepsNames g = (k : List ℕ) → is_among (newer k) g.names ≡ is_among k g.names

processor_keeps : KeepsNames processor_group
processor_keeps k = by_name (λ (m n : List ℕ). is_among n processor_group.names ≡ is_among m processor_group.names) refl refl (λ m p q. refl) k

selector_keeps : KeepsNames selector_group
selector_keeps k = by_name (λ (m n : List ℕ). is_among n selector_group.names ≡ is_among m selector_group.names) refl refl (λ m p q. refl) k

transition_keeps : KeepsNames transition
transition_keeps k = by_name (λ (m n : List ℕ). is_among n transition.names ≡ is_among m transition.names) refl refl (λ m p q. refl) k

end_keeps : (k : List ℕ) → bytes_eq (newer k) (codes "End") ≡ bytes_eq k (codes "End")
end_keeps k = by_name (λ (m n : List ℕ). bytes_eq n (codes "End") ≡ bytes_eq m (codes "End")) refl refl (λ m p q. refl) k

-- members count as before
abbrev pub Counts : Bool → Shape → Type 0
Counts b sh = (g : Group) → IsGroup g sh.groups → (k : List ℕ) (s : Sort) (d : Data) → counts g (renamed b k) (newer_value s d) ≡ counts g k d

unnamed_counts : (sh : Shape) → Counts false sh
unnamed_counts sh g at k s d = ap (λ (b : Bool). is_among k g.names && (not (bytes_eq k (codes "End")) || b)) (newer_true s d)

named_counts : (g : Group) → KeepsNames g → (k : List ℕ) (s : Sort) (d : Data) → counts g (newer k) (newer_value s d) ≡ counts g k d
named_counts g keeps k s d = λ i. keeps k i && (not (end_keeps k i) || newer_true s d i)

pub map_counts : Counts true map_shape
map_counts g (inl same) k s d = named_counts g (subst KeepsNames (sym same) processor_keeps) k s d
map_counts g (inr (inl same)) k s d = named_counts g (subst KeepsNames (sym same) selector_keeps) k s d
map_counts g (inr (inr (inl same))) k s d = named_counts g (subst KeepsNames (sym same) transition_keeps) k s d
map_counts g (inr (inr (inr at))) k s d = absurd at

-- ---- where a value stands under another name

never : (p : Spot) (b : Bool) (d : Data) → Each Hold (claims p (if b then sort.Unsupported else sort.Unknown) d) → ⊥
never p true d h = absurd (let x : false ≡ true = (own_hold p sort.Unsupported d h).1.0 in cc)
never p false d h = (own_hold p sort.Unknown d h).1.0

pub no_config : (p : Spot) (k : List ℕ) (d : Data) → bytes_eq k (codes "ProcessorConfig") ≡ true → Each Hold (claims p (sort_at machine_shape k) d) → ⊥
unfolding machine_rows
no_config p k d e h = never p (is_among (codes "ProcessorConfig") unsupported_names) d (subst (λ (l : List ℕ). Each Hold (claims p (sort_at machine_shape l) d)) (same_text k (codes "ProcessorConfig") (sym e)) h)

-- the members of an `Iterator` may stand in an `ItemProcessor`
members_move : (p : Spot) (seen : Members) (i : ℕ) (ms : Pairs) → Each Hold (member_claims p machine_shape seen i ms) → Each Hold (member_claims p processor_shape seen i ms)
members_move p seen i no_members h = tt
members_move p seen i (member k d ms) h =
    let spot = at_member p machine_shape seen k d in
    let part = map (under (step i k)) (claims spot (sort_at machine_shape k) d) in
    let rest = member_claims p machine_shape (seen ++ (k, d) ∷ []) (suc i) ms in
    let own = each_under (step i k) (claims spot (sort_at machine_shape k) d) (each_left Hold part rest h) in
    each-append Hold (map (under (step i k)) (claims spot (sort_at processor_shape k) d)) (member_claims p processor_shape (seen ++ (k, d) ∷ []) (suc i) ms)
    (under_holds (step i k) (claims spot (sort_at processor_shape k) d) (by spot (sorts_inside k) own))
    (members_move p (seen ++ (k, d) ∷ []) (suc i) ms (each_right Hold part rest h))
  where
    by : (q : Spot) → (sort_at machine_shape k ≡ sort_at processor_shape k) ⊎ (bytes_eq k (codes "ProcessorConfig") ≡ true) → Each Hold (claims q (sort_at machine_shape k) d) → Each Hold (claims q (sort_at processor_shape k) d)
    by q (inl e) own = subst (λ (s : Sort). Each Hold (claims q s d)) e own
    by q (inr e) own = absurd (no_config q k d e own)

machine_moves : (p : Spot) (k l : List ℕ) (d : Data) → Each Hold (claims (member_spot p k false) sort.Machine d) → Each Hold (claims (member_spot p l false) sort.ItemProcessor d)
unfolding machine_rows item_processor_rows
machine_moves p k l null h = h
machine_moves p k l (boolean b) h = h
machine_moves p k l (number n) h = h
machine_moves p k l (text t) h = h
machine_moves p k l (list ds) h = h
machine_moves p k l (dict ms) h =
    let old = inside_spot (member_spot p k false) sort.Machine ms in
    let new = inside_spot (member_spot p l false) sort.ItemProcessor ms in
    let parts = object_hold (member_spot p k false) sort.Machine ms refl h in
    let members = each_left Hold (member_claims old machine_shape [] 0 ms) (row_claims (count ms) machine_rows ms) parts in
    let rows = each_right Hold (member_claims old machine_shape [] 0 ms) (row_claims (count ms) machine_rows ms) parts in
    each-append Hold (heres (demands (member_spot p l false) sort.ItemProcessor (dict ms))) (object_claims (member_spot p l false) sort.ItemProcessor ms)
    (own_hold (member_spot p k false) sort.Machine (dict ms) h)
    (each-append Hold (member_claims new processor_shape [] 0 ms) (row_claims (count ms) item_processor_rows ms)
    (other_key ms members) rows)
  where
    -- the key of what holds it isn't seen
    moved_key : (seen : Members) (i : ℕ) (all : Pairs) (ns : Pairs) → Each Hold (member_claims (inside_spot (member_spot p k false) sort.Machine all) processor_shape seen i ns) → Each Hold (member_claims (inside_spot (member_spot p l false) sort.ItemProcessor all) processor_shape seen i ns)
    moved_key seen i all no_members h = tt
    moved_key seen i all (member m d ns) h =
        let spot = at_member (inside_spot (member_spot p k false) sort.Machine all) processor_shape seen m d in
        let part = map (under (step i m)) (claims spot (sort_at processor_shape m) d) in
        let rest = member_claims (inside_spot (member_spot p k false) sort.Machine all) processor_shape (seen ++ (m, d) ∷ []) (suc i) ns in
        each-append Hold part (member_claims (inside_spot (member_spot p l false) sort.ItemProcessor all) processor_shape (seen ++ (m, d) ∷ []) (suc i) ns) (each_left Hold part rest h) (moved_key (seen ++ (m, d) ∷ []) (suc i) all ns (each_right Hold part rest h))

    other_key : (all : Pairs) → Each Hold (member_claims (inside_spot (member_spot p k false) sort.Machine all) machine_shape [] 0 all) → Each Hold (member_claims (inside_spot (member_spot p l false) sort.ItemProcessor all) processor_shape [] 0 all)
    other_key all h = moved_key [] 0 all all (members_move (inside_spot (member_spot p k false) sort.Machine all) [] 0 all h)

-- a template's own key isn't seen
template_items : (p : Spot) (k l : List ℕ) (i : ℕ) (ds : Chain) → item_claims (member_spot p k false) sort.Template i ds ≡ item_claims (member_spot p l false) sort.Template i ds
template_items p k l i no_items = refl
template_items p k l i (item d ds) = ap (λ (cs : List Claim). map (under (step i (decimal i))) (claims (at_item (member_spot p k false) (not (is_nonempty ds))) sort.Template d) ++ cs) (template_items p k l (suc i) ds)

template_members : (p : Spot) (k l : List ℕ) (sh : Shape) (seen : Members) (i : ℕ) (ms : Pairs) → member_claims (member_spot p k false) sh seen i ms ≡ member_claims (member_spot p l false) sh seen i ms
template_members p k l sh seen i no_members = refl
template_members p k l sh seen i (member m d ms) = ap (λ (cs : List Claim). map (under (step i m)) (claims (at_member (member_spot p k false) sh seen m d) (sort_at sh m) d) ++ cs) (template_members p k l sh (seen ++ (m, d) ∷ []) (suc i) ms)

template_moves : (p : Spot) (k l : List ℕ) (d : Data) → claims (member_spot p k false) sort.Template d ≡ claims (member_spot p l false) sort.Template d
template_moves p k l null = refl
template_moves p k l (boolean b) = refl
template_moves p k l (number n) = refl
template_moves p k l (text t) = refl
template_moves p k l (list ds) = ap (λ (cs : List Claim). heres (demands (member_spot p k false) sort.Template (list ds)) ++ cs) (template_items p k l 0 ds)
template_moves p k l (dict ms) = ap (λ (cs : List Claim). heres (demands (member_spot p k false) sort.Template (dict ms)) ++ (cs ++ [])) (template_members p k l (shape_in sort.Template ms) [] 0 ms)

-- what holds of a value holds of it under its newer name
abbrev Moves : Bool → Shape → Type 0
Moves b sh = (p : Spot) (k : List ℕ) (d : Data) → Each Hold (claims (member_spot p k false) (sort_at sh k) d) → Each Hold (claims (member_spot p (renamed b k) false) (sort_at sh (renamed b k)) d)

map_moves : Moves true map_shape
unfolding map_rows
map_moves p k d =
    by_name (λ (m n : List ℕ). Each Hold (claims (member_spot p m false) (sort_at map_shape m) d) → Each Hold (claims (member_spot p n false) (sort_at map_shape n) d))
    (machine_moves p (codes "Iterator") (codes "ItemProcessor") d)
    (subst (λ (cs : List Claim). Each Hold cs) (template_moves p (codes "Parameters") (codes "ItemSelector") d))
    (λ m f g h. h) k

-- ---- what is required

abbrev none_of : List (List ℕ) → Bool
none_of [] = true
none_of (k ∷ ks) = false

-- rows that need the members that they needed
abbrev row_keeps : Bool → Row → Bool
row_keeps b r = none_of r.users && (not r.required || not (b && is_among r.name spellings))

abbrev rows_keep : Bool → List Row → Bool
rows_keep b [] = true
rows_keep b (r ∷ rs) = row_keeps b r && rows_keep b rs

some_mapped : (s : Sort) (o : Option Data) → is_some o ≡ true → is_some (option_map (newer_value s) o) ≡ true
some_mapped s None e = e
some_mapped s (Some d) e = refl

row_holds : (b : Bool) (sh : Shape) (r : Row) (ms : Pairs) (i j : ℕ) → row_keeps b r ≡ true → Each Hold (if is_needed r ms then (there (value_at r.name ms), step j r.name ∷ []) ∷ [] else []) → Each Hold (if is_needed r (newer_members b sh ms) then (there (value_at r.name (newer_members b sh ms)), step i r.name ∷ []) ∷ [] else [])
row_holds b sh r ms i j e h = by r.required r.users refl refl
  where
    ns : Pairs
    ns = newer_members b sh ms

    by : (q : Bool) (us : List (List ℕ)) → r.required ≡ q → r.users ≡ us → Each Hold (if is_needed r ns then (there (value_at r.name ns), step i r.name ∷ []) ∷ [] else [])
    by q (u ∷ us) p f = absurd (let x : false ≡ true = subst (λ (z : List (List ℕ)). (none_of z && (not r.required || not (b && is_among r.name spellings))) ≡ true) f e in cc)
    by false [] p f =
        let off : is_needed r ns ≡ false = λ i. p i || has_any (f i) ns in
        subst (λ (z : Bool). Each Hold (if z then (there (value_at r.name ns), step i r.name ∷ []) ∷ [] else [])) (sym off) tt
    by true [] p f =
        let on : is_needed r ns ≡ true = λ i. p i || has_any (f i) ns in
        let was : is_needed r ms ≡ true = λ i. p i || has_any (f i) ms in
        let there_was : is_some (value_at r.name ms) ≡ true = (subst (λ (z : Bool). Each Hold (if z then (there (value_at r.name ms), step j r.name ∷ []) ∷ [] else [])) was h).0 in
        let other : IsOther b r.name = not_true (b && is_among r.name spellings) (subst (λ (z : Bool). (not z || not (b && is_among r.name spellings)) ≡ true) p (both_are (none_of r.users) (not r.required || not (b && is_among r.name spellings)) e).1) in
        let there_is : is_some (value_at r.name ns) ≡ true = subst (λ (o : Option Data). is_some o ≡ true) (sym (value_at-newer b r.name sh ms other)) (some_mapped (sort_at sh r.name) (value_at r.name ms) there_was) in
        subst (λ (z : Bool). Each Hold (if z then (there (value_at r.name ns), step i r.name ∷ []) ∷ [] else [])) (sym on) (there_is, tt)

rows_hold : (b : Bool) (sh : Shape) (rs : List Row) (ms : Pairs) (i j : ℕ) → rows_keep b rs ≡ true → Each Hold (row_claims j rs ms) → Each Hold (row_claims i rs (newer_members b sh ms))
rows_hold b sh [] ms i j e h = tt
rows_hold b sh (r ∷ rs) ms i j e h =
    let both = both_are (row_keeps b r) (rows_keep b rs) e in
    let old = if is_needed r ms then (there (value_at r.name ms), step j r.name ∷ []) ∷ [] else [] in
    let ns = newer_members b sh ms in
    each-append Hold (if is_needed r ns then (there (value_at r.name ns), step i r.name ∷ []) ∷ [] else []) (row_claims (suc i) rs ns)
    (row_holds b sh r ms i j both.0 (each_left Hold old (row_claims (suc j) rs ms) h))
    (rows_hold b sh rs ms (suc i) (suc j) both.1 (each_right Hold old (row_claims (suc j) rs ms) h))

-- ---- groups

any_newer : (b : Bool) (sh : Shape) (g : Group) (ms : Pairs) → ((k : List ℕ) (s : Sort) (d : Data) → counts g (renamed b k) (newer_value s d) ≡ counts g k d) → any_in g (newer_members b sh ms) ≡ any_in g ms
any_newer b sh g no_members h = refl
any_newer b sh g (member k d ms) h = let first = h k (sort_at sh k) d in let others = any_newer b sh g ms h in λ i. first i || others i

groups_newer : (b : Bool) (sh : Shape) (gs : List Group) (ms : Pairs) → ((g : Group) → IsGroup g gs → (k : List ℕ) (s : Sort) (d : Data) → counts g (renamed b k) (newer_value s d) ≡ counts g k d) → heres (group_demands gs (newer_members b sh ms)) ≡ heres (group_demands gs ms)
groups_newer b sh [] ms h = refl
groups_newer b sh (g ∷ gs) ms h =
    let first = any_newer b sh g ms (h g (inl refl)) in
    let others = groups_newer b sh gs ms (λ x at. h x (inr at)) in
    λ i. (decided (not g.exact || first i), []) ∷ others i

-- what stands before counts as before
abbrev pub Alike : Shape → Members → Members → Type 0
Alike sh old new = (g : Group) → IsGroup g sh.groups → any_counts g new ≡ any_counts g old

any_push : (g : Group) (ms : Members) (k : List ℕ) (d : Data) → any_counts g (ms ++ (k, d) ∷ []) ≡ (any_counts g ms || counts g k d)
any_push g [] k d = or_false (counts g k d)
  where
    or_false : (a : Bool) → (a || false) ≡ a
    or_false true = refl
    or_false false = refl
any_push g (m ∷ ms) k d = ap (λ (b : Bool). counts g m.0 m.1 || b) (any_push g ms k d) ∙ or_assoc (counts g m.0 m.1) (any_counts g ms) (counts g k d)
  where
    or_assoc : (a b c : Bool) → (a || (b || c)) ≡ ((a || b) || c)
    or_assoc true b c = refl
    or_assoc false b c = refl

pub alike_push : (b : Bool) (sh : Shape) (old new : Members) (k : List ℕ) (s : Sort) (d : Data) → Counts b sh → Alike sh old new → Alike sh (old ++ (k, d) ∷ []) (new ++ (renamed b k, newer_value s d) ∷ [])
alike_push b sh old new k s d keeps h g at = any_push g new (renamed b k) (newer_value s d) ∙ (λ i. h g at i || keeps g at k s d i) ∙ sym (any_push g old k d)

doubled_newer : (b : Bool) (gs : List Group) (old new : Members) (k : List ℕ) (s : Sort) (d : Data) → ((g : Group) → IsGroup g gs → counts g (renamed b k) (newer_value s d) ≡ counts g k d) → ((g : Group) → IsGroup g gs → any_counts g new ≡ any_counts g old) → is_doubled gs new (renamed b k) (newer_value s d) ≡ is_doubled gs old k d
doubled_newer b [] old new k s d h a = refl
doubled_newer b (g ∷ gs) old new k s d h a =
    let one = h g (inl refl) in
    let two = a g (inl refl) in
    let others = doubled_newer b gs old new k s d (λ x at. h x (inr at)) (λ x at. a x (inr at)) in
    λ i. (one i && two i) || others i

-- ---- objects

-- how the members of an object of this shape are renamed
record Keeps (b : Bool) (sh : Shape) : Type 0 where
  counted : Counts b sh
  moved : Moves b sh
  plain : is_template sh.others ≡ false
  kept : rows_keep b sh.rows ≡ true

unmoved : (sh : Shape) → Moves false sh
unmoved sh = λ p k d h. h

kind_keeps : (o : Option Kind) → Keeps (names_map o) (state_shape o)
unfolding untyped_rows task_rows pass_rows choice_rows wait_rows parallel_rows map_rows succeed_rows fail_rows
kind_keeps None = record { counted = unnamed_counts (state_shape None); moved = unmoved (state_shape None); plain = refl; kept = refl }
kind_keeps (Some kind.Task) = record { counted = unnamed_counts (state_shape (Some kind.Task)); moved = unmoved (state_shape (Some kind.Task)); plain = refl; kept = refl }
kind_keeps (Some kind.Pass) = record { counted = unnamed_counts (state_shape (Some kind.Pass)); moved = unmoved (state_shape (Some kind.Pass)); plain = refl; kept = refl }
kind_keeps (Some kind.Choice) = record { counted = unnamed_counts (state_shape (Some kind.Choice)); moved = unmoved (state_shape (Some kind.Choice)); plain = refl; kept = refl }
kind_keeps (Some kind.Wait) = record { counted = unnamed_counts (state_shape (Some kind.Wait)); moved = unmoved (state_shape (Some kind.Wait)); plain = refl; kept = refl }
kind_keeps (Some kind.Parallel) = record { counted = unnamed_counts (state_shape (Some kind.Parallel)); moved = unmoved (state_shape (Some kind.Parallel)); plain = refl; kept = refl }
kind_keeps (Some kind.Map) = record { counted = map_counts; moved = map_moves; plain = refl; kept = refl }
kind_keeps (Some kind.Succeed) = record { counted = unnamed_counts (state_shape (Some kind.Succeed)); moved = unmoved (state_shape (Some kind.Succeed)); plain = refl; kept = refl }
kind_keeps (Some kind.Fail) = record { counted = unnamed_counts (state_shape (Some kind.Fail)); moved = unmoved (state_shape (Some kind.Fail)); plain = refl; kept = refl }

-- what is demanded of an object behind what is demanded of it by itself
abbrev Parts : Spot → Shape → Pairs → Type 0
Parts p sh ms = Each Hold (heres (group_demands sh.groups ms) ++ (member_claims p sh [] 0 ms ++ row_claims (count ms) sh.rows ms))

parts_newer : (p : Spot) (b : Bool) (sh : Shape) (ms : Pairs) → Keeps b sh → Parts p sh ms → (Each Hold (member_claims p sh [] 0 ms) → Each Hold (member_claims p sh [] 0 (newer_members b sh ms))) → Parts p sh (newer_members b sh ms)
parts_newer p b sh ms keeps h inner =
    let ns = newer_members b sh ms in
    let groups = each_left Hold (heres (group_demands sh.groups ms)) (member_claims p sh [] 0 ms ++ row_claims (count ms) sh.rows ms) h in
    let others = each_right Hold (heres (group_demands sh.groups ms)) (member_claims p sh [] 0 ms ++ row_claims (count ms) sh.rows ms) h in
    each-append Hold (heres (group_demands sh.groups ns)) (member_claims p sh [] 0 ns ++ row_claims (count ns) sh.rows ns)
    (subst (λ (cs : List Claim). Each Hold cs) (sym (groups_newer b sh sh.groups ms keeps.counted)) groups)
    (each-append Hold (member_claims p sh [] 0 ns) (row_claims (count ns) sh.rows ns)
    (inner (each_left Hold (member_claims p sh [] 0 ms) (row_claims (count ms) sh.rows ms) others))
    (rows_hold b sh sh.rows ms (count ns) (count ms) keeps.kept (each_right Hold (member_claims p sh [] 0 ms) (row_claims (count ms) sh.rows ms) others)))

-- the names of a machine's states stay
states_named : (k : List ℕ) (o : Option Data) → is_some (value_at k (members_of_any (option_map (newer_value sort.States) o))) ≡ is_some (value_at k (members_of_any o))
states_named k None = refl
states_named k (Some null) = refl
states_named k (Some (boolean b)) = refl
states_named k (Some (number n)) = refl
states_named k (Some (text t)) = refl
states_named k (Some (list ds)) = refl
states_named k (Some (dict ms)) =
    let sh = shape_in sort.States ms in
    ap (λ (o : Option Data). is_some o) (value_at-newer false k sh ms refl) ∙ by (value_at k ms)
  where
    by : (o : Option Data) → is_some (option_map (newer_value (sort_at (shape_in sort.States ms) k)) o) ≡ is_some o
    by None = refl
    by (Some d) = refl

names_newer : (sh : Shape) → sort_at sh (codes "States") ≡ sort.States → (ms : Pairs) → names_in ms ≡ names_in (newer_members false sh ms)
names_newer sh e ms = fun_ext (λ k. sym (
    ap (λ (o : Option Data). is_some (value_at k (members_of_any o))) (value_at-newer false (codes "States") sh ms refl ∙ ap (λ (s : Sort). option_map (newer_value s) (value_at (codes "States") ms)) e)
    ∙ states_named k (value_at (codes "States") ms)))

definition_states : (o : Option Kind) → sort_at (shape_of sort.Definition o) (codes "States") ≡ sort.States
unfolding definition_rows
definition_states o = refl

machine_states : (o : Option Kind) → sort_at (shape_of sort.Machine o) (codes "States") ≡ sort.States
unfolding machine_rows
machine_states o = refl

processor_states : (o : Option Kind) → sort_at (shape_of sort.ItemProcessor o) (codes "States") ≡ sort.States
unfolding item_processor_rows
processor_states o = refl

definition_keeps : (o : Option Kind) → Keeps false (shape_of sort.Definition o)
unfolding definition_rows
definition_keeps o = record { counted = unnamed_counts (shape_of sort.Definition o); moved = unmoved (shape_of sort.Definition o); plain = refl; kept = refl }

machine_keeps : (o : Option Kind) → Keeps false (shape_of sort.Machine o)
unfolding machine_rows
machine_keeps o = record { counted = unnamed_counts (shape_of sort.Machine o); moved = unmoved (shape_of sort.Machine o); plain = refl; kept = refl }

processor_keeps_all : (o : Option Kind) → Keeps false (shape_of sort.ItemProcessor o)
unfolding item_processor_rows
processor_keeps_all o = record { counted = unnamed_counts (shape_of sort.ItemProcessor o); moved = unmoved (shape_of sort.ItemProcessor o); plain = refl; kept = refl }

states_keep : (o : Option Kind) → Keeps false (shape_of sort.States o)
states_keep o = record { counted = unnamed_counts (shape_of sort.States o); moved = unmoved (shape_of sort.States o); plain = refl; kept = refl }

dict_newer : (p : Spot) (s : Sort) (ms : Pairs) → Each Hold (claims p s (dict ms)) → ((q : Spot) (b : Bool) (sh : Shape) → Keeps b sh → Each Hold (member_claims q sh [] 0 ms) → Each Hold (member_claims q sh [] 0 (newer_members b sh ms))) → Each Hold (claims p s (newer_value s (dict ms)))
dict_newer p sort.Definition ms h inner =
    let o = kind_named (value_at (codes "Type") ms) in
    let sh = shape_of sort.Definition o in
    let ns = newer_members false sh ms in
    each-append Hold (heres (demands p sort.Definition (dict ns))) (object_claims p sort.Definition ns) (own_hold p sort.Definition (dict ms) h)
    (subst (λ (names : List ℕ → Bool). Parts (record { names = names; level = one_deeper p.level; ends = p.ends; key = p.key; doubled = p.doubled }) sh ns) (names_newer sh (definition_states o) ms)
    (parts_newer (inside_spot p sort.Definition ms) false sh ms (definition_keeps o) (object_hold p sort.Definition ms refl h) (inner (inside_spot p sort.Definition ms) false sh (definition_keeps o))))
dict_newer p sort.Machine ms h inner =
    let o = kind_named (value_at (codes "Type") ms) in
    let sh = shape_of sort.Machine o in
    let ns = newer_members false sh ms in
    each-append Hold (heres (demands p sort.Machine (dict ns))) (object_claims p sort.Machine ns) (own_hold p sort.Machine (dict ms) h)
    (subst (λ (names : List ℕ → Bool). Parts (record { names = names; level = one_deeper p.level; ends = p.ends; key = p.key; doubled = p.doubled }) sh ns) (names_newer sh (machine_states o) ms)
    (parts_newer (inside_spot p sort.Machine ms) false sh ms (machine_keeps o) (object_hold p sort.Machine ms refl h) (inner (inside_spot p sort.Machine ms) false sh (machine_keeps o))))
dict_newer p sort.ItemProcessor ms h inner =
    let o = kind_named (value_at (codes "Type") ms) in
    let sh = shape_of sort.ItemProcessor o in
    let ns = newer_members false sh ms in
    each-append Hold (heres (demands p sort.ItemProcessor (dict ns))) (object_claims p sort.ItemProcessor ns) (own_hold p sort.ItemProcessor (dict ms) h)
    (subst (λ (names : List ℕ → Bool). Parts (record { names = names; level = one_deeper p.level; ends = p.ends; key = p.key; doubled = p.doubled }) sh ns) (names_newer sh (processor_states o) ms)
    (parts_newer (inside_spot p sort.ItemProcessor ms) false sh ms (processor_keeps_all o) (object_hold p sort.ItemProcessor ms refl h) (inner (inside_spot p sort.ItemProcessor ms) false sh (processor_keeps_all o))))
dict_newer p sort.States ms h inner =
    let o = kind_named (value_at (codes "Type") ms) in
    let sh = shape_of sort.States o in
    let ns = newer_members false sh ms in
    each-append Hold (heres (demands p sort.States (dict ns))) (object_claims p sort.States ns) (own_hold p sort.States (dict ms) h)
    (parts_newer p false sh ms (states_keep o) (object_hold p sort.States ms refl h) (inner p false sh (states_keep o)))
dict_newer p sort.State ms h inner =
    let o = kind_named (value_at (codes "Type") ms) in
    let sh = state_shape o in
    let ns = inside sort.State ms in
    each-append Hold (heres (demands p sort.State (dict ns))) (object_claims p sort.State ns) (own_hold p sort.State (dict ms) h)
    (subst (λ (x : Option Kind). Parts p (state_shape x) ns) (sym (kind_newer ms))
    (parts_newer p (names_map o) sh ms (kind_keeps o) (object_hold p sort.State ms refl h) (inner p (names_map o) sh (kind_keeps o))))
dict_newer p sort.Machines ms h inner = subst (λ (x : Pairs). Each Hold (claims p sort.Machines (dict x))) (sym (members_leaf (shape_in sort.Machines ms) ms (λ k. refl))) h
dict_newer p s ms h inner = h

-- ---- lists

newer_nonempty : (s : Sort) (ds : Chain) → is_nonempty (newer_items s ds) ≡ is_nonempty ds
newer_nonempty s no_items = refl
newer_nonempty s (item d ds) = refl

newer_count : (s : Sort) (ds : Chain) → item_count (newer_items s ds) ≡ item_count ds
newer_count s no_items = refl
newer_count s (item d ds) = ap suc (newer_count s ds)

list_newer : (p : Spot) (s : Sort) (ds : Chain) → Each Hold (claims p s (list ds)) → (Each Hold (item_claims p sort.Machine 0 ds) → Each Hold (item_claims p sort.Machine 0 (newer_items sort.Machine ds))) → Each Hold (claims p s (newer_value s (list ds)))
list_newer p sort.Machines ds h rest =
    let cs = newer_items sort.Machine ds in
    let own = own_hold p sort.Machines (list ds) h in
    let many : (is_nonempty cs && nat_le (item_count cs) 999999999) ≡ true = rw (newer_nonempty sort.Machine ds, newer_count sort.Machine ds) own.1.1.0 in
    each-append Hold (heres (demands p sort.Machines (list cs))) (item_claims p sort.Machine 0 cs) (own.0, (own.1.0, (many, tt))) (rest (each_right Hold (heres (demands p sort.Machines (list ds))) (item_claims p sort.Machine 0 ds) h))
list_newer p sort.Definition ds h rest = subst (λ (x : Chain). Each Hold (claims p sort.Definition (list x))) (sym (items_leaf sort.Any ds refl)) h
list_newer p sort.Machine ds h rest = subst (λ (x : Chain). Each Hold (claims p sort.Machine (list x))) (sym (items_leaf sort.Any ds refl)) h
list_newer p sort.ItemProcessor ds h rest = subst (λ (x : Chain). Each Hold (claims p sort.ItemProcessor (list x))) (sym (items_leaf sort.Any ds refl)) h
list_newer p sort.States ds h rest = subst (λ (x : Chain). Each Hold (claims p sort.States (list x))) (sym (items_leaf sort.Any ds refl)) h
list_newer p sort.State ds h rest = subst (λ (x : Chain). Each Hold (claims p sort.State (list x))) (sym (items_leaf sort.Any ds refl)) h
list_newer p s ds h rest = h

-- ---- every value

or_off : (a b : Bool) → a ≡ false → b ≡ false → (a || b) ≡ false
or_off a b p q = λ i. both (p i) (q i)
  where
    both : Bool → Bool → Bool
    both x y = x || y

off_and : (a b : Bool) → a ≡ false → (a && b) ≡ false
off_and a b p = ap (λ (x : Bool). x && b) p

mutual
  pub claims_newer : (p : Spot) (s : Sort) (d : Data) → Each Hold (claims p s d) → Each Hold (claims p s (newer_value s d))
  claims_newer p s null h = h
  claims_newer p s (boolean b) h = h
  claims_newer p s (number n) h = h
  claims_newer p s (text t) h = h
  claims_newer p s (list ds) h = list_newer p s ds h (λ g. items_newer p sort.Machine 0 ds g)
  claims_newer p s (dict ms) h = dict_newer p s ms h (λ q b sh keeps g. members_newer q b sh keeps [] [] 0 ms (λ x at. refl) g)

  items_newer : (p : Spot) (s : Sort) (i : ℕ) (ds : Chain) → Each Hold (item_claims p s i ds) → Each Hold (item_claims p s i (newer_items s ds))
  items_newer p s i no_items h = tt
  items_newer p s i (item d ds) h =
      let place = step i (decimal i) in
      let spot = at_item p (not (is_nonempty ds)) in
      let part = map (under place) (claims spot s d) in
      let rest = item_claims p s (suc i) ds in
      let own = claims_newer spot s d (each_under place (claims spot s d) (each_left Hold part rest h)) in
      let placed : Each Hold (claims (at_item p (not (is_nonempty (newer_items s ds)))) s (newer_value s d)) = subst (λ (b : Bool). Each Hold (claims (at_item p (not b)) s (newer_value s d))) (sym (newer_nonempty s ds)) own in
      each-append Hold (map (under place) (claims (at_item p (not (is_nonempty (newer_items s ds)))) s (newer_value s d))) (item_claims p s (suc i) (newer_items s ds))
      (under_holds place (claims (at_item p (not (is_nonempty (newer_items s ds)))) s (newer_value s d)) placed)
      (items_newer p s (suc i) ds (each_right Hold part rest h))

  members_newer : (p : Spot) (b : Bool) (sh : Shape) → Keeps b sh → (old new : Members) (i : ℕ) (ms : Pairs) → Alike sh old new → Each Hold (member_claims p sh old i ms) → Each Hold (member_claims p sh new i (newer_members b sh ms))
  members_newer p b sh keeps old new i no_members alike h = tt
  members_newer p b sh keeps old new i (member k d ms) alike h =
      let spot = at_member p sh old k d in
      let part = map (under (step i k)) (claims spot (sort_at sh k) d) in
      let rest = member_claims p sh (old ++ (k, d) ∷ []) (suc i) ms in
      let own = each_under (step i k) (claims spot (sort_at sh k) d) (each_left Hold part rest h) in
      let single : spot.doubled ≡ false = not_true spot.doubled (own_hold spot (sort_at sh k) d own).0 in
      let free : Each Hold (claims (member_spot p k false) (sort_at sh k) d) = subst (λ (x : Bool). Each Hold (claims (member_spot p k x) (sort_at sh k) d)) single own in
      let v = newer_value (sort_at sh k) d in
      let l = renamed b k in
      let moved = keeps.moved p k v (claims_newer (member_spot p k false) (sort_at sh k) d free) in
      let was : is_doubled sh.groups old k d ≡ false = (neither_is (is_doubled sh.groups old k d) (is_twice sh.others old k) single).0 in
      let is : is_doubled sh.groups new l v ≡ false = doubled_newer b sh.groups old new k (sort_at sh k) d (λ g at. keeps.counted g at k (sort_at sh k) d) alike ∙ was in
      let off : (at_member p sh new l v).doubled ≡ false = or_off (is_doubled sh.groups new l v) (is_twice sh.others new l) is (off_and (is_template sh.others) _ keeps.plain) in
      let placed : Each Hold (claims (at_member p sh new l v) (sort_at sh l) v) = subst (λ (x : Bool). Each Hold (claims (member_spot p l x) (sort_at sh l) v)) (sym off) moved in
      each-append Hold (map (under (step i l)) (claims (at_member p sh new l v) (sort_at sh l) v)) (member_claims p sh (new ++ (l, v) ∷ []) (suc i) (newer_members b sh ms))
      (under_holds (step i l) (claims (at_member p sh new l v) (sort_at sh l) v) placed)
      (members_newer p b sh keeps (old ++ (k, d) ∷ []) (new ++ (l, v) ∷ []) (suc i) ms (alike_push b sh old new k (sort_at sh k) d keeps.counted alike) (each_right Hold part rest h))
