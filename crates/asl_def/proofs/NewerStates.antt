-- The states of a definition in the newer spelling are its states in the newer spelling.
use Rattle.std.proofs.Common.{◌≡◌, ℕ, suc, List, [], ◌∷◌, ◌++◌, length, Bool, true, false, refl, sym, ap, ◌∙◌}
use Rattle.std.specs.Prelude.{Option, Some, None, option_map, codes, if◌then◌else◌}
use Rattle.std.proofs.lemmas.List.{map-append}
use Rattle.asl_json_data.specs.Data.{Data, null, boolean, number, text, list, dict, Chain, no_items, item, Pairs, no_members, member, pairs}
use Rattle.asl_json.specs.Same.{bytes_eq}
use Rattle.asl_json.specs.Meaning.{value_at, value_in}
use Rattle.asl_json.specs.View.{unpaired}
use Rattle.asl_def_schema.specs.declared.sort.Sort.{Sort}
use Rattle.asl_def_schema.specs.declared.sort.Sort.TheVariants as sort
use Rattle.asl_def_schema.specs.declared.sort.Kind.{Kind}
use Rattle.asl_def_schema.specs.declared.sort.Kind.TheVariants as kind
use Rattle.asl_def_schema.specs.Members.{Shape, shape_of, shape_in, sort_at, item_sort, state_shape, kind_named, definition_rows, map_rows}
use Rattle.asl_def_schema.specs.Canon.{Named}
use Rattle.asl_def.specs.Machines.{holds_states, own_states, all_states, states_of_items, states_of_members, states_of, state_count, state_object, number_at, state_number}
use Rattle.asl_def.specs.Upgraded.{renamed, names_map, map_in, newer_value, newer_items, newer_members, upgraded, newer_row, newer_rows}
use Rattle.asl_def.proofs.Newer.{by_name, member_same, inside, open_list, open_dict, machine_shape, processor_shape, alike_inside, map_shape, again_inside}

-- ---- those of a value

none_held : (s : Sort) (d : Data) → holds_states s ≡ false → all_states s d ≡ []
none_held s null e = refl
none_held s (boolean b) e = refl
none_held s (number n) e = refl
none_held s (text t) e = refl
none_held s (list ds) e = rw e refl
none_held s (dict ms) e = rw e refl

held_list : (s : Sort) (ds : Chain) → holds_states s ≡ true → all_states s (list ds) ≡ states_of_items (item_sort s) ds
held_list s ds e = rw e refl

held_dict : (s : Sort) (ms : Pairs) → holds_states s ≡ true → all_states s (dict ms) ≡ states_of_members (shape_in s ms) ms ++ own_states s ms
held_dict s ms e = rw e refl

-- of a machine, under the one name or the other
machine_members_states : (ms : Pairs) → states_of_members machine_shape ms ≡ states_of_members processor_shape ms
machine_members_states no_members = refl
machine_members_states (member k d ms) =
    let same : all_states (sort_at machine_shape k) d ≡ all_states (sort_at processor_shape k) d = alike_inside (λ (s : Sort). all_states s d) k (λ s t p q. none_held s d p ∙ sym (none_held t d q)) in
    λ i. same i ++ machine_members_states ms i

machine_states_same : (d : Data) → all_states sort.Machine d ≡ all_states sort.ItemProcessor d
machine_states_same null = refl
machine_states_same (boolean b) = refl
machine_states_same (number n) = refl
machine_states_same (text t) = refl
machine_states_same (list ds) = refl
machine_states_same (dict ms) = ap (λ (xs : List Named). xs ++ []) (machine_members_states ms)

-- a renamed member is of a sort by which its value has the same states
abbrev Holds : Bool → Shape → Type 0
Holds b sh = (k : List ℕ) (d : Data) → all_states (sort_at sh (renamed b k)) d ≡ all_states (sort_at sh k) d

map_holds : Holds true map_shape
unfolding map_rows
map_holds k d = by_name (λ (m n : List ℕ). all_states (sort_at map_shape n) d ≡ all_states (sort_at map_shape m) d) (sym (machine_states_same d)) refl (λ m p q. refl) k

kind_holds : (o : Option Kind) → Holds (names_map o) (state_shape o)
kind_holds None = λ k d. refl
kind_holds (Some kind.Task) = λ k d. refl
kind_holds (Some kind.Pass) = λ k d. refl
kind_holds (Some kind.Choice) = λ k d. refl
kind_holds (Some kind.Wait) = λ k d. refl
kind_holds (Some kind.Parallel) = λ k d. refl
kind_holds (Some kind.Map) = map_holds
kind_holds (Some kind.Succeed) = λ k d. refl
kind_holds (Some kind.Fail) = λ k d. refl

holds_in : (s : Sort) (ms : Pairs) → Holds (map_in s ms) (shape_in s ms)
holds_in sort.State ms = kind_holds (kind_named (value_at (codes "Type") ms))
holds_in s ms = λ k d. refl

states_newer : (o : Option Kind) (ms : Pairs) → unpaired (newer_members false (shape_of sort.States o) ms) ≡ newer_rows (unpaired ms)
states_newer o no_members = refl
states_newer o (member k d ms) = ap (λ (xs : List Named). (k, newer_value sort.State d) ∷ xs) (states_newer o ms)

own_newer : (s : Sort) (ms : Pairs) → own_states s (inside s ms) ≡ newer_rows (own_states s ms)
own_newer sort.States ms = states_newer (kind_named (value_at (codes "Type") ms)) ms
own_newer s ms = refl

both_newer : (cs bs xs ys : List Named) → cs ≡ newer_rows xs → bs ≡ newer_rows ys → cs ++ bs ≡ newer_rows (xs ++ ys)
both_newer cs bs xs ys e f = (λ i. e i ++ f i) ∙ sym (map-append newer_row xs ys)

mutual
  pub all_newer : (s : Sort) (d : Data) → all_states s (newer_value s d) ≡ newer_rows (all_states s d)
  all_newer s null = refl
  all_newer s (boolean b) = refl
  all_newer s (number n) = refl
  all_newer s (text t) = refl
  all_newer s (list ds) = by (holds_states s) refl (items_newer (item_sort s) ds)
    where
      by : (b : Bool) → holds_states s ≡ b → states_of_items (item_sort s) (newer_items (item_sort s) ds) ≡ newer_rows (states_of_items (item_sort s) ds) → all_states s (newer_value s (list ds)) ≡ newer_rows (all_states s (list ds))
      by true e h = ap (all_states s) (open_list s ds e) ∙ held_list s (newer_items (item_sort s) ds) e ∙ h ∙ ap newer_rows (sym (held_list s ds e))
      by false e h = none_held s (newer_value s (list ds)) e ∙ ap newer_rows (sym (none_held s (list ds) e))
  all_newer s (dict ms) = by (holds_states s) refl (members_newer (map_in s ms) (shape_in s ms) ms (holds_in s ms))
    where
      by : (b : Bool) → holds_states s ≡ b → states_of_members (shape_in s ms) (inside s ms) ≡ newer_rows (states_of_members (shape_in s ms) ms) → all_states s (newer_value s (dict ms)) ≡ newer_rows (all_states s (dict ms))
      by true e h =
          ap (all_states s) (open_dict s ms e) ∙ held_dict s (inside s ms) e
          ∙ both_newer (states_of_members (shape_in s (inside s ms)) (inside s ms)) (own_states s (inside s ms)) (states_of_members (shape_in s ms) ms) (own_states s ms) (again_inside (λ (b : Bool) (sh : Shape) (xs : Pairs). states_of_members sh xs) s ms ∙ h) (own_newer s ms)
          ∙ ap newer_rows (sym (held_dict s ms e))
      by false e h = none_held s (newer_value s (dict ms)) e ∙ ap newer_rows (sym (none_held s (dict ms) e))

  items_newer : (s : Sort) (ds : Chain) → states_of_items s (newer_items s ds) ≡ newer_rows (states_of_items s ds)
  items_newer s no_items = refl
  items_newer s (item d ds) = both_newer (all_states s (newer_value s d)) (states_of_items s (newer_items s ds)) (all_states s d) (states_of_items s ds) (all_newer s d) (items_newer s ds)

  members_newer : (b : Bool) (sh : Shape) (ms : Pairs) → Holds b sh → states_of_members sh (newer_members b sh ms) ≡ newer_rows (states_of_members sh ms)
  members_newer b sh no_members h = refl
  members_newer b sh (member k d ms) h =
      both_newer (all_states (sort_at sh (renamed b k)) (newer_value (sort_at sh k) d)) (states_of_members sh (newer_members b sh ms)) (all_states (sort_at sh k) d) (states_of_members sh ms)
      (h k (newer_value (sort_at sh k) d) ∙ all_newer (sort_at sh k) d) (members_newer b sh ms h)

-- ---- those of a definition

pub states_upgraded : (d : Data) → states_of (upgraded d) ≡ newer_rows (states_of d)
states_upgraded d = all_newer sort.Definition d

count_rows : (xs : List Named) → length (newer_rows xs) ≡ length xs
count_rows [] = refl
count_rows (x ∷ xs) = ap suc (count_rows xs)

pub rows_counted : (xs : List Named) → length (newer_rows xs) ≡ length xs
rows_counted xs = count_rows xs

-- there are as many
pub count_upgraded : (d : Data) → state_count (upgraded d) ≡ state_count d
count_upgraded d = ap (λ (xs : List Named). length xs) (states_upgraded d) ∙ count_rows (states_of d)

pub value_at-rows : (k : List ℕ) (xs : List Named) → value_at k (pairs (newer_rows xs)) ≡ option_map (newer_value sort.State) (value_at k (pairs xs))
value_at-rows k [] = refl
value_at-rows k (x ∷ xs) = by (bytes_eq k x.0) (value_at-rows k xs)
  where
    by : (b : Bool) → value_at k (pairs (newer_rows xs)) ≡ option_map (newer_value sort.State) (value_at k (pairs xs)) → (if b then Some (newer_value sort.State x.1) else value_at k (pairs (newer_rows xs))) ≡ option_map (newer_value sort.State) (if b then Some x.1 else value_at k (pairs xs))
    by true h = refl
    by false h = h

-- the state of each name is that one in the newer spelling
pub object_upgraded : (k : List ℕ) (d : Data) → state_object k (upgraded d) ≡ option_map (newer_value sort.State) (state_object k d)
object_upgraded k d = ap (λ (xs : List Named). value_at k (pairs xs)) (states_upgraded d) ∙ value_at-rows k (states_of d)

number_rows : (k : List ℕ) (xs : List Named) → number_at k (pairs (newer_rows xs)) ≡ number_at k (pairs xs)
number_rows k [] = refl
number_rows k (x ∷ xs) = ap (λ (o : Option ℕ). if bytes_eq k x.0 then Some 0 else option_map suc o) (number_rows k xs)

-- and has its number
pub number_upgraded : (k : List ℕ) (d : Data) → state_number k (upgraded d) ≡ state_number k d
number_upgraded k d = ap (λ (xs : List Named). number_at k (pairs xs)) (states_upgraded d) ∙ number_rows k (states_of d)

-- a member of the definition itself stays, where it holds no states
in_definition : (k : List ℕ) → ((o : Option Kind) → holds_states (sort_at (shape_of sort.Definition o) k) ≡ false) → (d : Data) → value_in k (upgraded d) ≡ value_in k d
in_definition k e null = refl
in_definition k e (boolean b) = refl
in_definition k e (number n) = refl
in_definition k e (text t) = refl
in_definition k e (list ds) = refl
in_definition k e (dict ms) = let o = kind_named (value_at (codes "Type") ms) in member_same false k (shape_of sort.Definition o) ms refl (e o)

pub start_upgraded : (d : Data) → value_in (codes "StartAt") (upgraded d) ≡ value_in (codes "StartAt") d
unfolding definition_rows
start_upgraded d = in_definition (codes "StartAt") (λ o. refl) d

pub timeout_upgraded : (d : Data) → value_in (codes "TimeoutSeconds") (upgraded d) ≡ value_in (codes "TimeoutSeconds") d
unfolding definition_rows
timeout_upgraded d = in_definition (codes "TimeoutSeconds") (λ o. refl) d
